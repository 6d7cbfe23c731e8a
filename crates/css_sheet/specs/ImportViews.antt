-- What contracts see of imports.
use Rattle.std.specs.Option.{option_map}
use Rattle.css_sheet.specs.declared.import_rules.ImportUrl.{ImportUrl}
use Rattle.css_sheet.specs.declared.import_rules.ImportUrl.TheVariants as urls
use Rattle.css_sheet.specs.declared.import_rules.ImportLayer.{ImportLayer}
use Rattle.css_sheet.specs.declared.import_rules.ImportLayer.TheVariants as layers
use Rattle.css_sheet.specs.declared.import_rules.Import.{Import}
use Rattle.css_sheet.specs.ImportRules.{UrlText, quoted, bare, unlayered, layered, layered_as, ImportText}
use Rattle.css_sheet.specs.ImportRules.{ImportLayer as LayerText}

abbrev pub url_of : ImportUrl → UrlText
url_of (urls.Quoted text) = quoted text.now
url_of (urls.Bare text) = bare text.now

abbrev pub layer_of : ImportLayer → LayerText
layer_of layers.Unlayered = unlayered
layer_of layers.Anonymous = layered
layer_of (layers.Named name) = layered_as name.now

abbrev pub import_of : Import → ImportText
import_of i = record {
  start = i.start;
  size = i.size;
  url = url_of i.url;
  layer = layer_of i.layer;
  supports = option_map (λ condition. condition.now) i.supports;
  media = i.media.now;
}
