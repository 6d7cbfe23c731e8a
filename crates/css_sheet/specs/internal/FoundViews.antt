-- What contracts of private functions see of the pieces of an import and of a namespace rule.
use Rattle.std.specs.Prelude.{ℕ, List, Option}
use Rattle.std.specs.Option.{option_map}
use Rattle.css_sheet.specs.declared.import_rules.FoundUrl.{FoundUrl}
use Rattle.css_sheet.specs.declared.import_rules.FoundLayer.{FoundLayer}
use Rattle.css_sheet.specs.declared.import_rules.FoundSupports.{FoundSupports}
use Rattle.css_sheet.specs.declared.namespace_rules.FoundNamespace.{FoundNamespace}
use Rattle.css_sheet.specs.ImportRules.{UrlText, ImportLayer}
use Rattle.css_sheet.specs.ImportViews.{url_of, layer_of}
use Rattle.css_sheet.specs.NamespaceRules.{NamespaceText}

-- a url, and the rest after it
abbrev pub found_url : FoundUrl → UrlText × List ℕ
found_url f = (url_of f.url, f.rest.now)

-- a layer, and the rest after it
abbrev pub found_layer : FoundLayer → ImportLayer × List ℕ
found_layer f = (layer_of f.layer, f.rest.now)

abbrev pub found_supports : FoundSupports → Option (List ℕ) × List ℕ
found_supports f = (option_map (λ condition. condition.now) f.supports, f.rest.now)

abbrev pub found_namespace : FoundNamespace → NamespaceText
found_namespace f = record {
  prefix = option_map (λ prefix. prefix.now) f.prefix;
  url = url_of f.url;
}
