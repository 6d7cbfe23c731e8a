-- What contracts see of layers.
use Rattle.std.specs.Prelude.{List, map}
use Rattle.std.specs.Cow.{cow_str_bytes}
use Rattle.css_cascade.specs.declared.layers.LayerPart.{LayerPart}
use Rattle.css_cascade.specs.declared.layers.LayerPart.TheVariants as parts
use Rattle.css_cascade.specs.declared.layers.Layers.{Layers}
use Rattle.css_cascade.specs.declared.layers.KnownLayer.{KnownLayer}
use Rattle.css_cascade.specs.Layers.{LayerText, named, anonymous, outermost}
use Rattle.css_cascade.specs.Layers.{LayerPart as PartText}

abbrev pub part_of : LayerPart → PartText
part_of (parts.Named name) = named (cow_str_bytes name)
part_of (parts.Anonymous place) = anonymous place
part_of parts.Outermost = outermost

abbrev pub known_layer : KnownLayer → LayerText
known_layer k = record { number = k.number; outer = k.outer; part = part_of k.part }

-- the layers that are known, in the order of the cascade
abbrev pub known_of : Layers → List LayerText
known_of l = map known_layer l.known.items
