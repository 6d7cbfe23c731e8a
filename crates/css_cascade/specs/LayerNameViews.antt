-- What contracts see of names of layers.
use Rattle.std.specs.Prelude.{ℕ, List, map}
use Rattle.css_cascade.specs.Layers.{LayerPart}
use Rattle.css_cascade.specs.LayerViews.{part_of}
use Rattle.css_cascade.specs.declared.names.ReadPart.{ReadPart}
use Rattle.css_cascade.specs.declared.names.LayerName.{LayerName}
use Rattle.css_cascade.specs.declared.names.ReadName.{ReadName}

-- a part, and the rest after it
abbrev pub read_part_of : ReadPart → LayerPart × List ℕ
read_part_of r = (part_of r.part, r.rest.now)

abbrev pub name_of : LayerName → List LayerPart
name_of n = map part_of n.parts.items

-- a name, and the rest after it
abbrev pub read_name_of : ReadName → List LayerPart × List ℕ
read_name_of r = (name_of r.name, r.rest.now)
