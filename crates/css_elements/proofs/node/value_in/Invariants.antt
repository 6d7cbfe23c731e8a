use Rattle.std.proofs.Common.{◌≡◌, map, drop}
use Rattle.css_elements.specs.TreeNodes.{value_in}
use Rattle.css_elements.specs.Rows.{attribute_of}
use Rattle.css_elements.proofs.node.value_in.Given as goal

-- the value is that among what is left
abbrev pub invariant-loop-key : goal.invariant-loop-key
invariant-loop-key l = value_in (map attribute_of l.attributes) l.name
    ≡ value_in (map attribute_of (drop l.key-index l.attributes)) l.name
