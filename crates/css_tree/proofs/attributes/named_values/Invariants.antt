use Rattle.std.proofs.Common.{◌-◌, length, drop, map}
use Rattle.css_elements.specs.Rows.{attribute_of}
use Rattle.css_tree.specs.Attributes.{AreNamed}
use Rattle.css_tree.proofs.attributes.named_values.Given as goal

-- the last attributes are named
abbrev pub invariant-loop-after : goal.invariant-loop-after
invariant-loop-after l =
    AreNamed l.values (map attribute_of (drop (length l.attributes - l.after) l.attributes))
