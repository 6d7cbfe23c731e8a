use Rattle.std.proofs.Common.{◌≡◌, ◌++◌, length, map, option_map}
use Rattle.css_values.specs.Registered.{values_of}
use Rattle.css_values.specs.Views.{property_of, stage_of, value_of}
use Rattle.css_values.proofs.setting.values_of.Given as goal

-- Those that were found, and what is left.
abbrev pub invariant-properties : goal.invariant-properties
invariant-properties l =
    map (option_map value_of) l.found.items ++ values_of (map property_of l.left) (stage_of l.known)
    ≡ values_of (map property_of l.properties) (stage_of l.slots)

abbrev pub decreases-properties : goal.decreases-properties
decreases-properties l = length l.left
