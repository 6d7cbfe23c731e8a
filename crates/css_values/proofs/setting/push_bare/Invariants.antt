use Rattle.std.proofs.Common.{◌≡◌, ◌++◌, length, map}
use Rattle.css_values.specs.Registered.{bare}
use Rattle.css_values.specs.Views.{property_of, stated_of}
use Rattle.css_values.proofs.setting.push_bare.Given as goal

-- Those that were appended, and what is left.
abbrev pub invariant-properties : goal.invariant-properties
invariant-properties l =
    map property_of l.found.items ++ map bare (map stated_of l.left)
    ≡ map property_of l.fn.found.items ++ map bare (map stated_of l.properties)

abbrev pub decreases-properties : goal.decreases-properties
decreases-properties l = length l.left
