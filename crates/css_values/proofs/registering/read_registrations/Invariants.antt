use Rattle.std.proofs.Common.{◌≡◌, ◌≤◌, ◌++◌, length, map, take}
use Rattle.css_values.specs.Registrations.{registrations_of}
use Rattle.css_values.specs.Views.{registration_of, stated_of}
use Rattle.css_values.proofs.registering.read_registrations.Given as goal

-- Those of the rules from this number on were found.
abbrev pub invariant-rules : goal.invariant-rules
invariant-rules l =
    (l.number ≤ length l.rules)
    × (map registration_of l.found.items ++ registrations_of (take l.number (map stated_of l.rules))
    ≡ registrations_of (map stated_of l.rules))

abbrev pub decreases-rules : goal.decreases-rules
decreases-rules l = l.number
