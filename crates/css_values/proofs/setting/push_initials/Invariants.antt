use Rattle.std.proofs.Common.{◌≡◌, ◌++◌, length, map}
use Rattle.css_values.specs.Registered.{initials}
use Rattle.css_values.specs.Views.{property_of, registration_of}
use Rattle.css_values.proofs.setting.push_initials.Given as goal

-- Those that were appended, and what is left.
abbrev pub invariant-registrations : goal.invariant-registrations
invariant-registrations l =
    map property_of l.found.items ++ initials (map registration_of l.left)
    ≡ map property_of l.fn.found.items ++ initials (map registration_of l.registered)

abbrev pub decreases-registrations : goal.decreases-registrations
decreases-registrations l = length l.left
