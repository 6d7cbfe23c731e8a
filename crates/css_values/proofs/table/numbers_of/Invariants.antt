use Rattle.std.proofs.Common.{◌≡◌, ◌≤◌, ℕ, List, map, drop, length}
use Rattle.std.specs.BTreeMap.{get_by_text}
use Rattle.css_values.specs.Resolution.{number_from}
use Rattle.css_values.specs.Views.{property_of}
use Rattle.css_values.proofs.table.numbers_of.Given as goal

-- Those from this number on have their numbers.
abbrev pub invariant-properties : goal.invariant-properties
invariant-properties l =
    (l.number ≤ length l.properties)
    × ((name : List ℕ) → get_by_text l.numbers name
    ≡ number_from l.number (drop l.number (map property_of l.properties)) name)

abbrev pub decreases-properties : goal.decreases-properties
decreases-properties l = l.number
