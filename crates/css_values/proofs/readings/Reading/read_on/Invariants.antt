use Rattle.std.proofs.Common.{◌≡◌}
use Rattle.css_values.specs.Views.{seen_of}
use Rattle.css_values.specs.internal.Readings.{Same, reading_of, size}
use Rattle.css_values.proofs.readings.Reading.read_on.Given as goal

-- The value comes to the same.
abbrev pub invariant-turns : goal.invariant-turns
invariant-turns l =
    (l.self.number ≡ l.initial.self.number)
    × Same l.limit l.table (seen_of l.seen) (reading_of l.initial.self) (reading_of l.self)

abbrev pub decreases-turns : goal.decreases-turns
decreases-turns l = size (reading_of l.self)
