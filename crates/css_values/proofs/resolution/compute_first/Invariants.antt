use Rattle.std.proofs.Common.{◌-◌, ◌≤◌}
use Rattle.css_values.specs.internal.Paths.{Resolving}
use Rattle.css_values.proofs.resolution.compute_first.Given as goal

-- The first ones are computed, and none is being read.
abbrev pub invariant-numbers : goal.invariant-numbers
invariant-numbers l = (l.number ≤ l.count) × Resolving l.limit l.table l.slots l.number

abbrev pub decreases-numbers : goal.decreases-numbers
decreases-numbers l = l.count - l.number
