use Rattle.std.proofs.Common.{◌-◌, ◌≤◌, drop, length}
use Rattle.css_values.proofs.StepLemmas.{Clearing}
use Rattle.css_values.proofs.resolution.clear.Given as goal

-- Those that were passed are invalid.
abbrev pub invariant-members : goal.invariant-members
invariant-members l =
    (l.index ≤ length l.numbers)
    × Clearing l.initial.slots l.numbers (drop l.index l.numbers) l.slots

abbrev pub decreases-members : goal.decreases-members
decreases-members l = length l.numbers - l.index
