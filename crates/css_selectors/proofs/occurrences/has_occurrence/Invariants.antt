use Rattle.std.proofs.Common.{◌≤◌, ◌-◌, length}
use Rattle.memchr.specs.Find.{Nowhere}
use Rattle.css_selectors.specs.internal.Occurrences.{OccursAt}
use Rattle.css_selectors.proofs.occurrences.has_occurrence.Given as goal

abbrev pub invariant-loop-index : goal.invariant-loop-index
invariant-loop-index l =
    (l.index ≤ length l.value) × Nowhere (OccursAt l.ignores_case l.text l.value) 0 l.index

abbrev pub decreases-loop-index : goal.decreases-loop-index
decreases-loop-index l = length l.value - l.index
