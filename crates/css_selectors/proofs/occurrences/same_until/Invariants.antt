use Rattle.std.proofs.Common.{◌≡◌, ℕ, ◌+◌, ◌-◌, ◌<◌, ◌≤◌, length}
use Rattle.css_selectors.specs.internal.Occurrences.{folded_at}
use Rattle.css_selectors.proofs.occurrences.same_until.Given as goal

abbrev pub invariant-loop-to : goal.invariant-loop-to
invariant-loop-to l = (l.from ≤ l.to) × (l.to ≤ length l.text)
    × ((k : ℕ) → l.from ≤ k → k < l.to
    → folded_at l.ignores_case l.text k ≡ folded_at l.ignores_case l.value (l.index + k))

abbrev pub decreases-loop-to : goal.decreases-loop-to
decreases-loop-to l = length l.text - l.to
