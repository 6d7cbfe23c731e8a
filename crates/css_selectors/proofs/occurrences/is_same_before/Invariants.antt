use Rattle.std.proofs.Common.{◌≡◌, ℕ, ◌+◌, ◌<◌}
use Rattle.css_selectors.specs.internal.Occurrences.{folded_at}
use Rattle.css_selectors.proofs.occurrences.is_same_before.Given as goal

abbrev pub invariant-loop-k : goal.invariant-loop-k
invariant-loop-k l = (j : ℕ) → j < l.k
    → folded_at l.ignores_case l.text j ≡ folded_at l.ignores_case l.value (l.index + j)
