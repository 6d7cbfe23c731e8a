use Rattle.std.proofs.Common.{◌≡◌, ℕ, ◌+◌, ◌≤◌, length}
use Rattle.css_syntax.specs.ComponentValues.{past_open, past_deep}
use Rattle.css_syntax.proofs.component_values.past_deep.Given as goal

-- In as many steps as bytes are left, or more, what is left is skipped.
abbrev pub invariant-values : goal.invariant-values
invariant-values l = record {
  reads : (n : ℕ) → length l.rest ≤ n → past_open n l.depth l.rest ≡ past_deep l.bytes;
  few : l.depth + length l.rest ≤ 1 + length l.bytes;
}

abbrev pub decreases-values : goal.decreases-values
decreases-values l = length l.rest
