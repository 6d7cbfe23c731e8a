use Rattle.std.proofs.Common.{◌≡◌, length}
use Rattle.css_syntax.specs.TokenLists.{tokens}
use Rattle.clean_values.specs.Limits.{all_keep}
use Rattle.clean_values.proofs.limits.are_kept.Given as goal

-- What is left decides.
abbrev pub invariant-tokens : goal.invariant-tokens
invariant-tokens l = all_keep l.limit (tokens l.value) ≡ all_keep l.limit (tokens l.rest)

abbrev pub decreases-tokens : goal.decreases-tokens
decreases-tokens l = length l.rest
