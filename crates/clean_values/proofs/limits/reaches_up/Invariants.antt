use Rattle.std.proofs.Common.{◌≡◌, length}
use Rattle.css_syntax.specs.TokenLists.{tokens}
use Rattle.clean_values.specs.Limits.{reaches_up}
use Rattle.clean_values.proofs.limits.reaches_up.Given as goal

-- What is left decides.
abbrev pub invariant-tokens : goal.invariant-tokens
invariant-tokens l = reaches_up (tokens l.limit) l.it ≡ reaches_up (tokens l.rest) l.it

abbrev pub decreases-tokens : goal.decreases-tokens
decreases-tokens l = length l.rest
