use Rattle.std.proofs.Common.{◌≡◌, false, length}
use Rattle.css_syntax.specs.TokenLists.{tokens}
use Rattle.clean_values.specs.Selectors.{are_named}
use Rattle.clean_values.proofs.selectors.are_named.Given as goal

-- What is left decides, after a full stop or not.
abbrev pub invariant-tokens : goal.invariant-tokens
invariant-tokens l = are_named l.prefix false (tokens l.text) ≡ are_named l.prefix l.stop (tokens l.rest)

abbrev pub decreases-tokens : goal.decreases-tokens
decreases-tokens l = length l.rest
