use Rattle.std.proofs.Common.{◌≡◌, length}
use Rattle.css_syntax.specs.TokenLists.{tokens}
use Rattle.clean_values.specs.Values.{has_loader}
use Rattle.clean_values.proofs.values.has_loader.Given as goal

-- What is left decides.
abbrev pub invariant-tokens : goal.invariant-tokens
invariant-tokens l = has_loader (tokens l.text) ≡ has_loader (tokens l.rest)

abbrev pub decreases-tokens : goal.decreases-tokens
decreases-tokens l = length l.rest
