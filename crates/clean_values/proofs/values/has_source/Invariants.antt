use Rattle.std.proofs.Common.{◌≡◌, length}
use Rattle.css_syntax.specs.TokenLists.{tokens}
use Rattle.clean_values.specs.Values.{has_source}
use Rattle.clean_values.proofs.values.has_source.Given as goal

-- What is left decides.
abbrev pub invariant-tokens : goal.invariant-tokens
invariant-tokens l = has_source (tokens l.text) ≡ has_source (tokens l.rest)

abbrev pub decreases-tokens : goal.decreases-tokens
decreases-tokens l = length l.rest
