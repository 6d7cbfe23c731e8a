use Rattle.std.proofs.Common.{◌≡◌, length}
use Rattle.css_syntax.specs.TokenLists.{tokens}
use Rattle.clean_values.specs.Limits.{has_word}
use Rattle.clean_values.proofs.limits.has_word.Given as goal

-- What is left decides.
abbrev pub invariant-tokens : goal.invariant-tokens
invariant-tokens l = has_word (tokens l.limit) l.word ≡ has_word (tokens l.rest) l.word

abbrev pub decreases-tokens : goal.decreases-tokens
decreases-tokens l = length l.rest
