use Rattle.std.proofs.Common.{◌≡◌, length}
use Rattle.css_syntax.specs.Tokens.{spells}
use Rattle.css_syntax.proofs.tokens.spells.Given as goal

abbrev pub invariant-letters : goal.invariant-letters
invariant-letters l = spells l.left l.rest ≡ spells l.keyword l.word

abbrev pub decreases-letters : goal.decreases-letters
decreases-letters l = length l.left
