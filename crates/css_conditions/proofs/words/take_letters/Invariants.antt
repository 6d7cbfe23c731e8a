use Rattle.std.proofs.Common.{◌≡◌, Some, length}
use Rattle.css_conditions.specs.Words.{past_letters}
use Rattle.css_conditions.proofs.words.take_letters.Given as goal

abbrev pub invariant-letters : goal.invariant-letters
invariant-letters l = past_letters l.left (Some l.rest) ≡ past_letters l.word (Some l.bytes)

abbrev pub decreases-letters : goal.decreases-letters
decreases-letters l = length l.left
