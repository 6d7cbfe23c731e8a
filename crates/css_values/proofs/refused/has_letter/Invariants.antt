use Rattle.std.proofs.Common.{◌≡◌, length}
use Rattle.css_values.specs.Refused.{has_letter}
use Rattle.css_values.proofs.refused.has_letter.Given as goal

-- What is left decides.
abbrev pub invariant-letters : goal.invariant-letters
invariant-letters l = has_letter l.letters l.letter ≡ has_letter l.rest l.letter

abbrev pub decreases-letters : goal.decreases-letters
decreases-letters l = length l.rest
