use Rattle.std.proofs.Common.{◌≡◌, length}
use denote.Text.{Utf8}
use denote.Shadow.{shadow}
use Rattle.css_values.specs.Refused.{is_listed}
use Rattle.css_values.proofs.refused.is_listed.Given as goal

-- What is left decides.
abbrev pub invariant-words : goal.invariant-words
invariant-words l = shadow (Utf8 l.rest) × (is_listed l.words l.word ≡ is_listed l.rest l.word)

abbrev pub decreases-words : goal.decreases-words
decreases-words l = length l.rest
