use Rattle.std.proofs.Common.{◌≡◌, length}
use Rattle.css_html.specs.Marks.{past_letters}
use Rattle.html_encodings.proofs.bytes.past_letters.Given as goal

abbrev pub invariant-letters : goal.invariant-letters
invariant-letters l = past_letters l.left l.rest ≡ past_letters l.letters l.bytes

abbrev pub decreases-letters : goal.decreases-letters
decreases-letters l = length l.left
