use Rattle.std.proofs.Common.{◌≡◌, length}
use Rattle.html_edits.specs.Attributes.{same_name}
use Rattle.html_edits.proofs.attributes.same_name.Given as goal

abbrev pub invariant-letters : goal.invariant-letters
invariant-letters l = same_name l.language l.left l.right ≡ same_name l.language l.one l.other

abbrev pub decreases-letters : goal.decreases-letters
decreases-letters l = length l.left
