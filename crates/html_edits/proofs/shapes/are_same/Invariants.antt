use Rattle.std.proofs.Common.{◌≡◌, length}
use Rattle.html_edits.proofs.Lists.{same}
use Rattle.html_edits.proofs.shapes.are_same.Given as goal

abbrev pub invariant-shapes : goal.invariant-shapes
invariant-shapes l = same l.left ≡ same l.right → same l.shapes ≡ same l.others

abbrev pub decreases-shapes : goal.decreases-shapes
decreases-shapes l = length l.left
