use Rattle.std.proofs.Common.{◌≡◌, length}
use Rattle.html_encodings.specs.Prescan.{after_comment}
use Rattle.html_encodings.proofs.prescan.after_comment.Given as goal

abbrev pub invariant-comment : goal.invariant-comment
invariant-comment l = after_comment l.rest ≡ after_comment l.bytes

abbrev pub decreases-comment : goal.decreases-comment
decreases-comment l = length l.rest
