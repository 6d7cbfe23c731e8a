use Rattle.std.proofs.Common.{◌≡◌, ◌++◌, length}
use Rattle.html_edits.specs.Placing.{put_places}
use Rattle.html_edits.proofs.placing.put_places.Given as goal

abbrev pub invariant-edits : goal.invariant-edits
invariant-edits l =
    l.places.items ++ put_places l.size l.last l.left l.right ≡ put_places 0 0 l.edits l.splices

abbrev pub decreases-edits : goal.decreases-edits
decreases-edits l = length l.left
