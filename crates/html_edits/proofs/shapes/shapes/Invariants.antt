use Rattle.std.proofs.Common.{◌≡◌, ◌++◌, None, length}
use Rattle.html_edits.specs.Shapes.{shapes_from}
use Rattle.html_edits.proofs.shapes.shapes.Given as goal

abbrev pub invariant-rows : goal.invariant-rows
invariant-rows l =
    l.found.items ++ shapes_from l.ranks l.hidden l.texts l.rest ≡ shapes_from l.ranks None None l.rows

abbrev pub decreases-rows : goal.decreases-rows
decreases-rows l = length l.rest
