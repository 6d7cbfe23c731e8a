use Rattle.std.proofs.Common.{◌≡◌, [], length, refl, arith}
use Rattle.std.proofs.lemmas.Grind.{common_steps}
use Rattle.std.proofs.lemmas.List.{nil_from_length}
use Rattle.html_edits.proofs.Lists.{same, same_all}
use Rattle.html_edits.proofs.shapes.are_same.Goals as goal

pub returns : goal.returns
returns c = λ h.
    let none : length c.shapes.right.now ≡ 0 = grind (arith, common_steps) in
    let left : c.shapes.left.now ≡ [] = nil_from_length c.shapes.left.now (omega arith) in
    let right : c.shapes.right.now ≡ [] = nil_from_length c.shapes.right.now none in
    let e : same c.shapes.left.now ≡ same c.shapes.right.now = rw (left, right) refl in
    same_all c.args.shapes.now c.args.others.now (c.shapes.invariant e)
