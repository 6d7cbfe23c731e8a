use Rattle.std.proofs.Common.{◌≡◌, [], length, refl, arith}
use Rattle.std.proofs.lemmas.List.{nil_from_length}
use Rattle.css_edits.proofs.same.begins_with.Goals as goal

pub returns : goal.returns
returns c = λ h.
    let none : c.entries.left.now ≡ [] = nil_from_length c.entries.left.now (omega arith) in
    c.entries.invariant (rw none refl)
