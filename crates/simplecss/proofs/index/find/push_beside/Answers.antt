use Rattle.std.proofs.lemmas.Result.{on_ok_weaker}
use Rattle.simplecss.proofs.BucketIndices.{beside_added}
use Rattle.simplecss.proofs.index.find.push_beside.Goals as goal

pub returns : goal.returns
returns g c =
    on_ok_weaker c.push_neighbour-2.result
    (λ previous. beside_added g.E.Element.tree g.E.Element.node g.E.Keyed.reported
    c.args.element.now c.args.lasts.now _ _ _ _ _
    (rw c.id_value.ensures at c.in_ok-push_id.ensures) c.in_ok-push_attributes.ensures
    (rw c.parent_element.ensures at c.in_ok-push_neighbour.ensures) previous)
    (rw c.prev_sibling_element.ensures at c.push_neighbour-2.ensures)
