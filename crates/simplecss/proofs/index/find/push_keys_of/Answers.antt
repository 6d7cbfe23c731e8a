use Rattle.std.proofs.lemmas.Result.{on_ok_weaker}
use Rattle.simplecss.proofs.LastIndices.{none_lead, keys_added}
use Rattle.simplecss.proofs.index.find.push_keys_of.Goals as goal

pub returns-then-is_empty : goal.returns-then-is_empty
returns-then-is_empty g c =
    none_lead (g.E.Keyed.reported c.args.element.now) c.args.lasts.now c.args.indices.now.items
    (c.is_empty.ensures c.if-is_empty.true)

pub returns : goal.returns
returns g c =
    on_ok_weaker c.push_attributes.result
    (λ of_attributes. keys_added (g.E.Keyed.reported c.args.element.now) c.args.lasts.now _ _ _ _ _
    _ c.in_ok-push_last.ensures (rw c.local_name.ensures at c.in_ok-push_last-2.ensures)
    (rw c.id_value.ensures at c.in_ok-push_id.ensures)
    (rw c.class_value.ensures at c.in_ok-push_classes.ensures) of_attributes)
    c.push_attributes.ensures
