use Rattle.std.proofs.Common.{◌+◌, ◌*◌, ◌<◌, [], length, map, sym, ◌∙◌, arith}
use Rattle.std.proofs.lemmas.List.{get_or-map}
use Rattle.call_answers.proofs.Building.{attribute_added}
use Rattle.call_answers.proofs.elements.add_element.Goals as goal

-- one more attribute
pub loop-i-preserved : goal.loop-i-preserved
loop-i-preserved c =
    let first = c.loop-i-test.true in
    let key : 2 * c.loop-i.i < length c.args.fields.now = omega (arith, c.requires) in
    let value : 2 * c.loop-i.i + 1 < length c.args.fields.now = omega (arith, c.requires) in
    c.in_ok-set_attribute.ensures.ok
    ∙ attribute_added c.args.tree.now c.args.parent c.args.name.now
    (map (λ field. field.now) c.args.fields.now) c.loop-i.i c.loop-i.tree c.loop-i.invariant _ _
    (sym (get_or-map (λ field. field.now) c.args.fields.now (2 * c.loop-i.i)
    (record { ref_ptr = (0, 0); now = [] }) [] key))
    (sym (get_or-map (λ field. field.now) c.args.fields.now (2 * c.loop-i.i + 1)
    (record { ref_ptr = (0, 0); now = [] }) [] value))
