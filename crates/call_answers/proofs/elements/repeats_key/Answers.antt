use Rattle.std.proofs.Common.{◌*◌, ◌<◌, [], get_or, length, sym, arith}
use Rattle.std.proofs.lemmas.List.{get_or-map}
use Rattle.call_answers.proofs.RepeatedKeys.{had, keys_more}
use Rattle.call_answers.proofs.elements.repeats_key.Goals as goal

pub returns-then-not-branch : goal.returns-then-not-branch
returns-then-not-branch c =
    let first = c.loop-i-test.true in
    let within : 2 * c.loop-i.i < length c.args.fields.now = omega (arith, c.requires) in
    sym (had c.loop-i.invariant (get_or c.args.fields.now (2 * c.loop-i.i)
    (record { ref_ptr = (0, 0); now = [] })) (sym (get_or-map (λ field. field.now) c.args.fields.now
    (2 * c.loop-i.i) (record { ref_ptr = (0, 0); now = [] }) [] within)) c.in_ok-insert.field-0
    c.in_ok-insert.ensures.added c.if-not-branch.true c.args.count first)

pub loop-i-preserved : goal.loop-i-preserved
loop-i-preserved c =
    let first = c.loop-i-test.true in
    let within : 2 * c.loop-i.i < length c.args.fields.now = omega (arith, c.requires) in
    keys_more c.loop-i.invariant (get_or c.args.fields.now (2 * c.loop-i.i)
    (record { ref_ptr = (0, 0); now = [] })) (sym (get_or-map (λ field. field.now) c.args.fields.now
    (2 * c.loop-i.i) (record { ref_ptr = (0, 0); now = [] }) [] within)) c.in_ok-insert.field-0
    c.in_ok-insert.ensures.added c.if-not-branch.false c.insert.new.self
    c.in_ok-insert.ensures.updates
