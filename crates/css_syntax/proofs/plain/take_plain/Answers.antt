use Rattle.std.proofs.Common.{◌∙◌, sym}
use Rattle.css_syntax.proofs.PlainParts.{took-plain, took-no_gap}
use Rattle.css_syntax.proofs.plain.take_plain.Goals as goal

pub returns-in-Some-clause-goes : goal.returns-in-Some-clause-goes
returns-in-Some-clause-goes c = λ stops comma calm.
    took-plain stops c.in-Some.byte c.args.bytes.now c.in-Some.after.now
    c.past_name_bytes.result.now c.in-Some.ensures c.past_name_bytes.ensures
    (sym c.is_plain.ensures ∙ c.if-is_plain.true) comma calm

pub returns-in-Some-clause-no_gap : goal.returns-in-Some-clause-no_gap
returns-in-Some-clause-no_gap c =
    took-no_gap c.in-Some.byte c.args.bytes.now c.in-Some.after.now c.in-Some.ensures
    (sym c.is_plain.ensures ∙ c.if-is_plain.true)
