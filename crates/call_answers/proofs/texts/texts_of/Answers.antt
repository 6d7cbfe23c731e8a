use Rattle.std.proofs.Common.{arith, ◌+◌, map, drop, slice_index_or}
use Rattle.std.proofs.lemmas.List.{drop_more}
use Rattle.std.proofs.lemmas.Grind.{common_steps}
use Rattle.call_answers.specs.Calls.{HasTexts, HasBadEnds, IsBrokenUtf8}
use Rattle.call_answers.proofs.TextCuts.{cut_more, cut_broken, broken_due}
use Rattle.call_answers.proofs.texts.texts_of.Goals as goal

pub returns-in_err-text_of : goal.returns-in_err-text_of
returns-in_err-text_of c =
    let at = c.in-Some.ensures.lookup.0 in
    let end = slice_index_or c.args.ends.now c.loop-end.end-index 0 in
    let later = drop (c.loop-end.end-index + 1) c.args.ends.now in
    broken_due (λ texts. HasTexts c.args.buffer.now c.args.ends.now
    (map (λ text. text.now) texts.items)) c.from_residual.result c.in_err-text_of.field-0.0
    (HasBadEnds c.args.buffer.now c.args.ends.now) (IsBrokenUtf8 c.args.buffer.now c.args.ends.now)
    c.from_residual.ensures.1 c.in_err-text_of.ensures.0
    (cut_broken c.loop-end.invariant end later (drop_more c.args.ends.now c.loop-end.end-index 0
    c.loop-end-test.true) at.0 at.1 c.in-Some.bytes.now at.2 c.in_err-text_of.ensures.1)

pub loop-end-preserved : goal.loop-end-preserved
loop-end-preserved c =
    let at = c.in-Some.ensures.lookup.0 in
    let end = slice_index_or c.args.ends.now c.loop-end.end-index 0 in
    let later = drop (c.loop-end.end-index + 1) c.args.ends.now in
    cut_more c.loop-end.invariant end later (drop_more c.args.ends.now c.loop-end.end-index 0
    c.loop-end-test.true) at.0 at.1 c.in-Some.bytes.now at.2 c.in_ok-text_of.ensures.1
    (map (λ text. text.now) c.push.new.self.items) (grind (arith, common_steps))
