use Rattle.css_selector_text.proofs.GapLemmas.{gap_closed, gap_got, rest_here}
use Rattle.css_selector_text.proofs.reading.words.read_gap.Goals as goal

pub returns-in-Ok : goal.returns-in-Ok
returns-in-Ok c =
    gap_got c.args.text.now _ c.in-Ok.spaced _ c.slice_tail.result.now
    (rest_here _ _ c.args.text.now c.new-stream.ensures.text c.new-stream.ensures.offset)
    c.in-Ok.ensures.reads c.slice_tail.ensures

pub returns-in-Err : goal.returns-in-Err
returns-in-Err c =
    gap_closed _ c.args.text.now _ _ _
    (rest_here _ _ c.args.text.now c.new-stream.ensures.text c.new-stream.ensures.offset)
    c.in-Err.ensures.reads
