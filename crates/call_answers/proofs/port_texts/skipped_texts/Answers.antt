use Rattle.std.proofs.Common.{[], string_bytes, ap, ◌∙◌}
use Rattle.simplecss.specs.Positions.{position}
use Rattle.simplecss.specs.SkipViews.{skip_of}
use Rattle.simplecss.proofs.PlaceLemmas.{place-start, part-within}
use Rattle.call_answers.specs.PortTexts.{skipped_text}
use Rattle.call_answers.proofs.LineTexts.{line_more}
use Rattle.call_answers.proofs.port_texts.skipped_texts.Goals as goal

pub loop-part-init : goal.loop-part-init
loop-part-init c = record { here = place-start c.args.text.now c.utf8.text; written = c.new-out.ensures.bytes }

-- the text of one more part
pub loop-part-preserved : goal.loop-part-preserved
loop-part-preserved c =
    let parts = c.args.parts.now in
    let i = c.loop-part.part-index in
    let within = part-within c.args.text.now parts i _ c.requires c.loop-part-test.true in
    let found = c.find-place.ensures c.loop-part.invariant.here within.0 in
    record {
      here = found.0;
      written = line_more (skipped_text c.args.text.now) skip_of parts i _ []
          (string_bytes c.loop-part.out) (string_bytes c.push_skipped.new.out)
          c.loop-part-test.true c.loop-part.invariant.written
          (c.in_ok-push_skipped.ensures c.args.text.now within
          (found.0.1 ∙ ap (position c.args.text.now) found.1));
    }
