use Rattle.std.proofs.Common.{[]}
use Rattle.css_sheet.specs.ContentViews.{content_of}
use Rattle.sheet_calls.specs.ContentNumbers.{content_numbers}
use Rattle.call_answers.proofs.LineTexts.{line_more}
use Rattle.sheet_calls.proofs.sheet_contents.contents_of.Goals as goal

-- the numbers of one more part
pub loop-found-preserved : goal.loop-found-preserved
loop-found-preserved c =
    line_more (content_numbers c.args.size) (content_of c.args.size) c.args.parts.now
    c.loop-found.found-index _ [] c.loop-found.out.items c.push_part.new.out.items
    c.loop-found-test.true c.loop-found.invariant c.in_ok-push_part.ensures
