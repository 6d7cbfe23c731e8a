use Rattle.std.proofs.Common.{◌+◌, length, map, Some, None, arith}
use Rattle.cssq.proofs.MatchLines.{lines_more}
use Rattle.css_sheet.specs.SheetRuleViews.{sheet_rule_of}
use Rattle.page_calls.specs.Ranges.{count_in}
use Rattle.page_calls.specs.Readings.{selector_as}
use Rattle.simplecss_calls.specs.ExplainNumbers.{AreExplained, IsExplainedBy}
use Rattle.simplecss_calls.specs.WinnerNumbers.{selectors_read}
use Rattle.simplecss_calls.specs.internal.Contents.{names_of_asked as names_of, own_of_asked as own_of}
use Rattle.call_answers.proofs.PageLines.{lines_done, longer_due, memory_due}
use Rattle.simplecss_calls.proofs.explained.explained_in.Goals as goal

pub returns-in_err-push_tested : goal.returns-in_err-push_tested
returns-in_err-push_tested c =
    let are = AreExplained (names_of c.args.asked) (own_of c.args.asked) c.args.most c.args.range
    (selector_as c.args.kind) (map sheet_rule_of c.args.rules.now) c.args.page.now in
    memory_due (λ out. are (Some out.items)) (are None) c.from_residual.result
    c.from_residual.ensures.1

-- the numbers up to this element are too many
pub returns-in_err-check_count : goal.returns-in_err-check_count
returns-in_err-check_count c =
    let page = c.args.page.now in
    let all = map sheet_rule_of c.args.rules.now in
    let selectors = selectors_read (selector_as c.args.kind) all in
    let are = AreExplained (names_of c.args.asked) (own_of c.args.asked) c.args.most c.args.range
    (selector_as c.args.kind) all page in
    let added = c.in_ok-push_tested.ensures in
    longer_due (λ out. are (Some out.items)) c.args.most (λ index. IsExplainedBy (names_of c.args.asked)
    (own_of c.args.asked) selectors all page (c.args.range.from + index))
    (c.loop-index.index + 1) (count_in c.args.range (length page.rows)) c.push_tested.new.out.items
    (lines_more c.loop-index.invariant.so_far added.0 c.push_tested.new.out.items added.1 added.2)
    (omega arith) c.from_residual-in_err-check_count.result
    c.in_err-check_count.field-0.0 c.from_residual-in_err-check_count.ensures.1
    c.in_err-check_count.ensures

-- the numbers of one more element
pub loop-index-preserved : goal.loop-index-preserved
loop-index-preserved c =
    let added = c.in_ok-push_tested.ensures in
    record {
      so_far = lines_more c.loop-index.invariant.so_far added.0 c.push_tested.new.out.items added.1 added.2;
      short = c.in_ok-check_count.ensures;
    }

pub returns : goal.returns
returns c =
    let page = c.args.page.now in
    let all = map sheet_rule_of c.args.rules.now in
    lines_done c.args.most (λ index. IsExplainedBy (names_of c.args.asked) (own_of c.args.asked)
    (selectors_read (selector_as c.args.kind) all) all page (c.args.range.from + index))
    c.loop-index.index (count_in c.args.range (length page.rows)) c.loop-index.out.items
    c.loop-index.invariant (omega arith)
