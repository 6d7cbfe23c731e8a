use Rattle.std.proofs.Common.{ap}
use Rattle.simplecss.specs.RuleViews.{rules_of}
use Rattle.call_answers.specs.AnswerLines.{AreWinnersLines}
use Rattle.call_answers.specs.Calls.{passed_of}
use Rattle.port_calls.proofs.PageCalls.{page_due, page_failed}
use Rattle.port_calls.proofs.port.styles.Goals as goal

pub returns-in_err-sheet : goal.returns-in_err-sheet
returns-in_err-sheet c =
    page_failed (AreWinnersLines c.args.most) c.args.buffer.now c.args.ends.now c.args.limit
    (passed_of c.args.tree) c.from_residual.result c.in_err-sheet.field-0.0
    c.from_residual.ensures.1 c.in_err-sheet.ensures

pub returns : goal.returns
returns c =
    page_due (AreWinnersLines c.args.most) c.args.buffer.now c.args.ends.now c.args.limit
    (passed_of c.args.tree) _ _ c.in_ok-sheet.ensures _
    (ap rules_of c.deref.ensures.value) c.won_lines.result c.won_lines.ensures
