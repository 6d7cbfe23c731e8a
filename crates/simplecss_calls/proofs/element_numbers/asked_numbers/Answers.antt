use Rattle.std.proofs.Common.{map}
use Rattle.simplecss_calls.specs.internal.Contents.{content_of}
use Rattle.simplecss_calls.proofs.WinnerCalls.{asked-due, asked-failed}
use Rattle.simplecss_calls.proofs.element_numbers.asked_numbers.Goals as goal

pub returns-in_err-content-clause-answer : goal.returns-in_err-content-clause-answer
returns-in_err-content-clause-answer c =
    asked-failed c.args.asked c.args.most c.args.range c.args.kind c.args.rules.now.rules c.args.rules.now.lists
    (map (λ text. text.now) c.args.own.now) c.args.page.now c.from_residual.result c.in_err-content.field-0.0
    c.from_residual.ensures.1 c.in_err-content.ensures

pub returns-clause-answer : goal.returns-clause-answer
returns-clause-answer c =
    asked-due c.args.asked (content_of c.in_ok-content.content) c.args.most c.args.range c.args.kind
    c.args.rules.now.rules c.args.rules.now.lists (map (λ text. text.now) c.args.own.now) c.args.page.now
    c.in_ok-content.ensures c.marked_numbers.result c.marked_numbers.ensures.answer
