use Rattle.std.proofs.Common.{sym, ap, ◌∙◌}
use Rattle.css_selector_text.specs.NameViews.{names_of}
use Rattle.page_calls.specs.Readings.{selectors_of}
use Rattle.page_calls.proofs.RangeCalls.{list-failed, range-due}
use Rattle.page_calls.proofs.modern.ranges.select_range.Goals as goal

pub returns-in_err-selectors-clause-answer : goal.returns-in_err-selectors-clause-answer
returns-in_err-selectors-clause-answer c =
    let error = c.in_err-selectors.field-0.0 in
    list-failed c.args.most c.args.range c.args.kind (names_of c.args.names.now) c.args.text.now
    c.in_ok-text.text.now c.args.page.now c.in_ok-text.ensures.0 c.from_residual-in_err-selectors.result error
    c.from_residual-in_err-selectors.ensures.1 c.in_err-selectors.ensures

pub returns-clause-answer : goal.returns-clause-answer
returns-clause-answer c =
    let names = names_of c.args.names.now in
    range-due c.args.most c.args.range c.args.kind names c.args.text.now c.args.page.now
    c.in_ok-selectors.selectors.items c.in_ok-text.ensures.1
    (ap (selectors_of names) (sym c.in_ok-text.ensures.0) ∙ c.in_ok-selectors.ensures) c.numbered.result
    c.numbered.ensures.answer
