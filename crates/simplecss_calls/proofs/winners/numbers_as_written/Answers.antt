use Rattle.std.proofs.Common.{List, MatchResult, Some, None, sym, subst}
use Rattle.css_sheet.specs.SheetOrder.{SheetRuleText}
use Rattle.css_tree.specs.Pages.{Page}
use Rattle.call_answers.specs.Calls.{FailsLonger}
use Rattle.simplecss_calls.specs.WinnerNumbers.{AreWon}
use Rattle.simplecss_calls.specs.internal.Contents.{AreReadBy, asked_by, own_by}
use Rattle.call_answers.proofs.PageLines.{memory_due}
use Rattle.simplecss_calls.proofs.winners.numbers_as_written.Goals as goal

pub returns-in_err-styles : goal.returns-in_err-styles
returns-in_err-styles c =
    let are = AreWon (asked_by c.args.wanted) (own_by c.args.wanted) c.args.most c.args.range (λ s. s) c.args.rules.now.rules c.args.page.now in
    memory_due (λ out. are (Some out.items)) (are None) c.from_residual.result
    c.from_residual.ensures.1

pub returns : goal.returns
returns c =
    let styles = c.in_ok-styles.styles in
    let Are = λ (rules : List SheetRuleText) (page : Page). MatchResult c.numbers_by.result
    (λ out. AreWon (asked_by c.args.wanted) (own_by c.args.wanted) c.args.most c.args.range (λ s. s) rules page (Some out.items))
    (FailsLonger (AreWon (asked_by c.args.wanted) (own_by c.args.wanted) c.args.most c.args.range (λ s. s) rules page None)) in
    subst (Are c.args.rules.now.rules) c.in_ok-styles.ensures.page
    (subst (λ rules. Are rules styles.page) c.in_ok-styles.ensures.rules
    (c.numbers_by.ensures (λ s. s)
    (subst (λ (rules : List SheetRuleText). AreReadBy (λ s. s) rules styles.walk.selectors)
    (sym c.in_ok-styles.ensures.rules) c.in_ok-styles.ensures.selectors)))
