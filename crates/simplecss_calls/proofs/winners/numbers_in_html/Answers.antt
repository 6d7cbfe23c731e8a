use Rattle.std.proofs.Common.{List, MatchResult, Some, None, map, ap, sym, subst, ◌∙◌}
use Rattle.css_sheet.specs.SheetOrder.{SheetRuleText}
use Rattle.css_tree.specs.Html.{html_selector}
use Rattle.css_tree.specs.Pages.{Page}
use Rattle.call_answers.specs.Calls.{FailsLonger}
use Rattle.simplecss_calls.specs.WinnerNumbers.{AreWon}
use Rattle.simplecss_calls.specs.internal.Contents.{AreReadBy, asked_by, own_by}
use Rattle.call_answers.proofs.PageLines.{memory_due}
use Rattle.simplecss_calls.proofs.winners.numbers_in_html.Goals as goal

pub returns-in_err-selectors : goal.returns-in_err-selectors
returns-in_err-selectors c =
    let are = AreWon (asked_by c.args.wanted) (own_by c.args.wanted) c.args.most c.args.range (html_selector c.args.mode) c.args.rules.now.rules
    c.args.page.now in
    memory_due (λ out. are (Some out.items)) (are None) c.from_residual.result
    c.from_residual.ensures.1

pub in_html-requires : goal.in_html-requires
in_html-requires c =
    let f = λ (rule : SheetRuleText). html_selector c.args.mode rule.selector in
    record {
      marked = (
        c.args.mode,
        c.deref.ensures.value ∙ c.in_ok-selectors.ensures ∙ ap (map f) c.as_slice.ensures,
        c.requires,
      );
    }

pub returns-in_err-styles : goal.returns-in_err-styles
returns-in_err-styles c =
    let are = AreWon (asked_by c.args.wanted) (own_by c.args.wanted) c.args.most c.args.range (html_selector c.args.mode) c.args.rules.now.rules
    c.args.page.now in
    memory_due (λ out. are (Some out.items)) (are None) c.from_residual-in_err-styles.result
    c.from_residual-in_err-styles.ensures.1

pub returns : goal.returns
returns c =
    let read = html_selector c.args.mode in
    let f = λ (rule : SheetRuleText). read rule.selector in
    let styles = c.in_ok-styles.styles in
    let Are = λ (rules : List SheetRuleText) (page : Page). MatchResult c.numbers_by.result
    (λ out. AreWon (asked_by c.args.wanted) (own_by c.args.wanted) c.args.most c.args.range read rules page (Some out.items))
    (FailsLonger (AreWon (asked_by c.args.wanted) (own_by c.args.wanted) c.args.most c.args.range read rules page None)) in
    subst (Are c.args.rules.now.rules) c.in_ok-styles.ensures.page
    (subst (λ rules. Are rules styles.page) c.in_ok-styles.ensures.rules
    (c.numbers_by.ensures read
    (subst (λ (rules : List SheetRuleText). AreReadBy read rules styles.walk.selectors)
    (sym c.in_ok-styles.ensures.rules)
    (c.in_ok-styles.ensures.selectors ∙ c.deref.ensures.value ∙ c.in_ok-selectors.ensures
    ∙ ap (map f) c.as_slice.ensures))))
