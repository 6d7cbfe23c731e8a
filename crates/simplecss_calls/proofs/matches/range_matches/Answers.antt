use Rattle.std.proofs.Common.{List, MatchResult, Some, None, map, ap, sym, subst, ◌∙◌}
use Rattle.std.proofs.lemmas.List.{map-id}
use Rattle.css_selector_text.specs.Components.{Selector}
use Rattle.css_sheet.specs.SheetOrder.{SheetRuleText}
use Rattle.css_tree.specs.Html.{html_selector}
use Rattle.css_tree.specs.Marks.{AreMarked}
use Rattle.css_tree.specs.Pages.{Page}
use Rattle.call_answers.specs.Calls.{FailsLonger}
use Rattle.page_calls.specs.MarkedPages.{list_as}
use Rattle.page_calls.specs.declared.modern.document_kind.DocumentKind.{DocumentKind}
use Rattle.page_calls.specs.Readings.{selector_as}
use Rattle.simplecss_calls.specs.WinnerNumbers.{AreMatchedBy}
use Rattle.simplecss_calls.proofs.matches.range_matches.Goals as goal

pub walk-requires : goal.walk-requires
walk-requires c =
    subst (λ lists. AreMarked lists c.args.page.now) (map-id c.args.rules.now.lists)
    (subst (λ (kind : DocumentKind). AreMarked (map (list_as kind) c.args.rules.now.lists) c.args.page.now)
    c.in-AsWritten.is c.requires)

pub walk_in_html-requires : goal.walk_in_html-requires
walk_in_html-requires c = (
  c.in-Html.mode,
  c.deref.ensures.value ∙ c.in_ok-selectors-in-Html.ensures
      ∙ ap (map (λ (rule : SheetRuleText). html_selector c.in-Html.mode rule.selector)) c.as_slice.ensures,
  subst (λ (kind : DocumentKind). AreMarked (map (list_as kind) c.args.rules.now.lists) c.args.page.now)
      c.in-Html.is c.requires,
)

pub returns-in_ok-walk-in-AsWritten : goal.returns-in_ok-walk-in-AsWritten
returns-in_ok-walk-in-AsWritten c =
    let Are = λ (selectors : List Selector) (page : Page). MatchResult c.matched_by.result
    (λ out. AreMatchedBy c.args.most c.args.range selectors page (Some out.items))
    (FailsLonger (AreMatchedBy c.args.most c.args.range selectors page None)) in
    let walk = c.in_ok-walk-in-AsWritten.walk in
    subst (λ page. Are (map (λ (rule : SheetRuleText). selector_as c.args.kind rule.selector) c.args.rules.now.rules) page)
    c.in_ok-walk-in-AsWritten.ensures.page
    (subst (λ selectors. Are selectors walk.page)
    (c.in_ok-walk-in-AsWritten.ensures.selectors
    ∙ sym (ap (λ kind. map (λ (rule : SheetRuleText). selector_as kind rule.selector) c.args.rules.now.rules)
    c.in-AsWritten.is)) c.matched_by.ensures)

pub returns-in_ok-walk-in-Html : goal.returns-in_ok-walk-in-Html
returns-in_ok-walk-in-Html c =
    let Are = λ (selectors : List Selector) (page : Page). MatchResult c.matched_by-in-Html.result
    (λ out. AreMatchedBy c.args.most c.args.range selectors page (Some out.items))
    (FailsLonger (AreMatchedBy c.args.most c.args.range selectors page None)) in
    let walk = c.in_ok-walk-in-Html.walk in
    let f = λ (rule : SheetRuleText). html_selector c.in-Html.mode rule.selector in
    subst (λ page. Are (map (λ (rule : SheetRuleText). selector_as c.args.kind rule.selector) c.args.rules.now.rules) page)
    c.in_ok-walk-in-Html.ensures.page
    (subst (λ selectors. Are selectors walk.page)
    (c.in_ok-walk-in-Html.ensures.selectors ∙ c.deref.ensures.value ∙ c.in_ok-selectors-in-Html.ensures
    ∙ ap (map f) c.as_slice.ensures
    ∙ sym (ap (λ kind. map (λ (rule : SheetRuleText). selector_as kind rule.selector) c.args.rules.now.rules)
    c.in-Html.is)) c.matched_by-in-Html.ensures)
