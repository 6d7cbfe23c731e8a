use Rattle.std.proofs.Common.{List, MatchResult, Some, None, map, ap, sym, subst, ◌∙◌}
use Rattle.std.proofs.lemmas.List.{map-id}
use Rattle.css_selector_text.specs.Components.{Selector}
use Rattle.css_sheet.specs.SheetOrder.{SheetRuleText}
use Rattle.css_tree.specs.Html.{html_selector}
use Rattle.css_tree.specs.Marks.{AreMarked}
use Rattle.css_tree.specs.Pages.{Page}
use Rattle.call_answers.specs.Calls.{FailsLonger}
use Rattle.page_calls.specs.MarkedPages.{list_as}
use Rattle.page_calls.specs.declared.modern.document_kind.DocumentKind.{DocumentKind}
use Rattle.page_calls.specs.Readings.{selector_as}
use Rattle.simplecss_calls.specs.ExplainNumbers.{AreExplained, AreExplainedBy}
use Rattle.simplecss_calls.proofs.explained.explained_by_walk.Goals as goal

pub walk-requires : goal.walk-requires
walk-requires c =
    subst (λ lists. AreMarked lists c.args.page.now) (map-id c.args.rules.now.lists)
    (subst (λ (kind : DocumentKind). AreMarked (map (list_as kind) c.args.rules.now.lists) c.args.page.now)
    c.in-AsWritten.is c.requires)

pub walk_in_html-requires : goal.walk_in_html-requires
walk_in_html-requires c = (
  c.in-Html.mode,
  c.deref.ensures.value ∙ c.in_ok-selectors-in-Html.ensures
      ∙ ap (map (λ (rule : SheetRuleText). html_selector c.in-Html.mode rule.selector)) c.as_slice-all.ensures,
  subst (λ (kind : DocumentKind). AreMarked (map (list_as kind) c.args.rules.now.lists) c.args.page.now)
      c.in-Html.is c.requires,
)

pub returns-in_ok-walk-in-AsWritten : goal.returns-in_ok-walk-in-AsWritten
returns-in_ok-walk-in-AsWritten c =
    let names = map (λ name. name.now) c.args.names.now in
    let own = map (λ text. text.now) c.args.own.now in
    let Are = λ (rules : List SheetRuleText) (selectors : List Selector) (page : Page).
    MatchResult c.explained_by.result
    (λ out. AreExplainedBy names own c.args.most c.args.range selectors rules page (Some out.items))
    (FailsLonger (AreExplainedBy names own c.args.most c.args.range selectors rules page None)) in
    let walk = c.in_ok-walk-in-AsWritten.walk in
    let rules = c.args.rules.now.rules in
    let read = map (λ (rule : SheetRuleText). selector_as c.args.kind rule.selector) rules in
    subst (λ page. Are rules read page) c.in_ok-walk-in-AsWritten.ensures.page
    (subst (λ selectors. Are rules selectors walk.page)
    (c.in_ok-walk-in-AsWritten.ensures.selectors
    ∙ sym (ap (λ kind. map (λ (rule : SheetRuleText). selector_as kind rule.selector) rules) c.in-AsWritten.is))
    (subst (λ all. Are all walk.walk.selectors walk.page) c.as_slice-all.ensures c.explained_by.ensures))

pub returns-in_ok-walk-in-Html : goal.returns-in_ok-walk-in-Html
returns-in_ok-walk-in-Html c =
    let names = map (λ name. name.now) c.args.names.now in
    let own = map (λ text. text.now) c.args.own.now in
    let Are = λ (rules : List SheetRuleText) (selectors : List Selector) (page : Page).
    MatchResult c.explained_by-in-Html.result
    (λ out. AreExplainedBy names own c.args.most c.args.range selectors rules page (Some out.items))
    (FailsLonger (AreExplainedBy names own c.args.most c.args.range selectors rules page None)) in
    let walk = c.in_ok-walk-in-Html.walk in
    let rules = c.args.rules.now.rules in
    let f = λ (rule : SheetRuleText). html_selector c.in-Html.mode rule.selector in
    let read = map (λ (rule : SheetRuleText). selector_as c.args.kind rule.selector) rules in
    subst (λ page. Are rules read page) c.in_ok-walk-in-Html.ensures.page
    (subst (λ selectors. Are rules selectors walk.page)
    (c.in_ok-walk-in-Html.ensures.selectors ∙ c.deref.ensures.value ∙ c.in_ok-selectors-in-Html.ensures
    ∙ ap (map f) c.as_slice-all.ensures
    ∙ sym (ap (λ kind. map (λ (rule : SheetRuleText). selector_as kind rule.selector) rules) c.in-Html.is))
    (subst (λ all. Are all walk.walk.selectors walk.page) c.as_slice-all.ensures c.explained_by-in-Html.ensures))
