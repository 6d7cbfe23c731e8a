-- Pages with marks, and why there are none.
-- Serves `marks::{list_size, mark_lists, mark_as, mark}`, `modern::numbered_lines` and `matches::page_matches`.
use Rattle.std.proofs.Common.{◌≡◌, suc, List, [], ◌∷◌, length, map, refl, sym, ap, ◌∙◌, subst}
use Rattle.std.specs.Prelude.{All, Result, Ok, Err, MatchResult}
use Rattle.std.specs.Result.{IsErrAnd}
use Rattle.std.proofs.lemmas.List.{length-map, map-id}
use Rattle.css_selector_text.specs.Components.{Part, Selector, selectors_from}
use Rattle.css_selectors.specs.MarkedLists.{ListText}
use Rattle.css_selectors.specs.Numberings.{NumberingText, no_lists}
use Rattle.css_sheet.specs.SheetOrder.{SheetRuleText}
use Rattle.css_sheet.specs.SheetRuleViews.{sheet_rule_of}
use Rattle.css_sheet.specs.declared.sheet_rules.SheetRule.{SheetRule}
use Rattle.css_tree.specs.Answered.{IsMarkedFor, SelectorIsAnswered}
use Rattle.css_tree.specs.Marks.{AreMarked, with_marks}
use Rattle.css_tree.specs.Pages.{Page}
use Rattle.css_tree.proofs.AnsweredLemmas.{marked-for, selectors-read}
use Rattle.call_answers.specs.declared.answer.CallError.{CallError}
use Rattle.call_answers.specs.declared.answer.CallError.TheVariants.{Memory, AnswerTooLong}
use Rattle.call_answers.specs.Calls.{FailsLonger}
use Rattle.page_calls.specs.MarkedPages.{list_as, selector_count}
use Rattle.page_calls.specs.Readings.{selector_as}
use Rattle.page_calls.specs.declared.modern.document_kind.DocumentKind.{DocumentKind}
use Rattle.page_calls.specs.declared.modern.document_kind.DocumentKind.TheVariants.{AsWritten, Html}

-- nothing but the marks is new
pub with-new-marks : (old new : Page) → new.rows ≡ old.rows → new.given ≡ old.given
    → new.is_html ≡ old.is_html → new ≡ with_marks old new.marks
with-new-marks old new rows given html =
    ap (λ r. record { rows = r; given = new.given; marks = new.marks; is_html = new.is_html }) rows
    ∙ ap (λ g. record { rows = old.rows; given = g; marks = new.marks; is_html = new.is_html }) given
    ∙ ap (λ h. record { rows = old.rows; given = old.given; marks = new.marks; is_html = h }) html

-- how many selectors the list of a pseudo-class has
pub selector_count-from : (ss : List (List Part)) → selector_count (selectors_from ss) ≡ length ss
selector_count-from [] = refl
selector_count-from (s ∷ ss) = ap suc (selector_count-from ss)

-- what has no lists
pub without-lists : (n : NumberingText) → n.lists ≡ [] → n.numbers ≡ [] → n ≡ no_lists
without-lists n lists numbers =
    ap (λ l. record { lists = l; numbers = n.numbers }) lists
    ∙ ap (λ k. record { lists = []; numbers = k }) numbers

-- the selectors of rules
pub rule-selectors : (rules : List SheetRule)
    → map (λ (rule : SheetRule). rule.selector) rules
    ≡ map (λ (rule : SheetRuleText). rule.selector) (map sheet_rule_of rules)
rule-selectors [] = refl
rule-selectors (rule ∷ rules) = ap (λ ss. rule.selector ∷ ss) (rule-selectors rules)

-- a page that is marked with lists as a document reads them answers what these lists answer
pub marked-as : (kind : DocumentKind) (lists : List ListText) (selectors : List Selector) (page : Page)
    → AreMarked (map (list_as kind) lists) page → All (SelectorIsAnswered (length lists)) selectors
    → IsMarkedFor (map (selector_as kind) selectors) page
marked-as kind lists selectors page are answered =
    marked-for (map (list_as kind) lists) (map (selector_as kind) selectors) page are
    (subst (λ n. All (SelectorIsAnswered n) (map (selector_as kind) selectors)) (sym (length-map lists (list_as kind)))
    (read kind))
  where
    read : (k : DocumentKind) → All (SelectorIsAnswered (length lists)) (map (selector_as k) selectors)
    read AsWritten = subst (All (SelectorIsAnswered (length lists))) (sym (map-id selectors)) answered
    read (Html mode) = selectors-read mode (length lists) selectors answered

-- a limit on tests that is exceeded
pub tests-failed : {V : Type 0} (P : V → Type 0) (IsLonger : Type 0) (r : Result V CallError)
    (failure : CallError) → IsErrAnd r (λ reported. reported ≡ failure)
    → (failure ≡ AnswerTooLong) × IsLonger → MatchResult r P (FailsLonger IsLonger)
tests-failed P IsLonger (Ok x) failure is longer = absurd is
tests-failed P IsLonger (Err reported) failure is longer =
    subst (FailsLonger IsLonger) (sym (is ∙ longer.0)) longer.1

-- what is made after the tests, or memory ran out
pub after-tests : {V : Type 0} (P : V → Type 0) (Within IsLonger : Type 0) (r : Result V CallError)
    → Within → MatchResult r P (λ failure. failure ≡ Memory)
    → MatchResult r (λ x. P x × Within) (FailsLonger IsLonger)
after-tests P Within IsLonger (Ok x) within made = (made, within)
after-tests P Within IsLonger (Err failure) within is = subst (FailsLonger IsLonger) (sym is) tt
