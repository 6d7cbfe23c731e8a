-- A page that is marked with the lists of rules answers their selectors.
-- Serves `StyleRules::{read, walk, walk_in_html}`.
use Rattle.std.proofs.Common.{◌≡◌, List, [], ◌∷◌, ℕ, length, map, sym, ap, ◌∙◌, subst, arith}
use Rattle.std.specs.Prelude.{All}
use Rattle.std.proofs.lemmas.List.{length-map}
use Rattle.std.proofs.lemmas.List.Elements.{All-nil, All-cons, All-map, All-weaker}
use Rattle.css_selector_text.specs.Components.{Selector}
use Rattle.css_selectors.specs.MarkedLists.{ListText}
use Rattle.css_selectors.specs.Numberings.{NumberingText, no_lists, numbered_selector, with_each_list}
use Rattle.css_sheet.specs.SheetOrder.{SheetRuleText}
use Rattle.css_tree.specs.Answered.{IsMarkedFor, SelectorIsAnswered}
use Rattle.css_tree.specs.Html.{html_selector, list_in}
use Rattle.css_tree.specs.Marks.{AreMarked}
use Rattle.css_tree.specs.Pages.{Page}
use Rattle.css_tree.proofs.AnsweredLemmas.{After, AreThere, lists-there, marked-for, numbered-after, selector-more, selector-read}
use Rattle.css_styles.specs.NumberedRules.{numbered_rule, numbered_rules}
use Rattle.css_styles.specs.StyleViews.{AreAnswered, IsMarkedInHtml, StyleRulesText}

abbrev RulesAnswered : ℕ → List SheetRuleText → Type 0
RulesAnswered n = All (λ rule. SelectorIsAnswered n rule.selector)

rules-after : (n : NumberingText) → AreThere n → (rules : List SheetRuleText)
    → After RulesAnswered n (numbered_rules n rules).0 (numbered_rules n rules).1
rules-after n there [] = record {
  grows = omega arith;
  there = there;
  answered = All-nil (λ (rule : SheetRuleText). SelectorIsAnswered (length n.lists) rule.selector);
}
rules-after n there (rule ∷ rules) =
    let a = numbered-after n there rule.selector in
    let next = (numbered_rule n rule).1 in
    let b = rules-after next a.there rules in
    let last = (numbered_rules next rules).1 in
    record {
      grows = omega (arith, a.grows, b.grows);
      there = b.there;
      answered = All-cons (λ (r : SheetRuleText). SelectorIsAnswered (length last.lists) r.selector)
          (numbered_rule n rule).0 (numbered_rules next rules).0
          (selector-more (length next.lists) (length last.lists) (omega (arith, b.grows))
          (numbered_selector n rule.selector).0 a.answered)
          b.answered;
    }

-- rules that are numbered after the lists that `&` denotes
pub rules-answered : (nested : List (List Selector)) (old new : NumberingText) (rules made : List SheetRuleText)
    (lists : List ListText) → old ≡ with_each_list no_lists nested → (made, new) ≡ numbered_rules old rules
    → lists ≡ new.lists → AreAnswered made lists
rules-answered nested old new rules made lists first are listed =
    subst (AreAnswered made) (sym listed)
    (subst (λ (m : List SheetRuleText × NumberingText). AreAnswered m.0 m.1.lists) (sym are)
    (rules-after old (subst AreThere (sym first) (lists-there nested)) rules).answered)

-- a page that is marked with their lists
pub rules-marked-for : (text : StyleRulesText) (page : Page) → AreAnswered text.rules text.lists
    → AreMarked text.lists page → IsMarkedFor (map (λ (rule : SheetRuleText). rule.selector) text.rules) page
rules-marked-for text page answered are =
    marked-for text.lists (map (λ (rule : SheetRuleText). rule.selector) text.rules) page are
    (All-map (SelectorIsAnswered (length text.lists)) (λ (rule : SheetRuleText). rule.selector) text.rules answered)

-- the same as an HTML document reads them
pub html-marked-for : (text : StyleRulesText) (selectors : List Selector) (page : Page)
    → AreAnswered text.rules text.lists → IsMarkedInHtml text selectors page → IsMarkedFor selectors page
html-marked-for text selectors page answered marked =
    let mode = marked.0 in
    let count = length text.lists in
    let read = map (λ (rule : SheetRuleText). html_selector mode rule.selector) text.rules in
    subst (λ ss. IsMarkedFor ss page) (sym marked.1)
    (marked-for (map (list_in mode) text.lists) read page marked.2
    (subst (λ n. All (SelectorIsAnswered n) read) (sym (length-map text.lists (list_in mode)))
    (All-map (SelectorIsAnswered count) (λ (rule : SheetRuleText). html_selector mode rule.selector) text.rules
    (All-weaker (λ (rule : SheetRuleText). SelectorIsAnswered count rule.selector)
    (λ (rule : SheetRuleText). SelectorIsAnswered count (html_selector mode rule.selector))
    (λ rule h. selector-read mode count rule.selector h) text.rules answered))))
