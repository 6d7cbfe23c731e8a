-- The selectors of rules mean what they match where they have numbers.
-- Serves `sheet_meaning_law`.
use Rattle.std.proofs.Common.{◌≡◌, ℕ, zero, suc, ◌<◌, ◌↔◌, List, [], ◌∷◌, length, map, Some, refl, ap, subst}
use Rattle.std.specs.Prelude.{All}
use Rattle.std.specs.List.{slice_get}
use Rattle.std.proofs.lemmas.List.Elements.{All-map}
use Rattle.css_matching.specs.ListTrees.{spot}
use Rattle.css_selector_text.specs.Components.{Selector}
use Rattle.css_selectors.specs.Meanings.{Matches}
use Rattle.css_selectors.specs.Numberings.{NumberingText, no_lists, numbered_selector, numbered_selectors, with_each_list}
use Rattle.css_sheet.specs.SheetOrder.{SheetRuleText}
use Rattle.css_styles.specs.NumberedRules.{numbered_rule, numbered_rules, numbered_sheets}
use Rattle.css_tree.specs.Asked.{AskBefore, AskEarlier, SelectorAsksBelow}
use Rattle.css_tree.specs.Marks.{AreMarked}
use Rattle.css_tree.specs.PageMeanings.{Selects}
use Rattle.css_tree.specs.Pages.{Page, page_document}
use Rattle.css_tree.proofs.MeaningSheets.{selectors_mean}

abbrev selectors : List SheetRuleText → List Selector
selectors rules = map (λ (rule : SheetRuleText). rule.selector) rules

-- rules have numbers as their selectors have
rules_selectors : (n : NumberingText) (rules : List SheetRuleText)
    → selectors (numbered_rules n rules).0 ≡ (numbered_selectors n (selectors rules)).0
rules_selectors n [] = refl
rules_selectors n (rule ∷ rules) =
    ap (λ more. (numbered_selector n rule.selector).0 ∷ more) (rules_selectors (numbered_rule n rule).1 rules)

rules_lists : (n : NumberingText) (rules : List SheetRuleText)
    → (numbered_rules n rules).1 ≡ (numbered_selectors n (selectors rules)).1
rules_lists n [] = refl
rules_lists n (rule ∷ rules) = rules_lists (numbered_rule n rule).1 rules

selector_at : (rules : List SheetRuleText) (k : ℕ) (rule : SheetRuleText) → slice_get rules k ≡ Some rule
    → slice_get (selectors rules) k ≡ Some rule.selector
selector_at [] k rule is = absurd (cc)
selector_at (r ∷ rules) zero rule is = let same : r ≡ rule = cc in ap (λ x. Some x.selector) same
selector_at (r ∷ rules) (suc k) rule is = selector_at rules k rule is

pub rules_mean : (page : Page) (nested : List (List Selector)) (rules : List SheetRuleText) → AskEarlier nested
    → All (λ rule. SelectorAsksBelow (suc (length nested)) rule.selector) rules
    → AskBefore (numbered_sheets nested rules).1.lists → AreMarked (numbered_sheets nested rules).1.lists page
    → (k i : ℕ) (rule made : SheetRuleText) → slice_get rules k ≡ Some rule
    → slice_get (numbered_sheets nested rules).0 k ≡ Some made → i < length page.rows
    → Matches page_document made.selector (spot page i) ↔ Selects page nested rule.selector i
rules_mean page nested rules earlier asks before are k i rule made at_rule at_made lt =
    let n = with_each_list no_lists nested in
    let lists = rules_lists n rules in
    selectors_mean page nested (selectors rules) earlier
    (All-map (SelectorAsksBelow (suc (length nested))) (λ (rule : SheetRuleText). rule.selector) rules asks)
    (subst (λ (m : NumberingText). AskBefore m.lists) lists before)
    (subst (λ (m : NumberingText). AreMarked m.lists page) lists are) k i made.selector rule.selector
    (subst (λ all. slice_get all k ≡ Some made.selector) (rules_selectors n rules)
    (selector_at (numbered_rules n rules).0 k made at_made))
    (selector_at rules k rule at_rule) lt
