-- The declarations of each rule, as rules are read one after another.
-- Serves `style_rules::{read_all, StyleRules::stated}` and `Styles::new`.
use Rattle.std.proofs.Common.{◌≡◌, ℕ, zero, suc, ◌<◌, List, [], ◌∷◌, ◌++◌, length, map, get_or, Option, None, Some, refl, sym, ap, ◌∙◌, subst, arith}
use Rattle.std.specs.Prelude.{IfSome}
use Rattle.std.specs.List.{slice_get}
use Rattle.std.specs.Global.{Vec}
use Rattle.std.proofs.lemmas.List.{length-map, map-append}
use Rattle.css_sheet.specs.SheetOrder.{SheetRuleText}
use Rattle.css_sheet.specs.SheetRuleViews.{sheet_rule_of}
use Rattle.css_sheet.specs.declared.sheet_rules.SheetRule.{SheetRule}
use Rattle.css_styles.specs.declared.contest.Numbered.{Numbered}
use Rattle.css_styles.specs.internal.Numbered.{AllStated, AreStated, EachHas, IsMore}
use Rattle.css_styles.proofs.IndexLemmas.{get-past, get-within}
use Rattle.css_styles.proofs.StatedLemmas.{numbered-more}

are-more : (old new : List (List ℕ)) (index : ℕ) (rule : SheetRuleText) (stated : List Numbered)
    → IsMore old new → AreStated old index rule stated → AreStated new index rule stated
are-more old new index rule stated more h = record {
  are = h.are;
  numbered = numbered-more old new stated more h.numbered;
}

all-more : (old new : List (List ℕ)) (rules : List SheetRuleText) (lists : List (Vec Numbered))
    → IsMore old new → AllStated old rules lists → AllStated new rules lists
all-more old new rules lists more all = λ index rule at.
    let h = all index rule at in (h.0, h.1, are-more old new index rule h.0.items more h.2)

each-push : (Has : ℕ → SheetRuleText → List Numbered → Type 0) (rules : List SheetRuleText)
    (rule : SheetRuleText) (lists : List (Vec Numbered)) (list : Vec Numbered)
    → length lists ≡ length rules → EachHas Has rules lists → Has (length rules) rule list.items
    → EachHas Has (rules ++ rule ∷ []) (lists ++ list ∷ [])
each-push Has [] rule [] list len all has zero r at =
    let same : rule ≡ r = cc in
    (list, refl, subst (λ x. Has zero x list.items) same has)
each-push Has [] rule [] list len all has (suc k) r at = absurd (cc)
each-push Has [] rule (l ∷ ls) list len all has k r at = absurd (omega (arith, len))
each-push Has (x ∷ xs) rule [] list len all has k r at = absurd (omega (arith, len))
each-push Has (x ∷ xs) rule (l ∷ ls) list len all has zero r at = all zero r at
each-push Has (x ∷ xs) rule (l ∷ ls) list len all has (suc k) r at =
    each-push (λ i. Has (suc i)) xs rule ls list (omega (arith, len)) (λ i y e. all (suc i) y e) has k r at

pub read-step : (old new : List (List ℕ)) (rules next : List SheetRule) (rule : SheetRule)
    (lists after : List (Vec Numbered)) (list : Vec Numbered) → IsMore old new
    → AllStated old (map sheet_rule_of rules) lists → length lists ≡ length rules
    → AreStated new (length lists) (sheet_rule_of rule) list.items → next ≡ rules ++ rule ∷ []
    → after ≡ lists ++ list ∷ [] → AllStated new (map sheet_rule_of next) after
read-step old new rules next rule lists after list more all len are read pushed =
    let texts = map sheet_rule_of rules in
    let count : length lists ≡ length texts = len ∙ sym (length-map rules sheet_rule_of) in
    let here = subst (λ n. AreStated new n (sheet_rule_of rule) list.items) count are in
    let base =
    each-push (AreStated new) texts (sheet_rule_of rule) lists list count
    (all-more old new texts lists more all) here in
    let are_next : texts ++ sheet_rule_of rule ∷ [] ≡ map sheet_rule_of next =
    sym (ap (map sheet_rule_of) read ∙ map-append sheet_rule_of rules (rule ∷ [])) in
    subst (λ ls. AllStated new (map sheet_rule_of next) ls) (sym pushed)
    (subst (λ rs. AllStated new rs (lists ++ list ∷ [])) are_next base)

-- ---- the declarations of the rule at an index

got-at : {X : Type 0} (xs : List X) (k : ℕ) (d x : X) → slice_get xs k ≡ Some x → get_or xs k d ≡ x
got-at [] k d x e = absurd (cc)
got-at (y ∷ xs) zero d x e = cc
got-at (y ∷ xs) (suc k) d x e = got-at xs k d x e

pub stated-within : (properties : List (List ℕ)) (rules : List SheetRuleText)
    (lists : List (Vec Numbered)) (index : ℕ) → AllStated properties rules lists → index < length rules
    → index < length lists
stated-within properties rules lists index all within =
    let found = get-within rules index within in
    let h = all index found.0 found.1 in
    get-past lists index h.0 h.1

pub stated-read : (properties : List (List ℕ)) (rules : List SheetRuleText)
    (lists : List (Vec Numbered)) (index : ℕ) (list : Vec Numbered) (stated : List Numbered)
    → AllStated properties rules lists → list ≡ get_or lists index list → stated ≡ list.items
    → IfSome (slice_get rules index) (λ rule. AreStated properties index rule stated)
stated-read properties rules lists index list stated all e is = by (slice_get rules index) refl
  where
    by : (o : Option SheetRuleText) → slice_get rules index ≡ o
        → IfSome o (λ rule. AreStated properties index rule stated)
    by None at = tt
    by (Some rule) at =
        let h = all index rule at in
        let same : h.0 ≡ list = sym (e ∙ got-at lists index list h.0 h.1) in
        subst (AreStated properties index rule) (sym is)
        (subst (λ (l : Vec Numbered). AreStated properties index rule l.items) same h.2)

pub selectors-of : (list : List SheetRule) (rules : List SheetRuleText)
    → map sheet_rule_of list ≡ rules
    → map (λ (rule : SheetRule). rule.selector) list ≡ map (λ (rule : SheetRuleText). rule.selector) rules
selectors-of list rules are =
    each list ∙ ap (map (λ (rule : SheetRuleText). rule.selector)) are
  where
    each : (rs : List SheetRule) → map (λ (rule : SheetRule). rule.selector) rs
        ≡ map (λ (rule : SheetRuleText). rule.selector) (map sheet_rule_of rs)
    each [] = refl
    each (r ∷ rs) = ap (λ ss. r.selector ∷ ss) (each rs)
