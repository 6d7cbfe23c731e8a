-- In one layer of one origin the cascade goes by importance, then by the later rule, then by the later in that.
-- Serves `rule_order_law`.
use Rattle.std.proofs.Common.{◌≡◌, ◌↔◌, ◌⊎◌, inl, inr, ℕ, zero, suc, ◌<◌, Bool, true, false, List, [], ◌∷◌, Some, IsTrue, refl, sym, ap, ◌∙◌, subst, arith}
use Rattle.std.specs.declared.cmp.Ordering.{Ordering}
use Rattle.std.specs.declared.cmp.Ordering.TheVariants.{Less, Equal, Greater}
use Rattle.std.specs.Ordering.{is_gt, is_lt, nat_cmp, ordering_then, ordering_reverse}
use Rattle.std.specs.Cmp.Lexicographic.{slice_cmp}
use Rattle.std.proofs.lemmas.Cmp.{nat_list_cmp_total}
use Rattle.std.proofs.lemmas.Bool.Decides.{nat_tests}
use Rattle.std.specs.List.{slice_get, AllByRecursion}
use Rattle.std.proofs.lemmas.List.Sorted.{ranks_by}
use Rattle.css_text.proofs.order.RankLemmas.{Rises, ordered_arranges}
use Rattle.simplecss_grammar.specs.Declarations.{StyleDeclaration}
use Rattle.cssq.specs.Winners.{Beats, weight}
use Rattle.cssq.specs.Winners.Beats.{by_importance, by_rule, by_index}
use Rattle.css_syntax.specs.DeclarationLists.{DeclarationText}
use Rattle.css_cascade.specs.Cascade.{beats, origin_rank}
use Rattle.css_cascade.specs.Rollbacks.{rollback_of}
use Rattle.css_cascade.specs.declared.rollback.Rollback.{Rollback}
use Rattle.css_cascade.specs.declared.weights.Origin.{Origin}
use Rattle.css_sheet.specs.Sheets.{SheetText}
use Rattle.css_sheet.specs.SheetOrder.{SheetRuleText, rule_counts, rule_key, is_before, source_rules, cascade_rules, weight as counted}
use Rattle.css_styles.specs.Contenders.{in_rule}

-- of equal ones
equal_cmp : (n : ℕ) → nat_cmp n n ≡ Equal
equal_cmp n = grind (arith, nat_tests)

-- the number of the rule decides, and then the number in that
abbrev by_place : ℕ → ℕ → ℕ → ℕ → Ordering
by_place i k p l = ordering_then (nat_cmp i k) (ordering_then (nat_cmp p l) Equal)

later_place : (i k p l : ℕ) → is_gt (by_place i k p l) ≡ true → (k < i) ⊎ ((k ≡ i) × (l < p))
later_place i k p l h = grind (arith, nat_tests, h)

from_later_place : (i k p l : ℕ) → (k < i) ⊎ ((k ≡ i) × (l < p)) → is_gt (by_place i k p l) ≡ true
from_later_place i k p l (inl lt) = grind (arith, nat_tests)
from_later_place i k p l (inr h) = (let e = h.0 in let lt = h.1 in grind (arith, nat_tests, e, lt))

decided_by : (o : Ordering) (i k p l : ℕ) → (k < i → is_lt o ≡ false) → (i < k → is_gt o ≡ false)
    → (i ≡ k → o ≡ Equal)
    → (is_gt (ordering_then o (by_place i k p l)) ≡ true) ↔ ((k < i) ⊎ ((k ≡ i) × (l < p)))
decided_by Less i k p l after before same = (
  λ h. absurd (cc),
  λ h. elim h [
    | inl lt ↦ absurd (let e = after lt in cc)
    | inr both ↦ absurd (let e = same (sym both.0) in cc)
  ],
)
decided_by Equal i k p l after before same = (later_place i k p l, from_later_place i k p l)
decided_by Greater i k p l after before same = (
  λ h. later (λ lt. let e = before lt in cc) (λ is. let e = same is in cc),
  λ h. refl,
)
  where
    later : (i < k → ⊥) → (i ≡ k → ⊥) → (k < i) ⊎ ((k ≡ i) × (l < p))
    later not_before not_same = inl (omega (arith, not_before, not_same))

-- Of two declarations of one layer of one origin, where the specificities rise with the numbers of the rules.
in_layer : (m n : Bool) (origin : Origin) (layer : ℕ) (u v : Rollback) (a b : List ℕ) (i k p l : ℕ)
    → (k < i → is_lt (slice_cmp nat_cmp a b) ≡ false)
    → (i < k → is_lt (slice_cmp nat_cmp b a) ≡ false) → (i ≡ k → a ≡ b)
    → (beats (record { important = m; origin = origin; attached = false; layer = layer; specificity = a; place = i ∷ p ∷ []; rollback = u })
    (record { important = n; origin = origin; attached = false; layer = layer; specificity = b; place = k ∷ l ∷ []; rollback = v }) ≡ true)
    ↔ (((n ≡ false) × (m ≡ true)) ⊎ ((m ≡ n) × ((k < i) ⊎ ((k ≡ i) × (l < p)))))
in_layer m n origin layer u v a b i k p l after before same = go m n
  where
    o : Ordering
    o = slice_cmp nat_cmp a b

    flipped : (x y : Ordering) → x ≡ ordering_reverse y → is_lt y ≡ false → is_gt x ≡ false
    flipped x Less e h = absurd (cc)
    flipped x Equal e h = ap is_gt e
    flipped x Greater e h = ap is_gt e

    itself : i ≡ k → o ≡ Equal
    itself e = subst (λ c. slice_cmp nat_cmp a c ≡ Equal) (same e) (reversed (slice_cmp nat_cmp a a) (nat_list_cmp_total.antisymm a a))
      where
        reversed : (x : Ordering) → x ≡ ordering_reverse x → x ≡ Equal
        reversed Less e = absurd (cc)
        reversed Equal e = refl
        reversed Greater e = absurd (cc)

    rule : (is_gt (ordering_then o (by_place i k p l)) ≡ true) ↔ ((k < i) ⊎ ((k ≡ i) × (l < p)))
    rule = decided_by o i k p l after
        (λ lt. flipped o (slice_cmp nat_cmp b a) (nat_list_cmp_total.antisymm a b) (before lt)) itself

    go : (m n : Bool)
        → (beats (record { important = m; origin = origin; attached = false; layer = layer; specificity = a; place = i ∷ p ∷ []; rollback = u })
        (record { important = n; origin = origin; attached = false; layer = layer; specificity = b; place = k ∷ l ∷ []; rollback = v }) ≡ true)
        ↔ (((n ≡ false) × (m ≡ true)) ⊎ ((m ≡ n) × ((k < i) ⊎ ((k ≡ i) × (l < p)))))
    go true false = (λ h. inl (refl, refl), λ h. refl)
    go false true = (
      λ h. absurd (cc),
      λ h. elim h [ inl e ↦ absurd (let f = e.0 in cc) | inr e ↦ absurd (let f = e.0 in cc) ],
    )
    go true true = rw (equal_cmp (origin_rank origin), equal_cmp layer) (
      λ h. inr (refl, rule.0 h),
      λ h. elim h [ inl e ↦ absurd (let f = e.0 in cc) | inr e ↦ rule.1 e.1 ],
    )
    go false false = rw (equal_cmp (origin_rank origin), equal_cmp layer) (
      λ h. inr (refl, rule.0 h),
      λ h. elim h [ inl e ↦ absurd (let f = e.1 in cc) | inr e ↦ rule.1 e.1 ],
    )

-- the same in the words of CSS 2.1
beats_is : (x y : StyleDeclaration) (i j k l : ℕ)
    → (((y.important ≡ false) × (x.important ≡ true))
    ⊎ ((x.important ≡ y.important) × ((k < i) ⊎ ((k ≡ i) × (l < j)))))
    ↔ Beats x i j y k l
beats_is x y i j k l = (to, from)
  where
    same_importance : (m n : Bool) → weight m ≡ weight n → m ≡ n
    same_importance true true e = refl
    same_importance false false e = refl
    same_importance true false e = absurd (omega (arith, e))
    same_importance false true e = absurd (omega (arith, e))

    more : (m n : Bool) → weight n < weight m → (n ≡ false) × (m ≡ true)
    more true false e = (refl, refl)
    more true true e = absurd (omega (arith, e))
    more false n e = absurd (low n e)
      where
        low : (n : Bool) → weight n < 0 → ⊥
        low n e = omega (arith, e)

    less : (m n : Bool) → (n ≡ false) × (m ≡ true) → weight n < weight m
    less m n e = rw (e.0, e.1) (omega arith)

    to : (((y.important ≡ false) × (x.important ≡ true))
        ⊎ ((x.important ≡ y.important) × ((k < i) ⊎ ((k ≡ i) × (l < j)))))
        → Beats x i j y k l
    to (inl e) = by_importance (less x.important y.important e)
    to (inr (e, inl lt)) = by_rule (ap weight e) lt
    to (inr (e, inr (is, lt))) = by_index (ap weight e) is lt

    from : Beats x i j y k l
        → (((y.important ≡ false) × (x.important ≡ true))
        ⊎ ((x.important ≡ y.important) × ((k < i) ⊎ ((k ≡ i) × (l < j)))))
    from (by_importance lt) = inl (more x.important y.important lt)
    from (by_rule e lt) = inr (same_importance x.important y.important e, inl lt)
    from (by_index e is lt) = inr (same_importance x.important y.important e, inr (is, lt))

-- the specificity of a rule, where no later one is before it
not_less : (r s : SheetRuleText) → r.origin ≡ s.origin → r.layer ≡ s.layer → is_before r s ≡ false
    → is_lt (slice_cmp nat_cmp (counted (rule_counts r)) (counted (rule_counts s))) ≡ false
not_less r s o e h = rw (o, e, equal_cmp (origin_rank s.origin), equal_cmp s.layer) at h

-- what holds of all elements holds of the one at an index
all_get : {X : Type 0} (P : X → Type 0) (xs : List X) → AllByRecursion P xs → (i : ℕ) (x : X)
    → slice_get xs i ≡ Some x → P x
all_get P [] all i x at = absurd (cc)
all_get P (y ∷ xs) all zero x at = (let same : y ≡ x = cc in subst P same all.0)
all_get P (y ∷ xs) all (suc i) x at = all_get P xs all.1 i x at

-- no element is before one of those ahead of it
rises_at : {X : Type 0} (lt : X → X → Bool) (xs : List X) → Rises lt xs → (i k : ℕ) (x y : X) → k < i
    → slice_get xs i ≡ Some x → slice_get xs k ≡ Some y → lt x y ≡ false
rises_at lt [] rises i k x y before at_i at_k = absurd (cc)
rises_at lt (z ∷ xs) rises zero k x y before at_i at_k = absurd (omega (arith, before))
rises_at lt (z ∷ xs) rises (suc i) zero x y before at_i at_k =
    let same : z ≡ y = cc in
    subst (λ w. lt x w ≡ false) same (all_get (λ w. lt w z ≡ false) xs rises.0 i x at_i)
rises_at lt (z ∷ xs) rises (suc i) (suc k) x y before at_i at_k =
    rises_at lt xs rises.1 i k x y (omega (arith, before)) at_i at_k

pub rule_beats : (holds : List ℕ → List ℕ → Bool) (sheets : List SheetText) (i j k l : ℕ)
    (r s : SheetRuleText) (a b : DeclarationText) (x y : StyleDeclaration)
    → slice_get (cascade_rules holds sheets) i ≡ Some r
    → slice_get (cascade_rules holds sheets) k ≡ Some s → r.origin ≡ s.origin → r.layer ≡ s.layer
    → a.important ≡ x.important → b.important ≡ y.important
    → IsTrue (beats (in_rule i r j a).weight (in_rule k s l b).weight) ↔ Beats x i j y k l
rule_beats holds sheets i j k l r s a b x y at_i at_k origin layer own other =
    let rules = cascade_rules holds sheets in
    let rises = (ordered_arranges is_before (ranks_by nat_list_cmp_total (λ rule. rule_key rule))
    (source_rules holds sheets)).rises in
    let same : i ≡ k → r ≡ s = λ e. some (sym at_i ∙ ap (slice_get rules) e ∙ at_k) in
    let first = in_layer x.important y.important s.origin s.layer (rollback_of a.value) (rollback_of b.value)
    (counted (rule_counts r))
    (counted (rule_counts s)) i k j l
    (λ lt. not_less r s origin layer (rises_at is_before rules rises i k r s lt at_i at_k))
    (λ lt. not_less s r (sym origin) (sym layer) (rises_at is_before rules rises k i s r lt at_k at_i))
    (λ e. ap (λ t. counted (rule_counts t)) (same e)) in
    let second = beats_is x y i j k l in
    rw (origin, layer, own, other) (λ h. second.0 (first.0 h), λ h. first.1 (second.1 h))
  where
    some : {r s : SheetRuleText} → Some r ≡ Some s → r ≡ s
    some e = cc
