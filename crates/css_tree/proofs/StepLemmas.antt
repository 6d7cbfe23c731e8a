-- Marks that are handed back, element by element, are at the elements that a combinator relates.
-- Serves `has_marks`.
use Rattle.std.proofs.Common.{◌≡◌, ◌≢◌, ℕ, zero, suc, ◌+◌, ◌<◌, ◌≤◌, ◌↔◌, ◌⊎◌, inl, inr, Bool, true, false, List, [], ◌∷◌, get_or, length, IsTrue, Option, None, Some, IfSome, refl, sym, ap, subst, ◌∙◌, arith}
use Rattle.std.specs.Prelude.{◌||◌, ◌&&◌}
use Rattle.std.specs.Option.{option_map}
use Rattle.std.proofs.Math.ListN.{set}
use Rattle.std.proofs.lemmas.Bool.{false≢true}
use Rattle.std.proofs.lemmas.Grind.{get_or-set_at}
use Rattle.std.proofs.lemmas.List.{get_or-set_same, get_or-set_other, length-set}
use Rattle.css_matching.specs.declared.Combinator.{Combinator}
use Rattle.css_matching.specs.declared.Combinator.TheVariants.{Descendant, Child, Adjacent, Sibling}
use Rattle.css_matching.specs.ListTrees.{spot, lesser_before}
use Rattle.css_matching.specs.Placements.{IsBeyond, is_next, is_further, Relates}
use Rattle.css_selectors.specs.Documents.{shape}
use Rattle.css_elements.specs.Rows.{Row}
use Rattle.css_elements.specs.TreeNodes.{named_parent}
use Rattle.css_tree.specs.Counts.{last_below}
use Rattle.css_tree.specs.Pages.{Page, page_document, is_sibling}
use Rattle.css_tree.specs.Steps.{step, is_repeated, is_set, Precedes}
use Rattle.css_tree.proofs.Counting.{same_or_other, last_or_before, last_below-earlier}

-- ---- steps among indices are steps among elements

-- one step, or one step or more
abbrev pub Stepped : Bool → (ℕ → Option ℕ) → ℕ → ℕ → Type 0
Stepped false next i j = next j ≡ Some i
Stepped true next i j = IsBeyond next i j

module _ (page : Page) (next : Page × ℕ → Option (Page × ℕ)) (of : ℕ → Option ℕ)
    (is : (j : ℕ) → next (spot page j) ≡ option_map (spot page) (of j)) where
  spotted : (r : Option ℕ) (a : Page × ℕ) → option_map (spot page) r ≡ Some a
      → (k : ℕ) × (r ≡ Some k) × (a ≡ spot page k)
  spotted None a e = absurd (cc)
  spotted (Some k) a e = let at : spot page k ≡ a = cc in (k, refl, sym at)

  one_down : (i j : ℕ) → next (spot page j) ≡ Some (spot page i) → of j ≡ Some i
  one_down i j e =
      let k = spotted (of j) (spot page i) (sym (is j) ∙ e) in
      k.1 ∙ ap Some (sym (ap (λ n. n.1) k.2))

  one_up : (i j : ℕ) → of j ≡ Some i → next (spot page j) ≡ Some (spot page i)
  one_up i j e = is j ∙ ap (option_map (spot page)) e

  beyond_down : (a b : Page × ℕ) → IsBeyond next a b → (i j : ℕ) → a ≡ spot page i
      → b ≡ spot page j → IsBeyond of i j
  beyond_down a b (is_next e) i j at from =
      is_next (one_down i j (ap next (sym from) ∙ e ∙ ap Some at))
  beyond_down a b (is_further {p = p} e rest) i j at from =
      let k = spotted (of j) p (sym (is j) ∙ ap next (sym from) ∙ e) in
      is_further k.1 (beyond_down a p rest i k.0 at k.2)

  beyond_up : (i j : ℕ) → IsBeyond of i j → IsBeyond next (spot page i) (spot page j)
  beyond_up i j (is_next e) = is_next (one_up i j e)
  beyond_up i j (is_further {p = p} e rest) = is_further (one_up p j e) (beyond_up i p rest)

pub related_stepped : (page : Page) (c : Combinator) (i j : ℕ)
    → Relates (shape page_document) c (spot page i) (spot page j)
    ↔ Stepped (is_repeated c) (step page.rows c) i j
related_stepped page Descendant i j = (
  λ h. beyond_down page page_document.parent (step page.rows Descendant) (λ k. refl) _ _ h i j
      refl refl,
  beyond_up page page_document.parent (step page.rows Descendant) (λ k. refl) i j,
)
related_stepped page Child i j = (
  one_down page page_document.parent (step page.rows Child) (λ k. refl) i j,
  one_up page page_document.parent (step page.rows Child) (λ k. refl) i j,
)
related_stepped page Adjacent i j = (
  one_down page page_document.previous_sibling (step page.rows Adjacent) (λ k. refl) i j,
  one_up page page_document.previous_sibling (step page.rows Adjacent) (λ k. refl) i j,
)
related_stepped page Sibling i j = (
  λ h. beyond_down page page_document.previous_sibling (step page.rows Sibling) (λ k. refl) _ _ h
      i j refl refl,
  beyond_up page page_document.previous_sibling (step page.rows Sibling) (λ k. refl) i j,
)

-- a step leads to a smaller index
pub step_back : (rows : List Row) (c : Combinator) (i : ℕ) → IfSome (step rows c i) (λ j. j < i)
step_back rows Descendant i = lesser_before i (named_parent rows i)
step_back rows Child i = lesser_before i (named_parent rows i)
step_back rows Adjacent i = last_below-earlier (is_sibling rows i) i
step_back rows Sibling i = last_below-earlier (is_sibling rows i) i

-- ---- the pass

module _ (next : ℕ → Option ℕ) (repeated : Bool) (marks : List Bool) (n : ℕ) where
  -- the element hands a mark back
  abbrev pub Hands : List Bool → ℕ → Type 0
  Hands found j = IsTrue (is_set marks j || (repeated && is_set found j))

  -- marks are at the elements to which those from an index on handed one
  pub record HandedFrom (found : List Bool) (k : ℕ) : Type 0 where
    pub all : length found ≡ n
    pub each : (i : ℕ) → IsTrue (is_set found i)
        ↔ ((j : ℕ) × (k ≤ j) × (j < n) × (next j ≡ Some i) × Hands found j)

  pub handed_none : (found : List Bool) → length found ≡ n
      → ((i : ℕ) → is_set found i ≡ false) → HandedFrom found n
  handed_none found all none = record {
    all = all;
    each = λ i. (
      λ t. absurd (false≢true (sym (none i) ∙ t)),
      λ h. (let low = h.1 in let high = h.2 in absurd (omega arith)),
    );
  }

  module _ (found : List Bool) (k : ℕ) (less : k < n) (so_far : HandedFrom found (suc k)) where
    -- the element hands nothing, or there is no step from it
    pub handed_not : ((i : ℕ) → next k ≡ Some i → Hands found k → ⊥) → HandedFrom found k
    handed_not not = record {
      all = so_far.all;
      each = λ i. (
        λ t. (let h = (so_far.each i).0 t in
            (h.0, (let low = h.1 in omega arith), h.2, h.3, h.4)),
        λ h. elim (same_or_other h.0 k) [
          | inl same ↦ absurd (not i (ap next (sym same) ∙ h.3) (subst (Hands found) same h.4))
          | inr other ↦ (so_far.each i).1
              (h.0, (let low = h.1 in omega arith), h.2, h.3, h.4)
        ],
      );
    }

    module _ (b : ℕ) (to : next k ≡ Some b) (back : b < k) (hands : Hands found k) where
      abbrev more : List Bool
      more = set found b true

      at_it : is_set more b ≡ true
      at_it =
          let all = so_far.all in get_or-set_same found b true false (omega arith)

      at_other : (i : ℕ) → i ≢ b → is_set more i ≡ is_set found i
      at_other i other = get_or-set_other found b i true false other

      kept : (i : ℕ) → IsTrue (is_set found i) → IsTrue (is_set more i)
      kept i t = elim (same_or_other i b) [
        | inl same ↦ ap (is_set more) same ∙ at_it
        | inr other ↦ at_other i other ∙ t
      ]

      hands_same : (j : ℕ) → b < j → Hands found j ↔ Hands more j
      hands_same j lt =
          let is = at_other j (λ e. absurd (omega (arith, e))) in (
            subst (λ m. IsTrue (is_set marks j || (repeated && m))) (sym is),
            subst (λ m. IsTrue (is_set marks j || (repeated && m))) is,
          )

      pub handed_more : HandedFrom more k
      handed_more = record {
        all = length-set found b true ∙ so_far.all;
        each = λ i. (
          λ t. elim (same_or_other i b) [
            | inl same ↦
                (k, omega arith, less, to ∙ ap Some (sym same), (hands_same k back).0 hands)
            | inr other ↦ (let h = (so_far.each i).0 (sym (at_other i other) ∙ t) in
                let low = h.1 in
                (h.0, omega arith, h.2, h.3, (hands_same h.0 (omega arith)).0 h.4))
          ],
          λ h. elim (same_or_other h.0 k) [
            | inl same ↦ (let it : b ≡ i = some_same (sym to ∙ ap next (sym same) ∙ h.3) in
                ap (is_set more) (sym it) ∙ at_it)
            | inr other ↦ (let low = h.1 in
                kept i ((so_far.each i).1
                (h.0, omega arith, h.2, h.3, (hands_same h.0 (omega arith)).1 h.4)))
          ],
        );
      }
        where
          some_same : {x y : ℕ} → Some x ≡ Some y → x ≡ y
          some_same e = cc

  -- ---- all were handed

  beyond_last : (i p j : ℕ) → IsBeyond next p j → next p ≡ Some i → IsBeyond next i j
  beyond_last i p j (is_next e) last = is_further e (is_next last)
  beyond_last i p j (is_further e rest) last = is_further e (beyond_last i p _ rest last)

module _ (next : ℕ → Option ℕ) (back : (i : ℕ) → IfSome (next i) (λ j. j < i)) where
  step_less : (i j : ℕ) → next j ≡ Some i → i < j
  step_less i j e = subst (λ r. IfSome r (λ k. k < j)) e (back j)

  hands_by : (a b : Bool) → IsTrue (a || b) → IsTrue a ⊎ IsTrue b
  hands_by true b t = inl refl
  hands_by false b t = inr t

  hands_marked : (a b : Bool) → IsTrue a → IsTrue (a || b)
  hands_marked true b t = refl
  hands_marked false b t = absurd (false≢true t)

  hands_found : (a b : Bool) → IsTrue b → IsTrue (a || b)
  hands_found true b t = refl
  hands_found false b t = t

  -- from what was found back to what is marked
  from_found : (repeated : Bool) (marks found : List Bool) (n : ℕ)
      → HandedFrom next repeated marks n found 0 → (fuel i : ℕ) → n ≤ i + fuel
      → IsTrue (is_set found i)
      → (j : ℕ) × (j < n) × Stepped repeated next i j × IsTrue (is_set marks j)
  from_found repeated marks found n handed zero i le t =
      let h = (handed.each i).0 t in
      let lt = step_less i h.0 h.3 in let high = h.2 in absurd (omega arith)
  from_found false marks found n handed (suc fuel) i le t =
      let h = (handed.each i).0 t in (h.0, h.2, h.3, of (is_set marks h.0) h.4)
    where
      of : (a : Bool) → IsTrue (a || false) → IsTrue a
      of true t = refl
      of false t = t
  from_found true marks found n handed (suc fuel) i le t =
      let h = (handed.each i).0 t in
      let lt = step_less i h.0 h.3 in
      elim (hands_by (is_set marks h.0) (is_set found h.0) h.4) [
        | inl marked ↦ (h.0, h.2, is_next h.3, marked)
        | inr there ↦ (let k = from_found true marks found n handed fuel h.0 (omega arith) there in
            (k.0, k.1, beyond_last next true marks n i h.0 k.0 k.2 h.3, k.3))
      ]

  -- and on
  to_found : (marks found : List Bool) (n : ℕ) → HandedFrom next true marks n found 0
      → (i j : ℕ) → j < n → IsBeyond next i j → Hands next true marks n found j
      → IsTrue (is_set found i)
  to_found marks found n handed i j lt (is_next e) hands =
      (handed.each i).1 (j, omega arith, lt, e, hands)
  to_found marks found n handed i j lt (is_further {p = p} e rest) hands =
      let less = step_less p j e in
      to_found marks found n handed i p (omega arith) rest
      (hands_found (is_set marks p) (is_set found p)
      ((handed.each p).1 (j, omega arith, lt, e, hands)))

  stepped_found : (repeated : Bool) (marks found : List Bool) (n : ℕ)
      → HandedFrom next repeated marks n found 0 → (i j : ℕ) → j < n → Stepped repeated next i j
      → IsTrue (is_set marks j) → IsTrue (is_set found i)
  stepped_found false marks found n handed i j lt e marked =
      (handed.each i).1 (j, omega arith, lt, e, hands_marked (is_set marks j) false marked)
  stepped_found true marks found n handed i j lt e marked =
      to_found marks found n handed i j lt e
      (hands_marked (is_set marks j) (is_set found j) marked)

-- the marks that were handed are at the elements that precede a marked one
pub handed_all : (page : Page) (c : Combinator) (marks found : List Bool)
    → HandedFrom (step page.rows c) (is_repeated c) marks (length page.rows) found 0 → (i : ℕ)
    → IsTrue (is_set found i) ↔ Precedes page c (λ j. IsTrue (is_set marks j)) i
handed_all page c marks found handed i = (
  λ t. (let h = from_found (step page.rows c) (step_back page.rows c) (is_repeated c) marks found
      (length page.rows) handed (length page.rows) i (omega arith) t in
      (h.0, h.1, (related_stepped page c i h.0).1 h.2, h.3)),
  λ h. stepped_found (step page.rows c) (step_back page.rows c) (is_repeated c) marks found
      (length page.rows) handed i h.0 h.1 ((related_stepped page c i h.0).0 h.2) h.3,
)

-- ---- marks that are changed one after another

module _ (Is : ℕ → Type 0) (old : List Bool) where
  -- below an index marks are kept where something holds, and the others are as they were
  pub record KeptBelow (now : List Bool) (k : ℕ) : Type 0 where
    pub those : (i : ℕ) → i < k → IsTrue (is_set now i) ↔ (IsTrue (is_set old i) × Is i)
    pub others : (i : ℕ) → k ≤ i → is_set now i ≡ is_set old i

  pub kept_none : KeptBelow old 0
  kept_none = record { those = λ i lt. absurd (omega arith); others = λ i le. refl }

  pub kept_unset : (now : List Bool) (k : ℕ) → is_set now k ≡ false → KeptBelow now k
      → KeptBelow now (k + 1)
  kept_unset now k unset kept = record {
    those = λ i lt. elim (last_or_before i k (omega arith)) [
      | inl same ↦
          (let now_i = ap (is_set now) same ∙ unset in
          let old_i = sym (kept.others i (omega arith)) ∙ now_i in (
            λ t. absurd (false≢true (sym now_i ∙ t)),
            λ h. absurd (false≢true (sym old_i ∙ h.0)),
          ))
      | inr before ↦ kept.those i before
    ];
    others = λ i le. kept.others i (omega arith);
  }

  pub kept_set : (now : List Bool) (k : ℕ) (b : Bool) → k < length now → is_set now k ≡ true
      → (IsTrue b ↔ Is k) → KeptBelow now k → KeptBelow (set now k b) (k + 1)
  kept_set now k b within is answers kept = record {
    those = λ i lt. elim (last_or_before i k (omega arith)) [
      | inl same ↦
          (let now_i = get_or-set_at now k i b false same within in
          let old_i = sym (kept.others i (omega arith)) ∙ ap (is_set now) same ∙ is in (
            λ t. (old_i, subst Is (sym same) (answers.0 (sym now_i ∙ t))),
            λ h. now_i ∙ answers.1 (subst Is same h.1),
          ))
      | inr before ↦
          (let apart : i ≢ k = λ e. omega (arith, before, e) in
          let now_i = get_or-set_other now k i b false apart in
          let h = kept.those i before in (λ t. h.0 (sym now_i ∙ t), λ x. now_i ∙ h.1 x))
    ];
    others = λ i le.
        (let apart : i ≢ k = λ e. omega (arith, le, e) in
        get_or-set_other now k i b false apart ∙ kept.others i (omega arith));
  }

module _ (old more : List Bool) where
  -- below an index those with one of two marks are marked, and the others are as they were
  pub record AddedBelow (now : List Bool) (k : ℕ) : Type 0 where
    pub those : (i : ℕ) → i < k → is_set now i ≡ (is_set old i || is_set more i)
    pub others : (i : ℕ) → k ≤ i → is_set now i ≡ is_set old i

  or_false : (a : Bool) → a ≡ (a || false)
  or_false true = refl
  or_false false = refl

  or_true : (a : Bool) → true ≡ (a || true)
  or_true true = refl
  or_true false = refl

  pub added_none : AddedBelow old 0
  added_none = record { those = λ i lt. absurd (omega arith); others = λ i le. refl }

  pub added_unset : (now : List Bool) (k : ℕ) → is_set more k ≡ false → AddedBelow now k
      → AddedBelow now (k + 1)
  added_unset now k unset added = record {
    those = λ i lt. elim (last_or_before i k (omega arith)) [
      | inl same ↦
          added.others i (omega arith) ∙ or_false (is_set old i)
          ∙ ap (λ m. is_set old i || m) (sym (ap (is_set more) same ∙ unset))
      | inr before ↦ added.those i before
    ];
    others = λ i le. added.others i (omega arith);
  }

  pub added_set : (now : List Bool) (k : ℕ) → k < length now → is_set more k ≡ true
      → AddedBelow now k → AddedBelow (set now k true) (k + 1)
  added_set now k within is added = record {
    those = λ i lt. elim (last_or_before i k (omega arith)) [
      | inl same ↦
          get_or-set_at now k i true false same within ∙ or_true (is_set old i)
          ∙ ap (λ m. is_set old i || m) (sym (ap (is_set more) same ∙ is))
      | inr before ↦
          (let apart : i ≢ k = λ e. omega (arith, before, e) in
          get_or-set_other now k i true false apart ∙ added.those i before)
    ];
    others = λ i le.
        (let apart : i ≢ k = λ e. omega (arith, le, e) in
        get_or-set_other now k i true false apart ∙ added.others i (omega arith));
  }

-- what is read at an index
pub read_set : (xs : List Bool) (k : ℕ) (b : Bool) → k < length xs → b ≡ get_or xs k b → b ≡ is_set xs k
read_set [] k b lt e = absurd (omega (arith, lt))
read_set (x ∷ xs) zero b lt e = e
read_set (x ∷ xs) (suc k) b lt e = read_set xs k b (omega (arith, lt)) e
