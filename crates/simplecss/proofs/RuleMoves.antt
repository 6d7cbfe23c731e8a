-- Elements that are moved in place until they are in an order.
-- Serves `order::{numbered, indices_in_order, arrange, sort_rules}` (the order of rules).
use Rattle.std.proofs.Common.{◌≡◌, ◌≢◌, ℕ, zero, suc, ◌+◌, ◌<◌, ◌⊎◌, inl, inr, Bool, List, [], ◌∷◌, ◌++◌, add-one, length, get_or, map, refl, sym, ap, ◌∙◌, subst, arith}
use Rattle.std.specs.List.{swap, SwappedAt, range_with_len}
use Rattle.std.specs.List.Sorted.{IsPermutation, IsSortedBy, IsStableBy}
use Rattle.std.specs.Cmp.{IsStrictWeakOrder}
use Rattle.std.proofs.lemmas.Bool.Decides.{eqb_tells}
use Rattle.std.proofs.lemmas.Cmp.{nat_list_cmp_total}
use Rattle.std.proofs.lemmas.List.{ext_get_or, get_or-map, length-map}
use Rattle.std.proofs.lemmas.List.Edits.{swapped_from_swap}
use Rattle.std.proofs.lemmas.List.FromFn.{length-range_with_len, get_or-range_with_len, length-map-range_with_len, get_or-map-range_with_len}
use Rattle.std.proofs.lemmas.List.Sorted.{IsPermutation-keeps, length_permutation, IsPermutation-swap, ranks_by}
use Rattle.simplecss_grammar.specs.Statements.{StyleRule}
use Rattle.simplecss_grammar.specs.Sheets.{is_smaller, ordered}
use Rattle.simplecss_grammar.proofs.order.OrderLemmas.{weight, smaller_order}
use Rattle.css_text.proofs.order.RankLemmas.{ordered_is, arranges_from_sort, arranges-map}
use Rattle.simplecss.specs.internal.RuleOrders.{no_rule, rule_at, IsOrder, OrdersRules, IsMovedBy}

same_or_not : (a b : ℕ) → (a ≡ b) ⊎ (a ≢ b)
same_or_not a b = elim (eqb_tells a b) [ inl e ↦ inl e.1 | inr n ↦ inr n.1 ]

-- where an element of a list was before two were exchanged
record Source (l m : List ℕ) (i j k : ℕ) : Type 0 where
  was : ℕ
  is : get_or m k 0 ≡ get_or l was 0
  how : ((k ≡ i) × (was ≡ j)) ⊎ (((k ≡ j) × (was ≡ i)) ⊎ ((k ≢ i) × (k ≢ j) × (was ≡ k)))

source : (l m : List ℕ) (i j k : ℕ) → SwappedAt l m i j → Source l m i j k
source l m i j k s =
    elim (same_or_not k i) [
      | inl e ↦ record { was = j; is = ap (λ n. get_or m n 0) e ∙ s.0 0; how = inl (e, refl) }
      | inr a ↦ elim (same_or_not k j) [
        | inl e ↦
            record { was = i; is = ap (λ n. get_or m n 0) e ∙ s.1 0; how = inr (inl (e, refl)) }
        | inr b ↦ record { was = k; is = s.2 k 0 a b; how = inr (inr (a, b, refl)) }
      ]
    ]

swapped : (l : List ℕ) (i j : ℕ) → i < length l → j < length l → (k : ℕ)
    → Source l (swap l i j) i j k
swapped l i j p q k =
    let s = swapped_from_swap l (swap l i j) i j 0 p q refl in
    elim (same_or_not k i) [
      | inl e ↦
          record { was = j; is = ap (λ n. get_or (swap l i j) n 0) e ∙ s.0; how = inl (e, refl) }
      | inr a ↦ elim (same_or_not k j) [
        | inl e ↦ record {
          was = i;
          is = ap (λ n. get_or (swap l i j) n 0) e ∙ s.1;
          how = inr (inl (e, refl));
        }
        | inr b ↦ record { was = k; is = s.2 k a b; how = inr (inr (a, b, refl)) }
      ]
    ]

range_more : (a n : ℕ) → range_with_len a (suc n) ≡ range_with_len a n ++ (a + n) ∷ []
range_more a zero = let e : a ≡ a + 0 = omega arith in ap (λ m. m ∷ []) e
range_more a (suc n) =
    let e : a + 1 + n ≡ a + suc n = omega arith in
    ap (λ l. a ∷ l) (range_more (a + 1) n ∙ ap (λ m. range_with_len (a + 1) n ++ m ∷ []) e)

pub numbers_more : (n : ℕ) → range_with_len 0 (n + 1) ≡ range_with_len 0 n ++ n ∷ []
numbers_more n =
    let e : 0 + n ≡ n = omega arith in
    ap (range_with_len 0) (add-one n) ∙ range_more 0 n ∙ ap (λ m. range_with_len 0 n ++ m ∷ []) e

numbers_order : (n : ℕ) → IsOrder n (range_with_len 0 n)
numbers_order n = record {
  long = length-range_with_len 0 n;
  below = λ k h. let at = get_or-range_with_len 0 n k 0 h in omega arith;
  apart = λ j k p q e. let at = get_or-range_with_len 0 n j 0 p in
      let there = get_or-range_with_len 0 n k 0 q in
      omega arith;
}

-- numbers that were moved are an order still
pub order_moved : (n : ℕ) (indices : List ℕ) → IsPermutation (range_with_len 0 n) indices
    → IsOrder n indices
order_moved n indices moved = IsPermutation-keeps (range_with_len 0 n) (IsOrder n) (numbers_order n)
    (λ l i j p q o.
    let long = o.long in
    let kept = length_permutation l (swap l i j) (IsPermutation-swap l (swap l i j) i j p q refl) in
    record {
      long = kept ∙ long;
      below = λ k h. let s = swapped l i j p q k in
          let how = s.how in
          let small = o.below s.was (omega arith) in
          let is = s.is in
          omega arith;
      apart = λ a b h g e.
          let s = swapped l i j p q a in
          let t = swapped l i j p q b in
          let how = s.how in
          let why = t.how in
          let same = o.apart s.was t.was (omega arith) (omega arith) (sym s.is ∙ e ∙ t.is) in
          omega arith;
    })
    indices moved

-- Elements that are being moved: `who` says which of the old ones is at each index, `at` where
-- each old one is, and those before `done` are at their indices.
pub record IsMoving {X : Type 0} (old : List X) (order : List ℕ) (done : ℕ) (now : List X)
    (who at : List ℕ) : Type 0 where
  pub now_long : length now ≡ length old
  pub who_long : length who ≡ length old
  pub at_long : length at ≡ length old
  pub who_below : (k : ℕ) → k < length old → get_or who k 0 < length old
  pub at_below : (k : ℕ) → k < length old → get_or at k 0 < length old
  pub who_at : (k : ℕ) → k < length old → get_or who (get_or at k 0) 0 ≡ k
  pub at_who : (k : ℕ) → k < length old → get_or at (get_or who k 0) 0 ≡ k
  pub moved : (k : ℕ) (d : X) → k < length old → get_or now k d ≡ get_or old (get_or who k 0) d
  pub settled : (k : ℕ) → k < done → get_or who k 0 ≡ get_or order k 0

pub moving_none : {X : Type 0} (old : List X) (order who at : List ℕ)
    → who ≡ range_with_len 0 (length old) → at ≡ range_with_len 0 (length old)
    → IsMoving old order 0 old who at
moving_none old order who at p q =
    let long : (l : List ℕ) → l ≡ range_with_len 0 (length old) → length l ≡ length old =
    λ l e. ap length e ∙ length-range_with_len 0 (length old) in
    let here : (l : List ℕ) → l ≡ range_with_len 0 (length old) → (k : ℕ) → k < length old
    → get_or l k 0 ≡ k = λ l e k h. ap (λ m. get_or m k 0) e
    ∙ get_or-range_with_len 0 (length old) k 0 h ∙ omega arith in
    record {
      now_long = refl;
      who_long = long who p;
      at_long = long at q;
      who_below = λ k h. subst (λ n. n < length old) (sym (here who p k h)) h;
      at_below = λ k h. subst (λ n. n < length old) (sym (here at q k h)) h;
      who_at = λ k h. ap (λ n. get_or who n 0) (here at q k h) ∙ here who p k h;
      at_who = λ k h. ap (λ n. get_or at n 0) (here who p k h) ∙ here at q k h;
      moved = λ k d h. ap (λ n. get_or old n d) (sym (here who p k h));
      settled = λ k h. absurd (omega arith);
    }

module _ {X : Type 0} (old : List X) (order : List ℕ) (i : ℕ) (now : List X) (who at : List ℕ) where
  -- The element that the order names for the index i comes there, and the one from there goes where
  -- that was.
  pub moving_more : IsMoving old order i now who at → IsOrder (length old) order → i < length old
      → (first from other : ℕ) → first ≡ get_or order i 0 → from ≡ get_or at first 0
      → other ≡ get_or who i 0 → (now' : List X) (who' at' : List ℕ) → SwappedAt now now' i from
      → SwappedAt who who' i from → SwappedAt at at' first other → length now' ≡ length now
      → length who' ≡ length who → length at' ≡ length at → IsMoving old order (i + 1) now' who' at'
  moving_more m o here first from other is_first is_from is_other now' who' at' moved_now moved_who
      moved_at long_now long_who long_at =
      let first_below : first < length old =
      subst (λ n. n < length old) (sym is_first) (o.below i here) in
      let from_below : from < length old =
      subst (λ n. n < length old) (sym is_from) (m.at_below first first_below) in
      let other_below : other < length old =
      subst (λ n. n < length old) (sym is_other) (m.who_below i here) in
      let who_from : get_or who from 0 ≡ first =
      ap (λ n. get_or who n 0) is_from ∙ m.who_at first first_below in
      let at_other : get_or at other 0 ≡ i = ap (λ n. get_or at n 0) is_other ∙ m.at_who i here in
      let who_i : get_or who' i 0 ≡ first = moved_who.0 0 ∙ who_from in
      let who_there : get_or who' from 0 ≡ other = moved_who.1 0 ∙ sym is_other in
      let at_first : get_or at' first 0 ≡ i = moved_at.0 0 ∙ at_other in
      let at_there : get_or at' other 0 ≡ from = moved_at.1 0 ∙ sym is_from in
      record {
        now_long = long_now ∙ m.now_long;
        who_long = long_who ∙ m.who_long;
        at_long = long_at ∙ m.at_long;
        who_below = λ k h. let s = source who who' i from k moved_who in let how = s.how in
            subst (λ n. n < length old) (sym s.is) (m.who_below s.was (omega arith));
        at_below = λ k h. let s = source at at' first other k moved_at in let how = s.how in
            subst (λ n. n < length old) (sym s.is) (m.at_below s.was (omega arith));
        who_at = λ k h. elim (same_or_not k first) [
          | inl e ↦ ap (λ n. get_or who' (get_or at' n 0) 0) e ∙ ap (λ n. get_or who' n 0) at_first
              ∙ who_i ∙ sym e
          | inr a ↦ elim (same_or_not k other) [
            | inl e ↦ ap (λ n. get_or who' (get_or at' n 0) 0) e
                ∙ ap (λ n. get_or who' n 0) at_there ∙ who_there ∙ sym e
            | inr b ↦
                let stays : get_or at' k 0 ≡ get_or at k 0 = moved_at.2 k 0 a b in
                let not_i : get_or at k 0 ≢ i =
                λ e. b (sym (m.who_at k h) ∙ ap (λ n. get_or who n 0) e ∙ sym is_other) in
                let not_from : get_or at k 0 ≢ from =
                λ e. a (sym (m.who_at k h) ∙ ap (λ n. get_or who n 0) e ∙ who_from) in
                ap (λ n. get_or who' n 0) stays ∙ moved_who.2 (get_or at k 0) 0 not_i not_from
                ∙ m.who_at k h
          ]
        ];
        at_who = λ k h. elim (same_or_not k i) [
          | inl e ↦ ap (λ n. get_or at' (get_or who' n 0) 0) e ∙ ap (λ n. get_or at' n 0) who_i
              ∙ at_first ∙ sym e
          | inr a ↦ elim (same_or_not k from) [
            | inl e ↦ ap (λ n. get_or at' (get_or who' n 0) 0) e
                ∙ ap (λ n. get_or at' n 0) who_there ∙ at_there ∙ sym e
            | inr b ↦
                let stays : get_or who' k 0 ≡ get_or who k 0 = moved_who.2 k 0 a b in
                let not_first : get_or who k 0 ≢ first =
                λ e. b (sym (m.at_who k h) ∙ ap (λ n. get_or at n 0) e ∙ sym is_from) in
                let not_other : get_or who k 0 ≢ other =
                λ e. a (sym (m.at_who k h) ∙ ap (λ n. get_or at n 0) e ∙ at_other) in
                ap (λ n. get_or at' n 0) stays ∙ moved_at.2 (get_or who k 0) 0 not_first not_other
                ∙ m.at_who k h
          ]
        ];
        moved = λ k d h. elim (same_or_not k i) [
          | inl e ↦ ap (λ n. get_or now' n d) e ∙ moved_now.0 d ∙ m.moved from d from_below
              ∙ ap (λ n. get_or old n d) (who_from ∙ sym who_i ∙ ap (λ n. get_or who' n 0) (sym e))
          | inr a ↦ elim (same_or_not k from) [
            | inl e ↦ ap (λ n. get_or now' n d) e ∙ moved_now.1 d ∙ m.moved i d here
                ∙ ap (λ n. get_or old n d)
                (sym is_other ∙ sym who_there ∙ ap (λ n. get_or who' n 0) (sym e))
            | inr b ↦ moved_now.2 k d a b ∙ m.moved k d h
                ∙ ap (λ n. get_or old n d) (sym (moved_who.2 k 0 a b))
          ]
        ];
        settled = λ k h. elim (same_or_not k i) [
          | inl e ↦
              ap (λ n. get_or who' n 0) e ∙ who_i ∙ is_first ∙ ap (λ n. get_or order n 0) (sym e)
          | inr a ↦
              let not_from : k ≢ from = λ e. a (o.apart k i (omega arith) here (sym
              (m.settled k (omega arith)) ∙ ap (λ n. get_or who n 0) e ∙ who_from ∙ is_first)) in
              moved_who.2 k 0 a not_from ∙ m.settled k (omega arith)
        ];
      }

  -- when all are settled, each is where the order names it
  pub moving_all : IsMoving old order (length old) now who at → (k : ℕ) (d : X) → k < length old
      → get_or now k d ≡ get_or old (get_or order k 0) d
  moving_all m k d h = m.moved k d h ∙ ap (λ n. get_or old n d) (m.settled k h)

pub moved_map : {X Y : Type 0} (f : X → Y) (none : Y) (old new : List X) (indices : List ℕ)
    → IsOrder (length old) indices → length new ≡ length old → IsMovedBy indices old new
    → map f new ≡ map (λ k. get_or (map f old) k none) indices
moved_map f none [] [] [] o long moved = refl
moved_map f none [] [] (p ∷ ps) o long moved = let l = o.long in absurd (omega arith)
moved_map f none [] (y ∷ ys) indices o long moved = absurd (omega arith)
moved_map f none (x ∷ xs) new indices o long moved =
    let old = x ∷ xs in
    let many = o.long in
    let n = length-map new f in
    let m = length-map indices (λ k. get_or (map f old) k none) in
    ext_get_or none (map f new) (map (λ k. get_or (map f old) k none) indices) (omega arith)
    (λ k h.
    let here : k < length old = omega arith in
    let there = o.below k here in
    get_or-map f new k x none (omega arith) ∙ ap f (moved k x here)
    ∙ sym (get_or-map f old (get_or indices k 0) x none there)
    ∙ sym (get_or-map (λ k. get_or (map f old) k none) indices k 0 none (omega arith)))

all_indices : (rules : List StyleRule)
    → map (rule_at rules) (range_with_len 0 (length rules)) ≡ rules
all_indices rules =
    let n = length-map-range_with_len (rule_at rules) 0 (length rules) in
    ext_get_or no_rule (map (rule_at rules) (range_with_len 0 (length rules))) rules n
    (λ k h. get_or-map-range_with_len (rule_at rules) 0 (length rules) k k no_rule (omega arith)
    (omega arith))

-- whether the rule at an index has a smaller specificity than that at another
abbrev pub smaller_at : List StyleRule → ℕ → ℕ → Bool
smaller_at rules a b = is_smaller (rule_at rules a) (rule_at rules b)

pub smaller_indices : (rules : List StyleRule) → IsStrictWeakOrder (smaller_at rules)
smaller_indices rules = ranks_by nat_list_cmp_total (λ index. weight (rule_at rules index))

pub orders_rules : (rules : List StyleRule) (indices : List ℕ)
    → IsPermutation (range_with_len 0 (length rules)) indices
    → IsSortedBy (smaller_at rules) indices
    → IsStableBy (smaller_at rules) (range_with_len 0 (length rules)) indices
    → OrdersRules rules indices
orders_rules rules indices moved up stable = record {
  order = order_moved (length rules) indices moved;
  gives = sym (ap ordered (sym (all_indices rules)) ∙ ordered_is is_smaller smaller_order _ _
      (arranges-map (rule_at rules) is_smaller smaller_order _ _
      (arranges_from_sort (smaller_at rules) (smaller_indices rules) _ _ moved up stable)));
}
