-- Each index of an ordered list is the rank of an element of the source.
-- Serves `laws::index_in_sheet_law`.
use Rattle.std.proofs.Common.{◌≡◌, ◌⊎◌, inl, inr, ℕ, zero, suc, ◌+◌, ◌<◌, ◌≤◌, Bool, true, false, cond, not, ◌&&◌, eqb, List, [], ◌∷◌, length, get_or, take, count_by, Option, None, Some, refl, sym, ap, ◌∙◌, subst, arith}
use Rattle.std.specs.Option.{option_map}
use Rattle.std.specs.List.{slice_get, find, enumerate_from, filter_map, cons_option, range_with_len}
use Rattle.std.specs.List.Sorted.{ties}
use Rattle.std.specs.Ordering.{is_lt, nat_cmp, is_eq, ordering_reverse}
use Rattle.std.specs.declared.cmp.Ordering.{Ordering}
use Rattle.std.specs.declared.cmp.Ordering.TheVariants.{Less, Equal, Greater}
use Rattle.std.specs.Cmp.{unsigned_Decides}
use Rattle.std.specs.Cmp.Lexicographic.{slice_cmp, bytes_decides}
use Rattle.std.proofs.lemmas.Cmp.{nat_list_cmp_total}
use Rattle.std.proofs.lemmas.Map.Text.{is_eq-slice_cmp}
use Rattle.std.proofs.lemmas.Option.{slice_get_within, get_or_from_slice_get, same_Some}
use Rattle.std.proofs.lemmas.Grind.{common_steps}
use Rattle.std.proofs.lemmas.List.FromFn.{get_or-range_with_len, length-range_with_len}
use Rattle.std.proofs.lemmas.List.Sums.{sum_by-take-le}
use Rattle.std.proofs.lemmas.List.Sorted.{sorted_far, length_permutation}
use Rattle.css_text.specs.Ranks.{rank_by, of_rank}
use Rattle.simplecss_grammar.specs.Specificity.{specificity}
use Rattle.simplecss_grammar.specs.Statements.{StyleRule}
use Rattle.simplecss_grammar.specs.Sheets.{is_smaller, ordered}
use Rattle.simplecss_grammar.proofs.order.OrderLemmas.{smaller_order}
use Rattle.css_text.proofs.order.RankLemmas.{ordered_keeps, ordered_arranges, sorted_from_rises}
use Rattle.simplecss.specs.RuleIndices.{IsFrom, ComesBefore}

-- ---- where nothing is left out, the k-th result of a function is of the k-th item

cons_short : {Y : Type 0} (o : Option Y) (ys : List Y) → length (cons_option o ys) ≤ suc (length ys)
cons_short None ys = omega arith
cons_short (Some y) ys = omega arith

filter_map_short : {X Y : Type 0} (f : X → Option Y) (xs : List X)
    → length (filter_map f xs) ≤ length xs
filter_map_short f [] = omega arith
filter_map_short f (x ∷ xs) =
    omega (arith, cons_short (f x) (filter_map f xs), filter_map_short f xs)

given_at : {X Y : Type 0} (f : X → Option Y) (x : X) (xs : List X) (k : ℕ) (y : Y) (d : X)
    (o : Option Y) → f x ≡ o → length (cons_option o (filter_map f xs)) ≡ suc (length xs)
    → slice_get (cons_option o (filter_map f xs)) k ≡ Some y
    → ((j : ℕ) → length (filter_map f xs) ≡ length xs → slice_get (filter_map f xs) j ≡ Some y
    → f (get_or xs j d) ≡ Some y) → f (get_or (x ∷ xs) k d) ≡ Some y
given_at f x xs k y d None e full at later = absurd (omega (arith, full, filter_map_short f xs))
given_at f x xs zero y d (Some z) e full at later = e ∙ at
given_at f x xs (suc k) y d (Some z) e full at later = later k (omega (arith, full)) at

given_by : {X Y : Type 0} (f : X → Option Y) (xs : List X) (k : ℕ) (y : Y) (d : X)
    → length (filter_map f xs) ≡ length xs → slice_get (filter_map f xs) k ≡ Some y
    → f (get_or xs k d) ≡ Some y
given_by f [] k y d full at = absurd (cc)
given_by f (x ∷ xs) k y d full at =
    given_at f x xs k y d (f x) refl full at (λ j. given_by f xs j y d)

-- ---- what a search by rank finds

record Found {X : Type 0} (p : ℕ × X → Bool) (n : ℕ) (xs : List X) (y : X) : Type 0 where
  at : ℕ
  read : slice_get xs at ≡ Some y
  passes : p (n + at, y) ≡ true

found_step : {X : Type 0} (p : ℕ × X → Bool) (n : ℕ) (x : X) (xs : List X) (y : X) (b : Bool)
    → p (n, x) ≡ b
    → option_map (λ e. e.1) (cond b (Some (n, x)) (find p (enumerate_from (n + 1) xs))) ≡ Some y
    → (option_map (λ e. e.1) (find p (enumerate_from (n + 1) xs)) ≡ Some y → Found p (n + 1) xs y)
    → Found p n (x ∷ xs) y
found_step p n x xs y true e is later = record {
  at = 0;
  read = is;
  passes =
      let same : x ≡ y = same_Some x y is in
      let zero_more : n + 0 ≡ n = omega arith in
      ap p (λ i. (zero_more i, sym same i)) ∙ e;
}
found_step p n x xs y false e is later =
    let f = later is in
    record {
      at = suc f.at;
      read = f.read;
      passes =
          let more : n + suc f.at ≡ n + 1 + f.at = omega arith in
          ap p (λ i. (more i, y)) ∙ f.passes;
    }

found : {X : Type 0} (p : ℕ × X → Bool) (n : ℕ) (xs : List X) (y : X)
    → option_map (λ e. e.1) (find p (enumerate_from n xs)) ≡ Some y → Found p n xs y
found p n [] y is = absurd (cc)
found p n (x ∷ xs) y is = found_step p n x xs y (p (n, x)) refl is (found p (n + 1) xs y)

-- each index of the ordered list is the rank of the element there
pub from_rank : (source : List StyleRule) (i : ℕ) (a : StyleRule)
    → slice_get (ordered source) i ≡ Some a → IsFrom source i a
from_rank source i a at =
    let n = length source in
    let long : length (ordered source) ≡ n =
    length_permutation source (ordered source) (ordered_keeps is_smaller smaller_order source) in
    let within : i < n = subst (λ m. i < m) long (slice_get_within (ordered source) i a at) in
    let given = given_by (of_rank is_smaller source) (range_with_len 0 n) i a 0
    (long ∙ sym (length-range_with_len 0 n)) at in
    let here : get_or (range_with_len 0 n) i 0 ≡ i =
    get_or-range_with_len 0 n i 0 within ∙ (let same : 0 + i ≡ i = omega arith in same) in
    let f = found (λ p. eqb (rank_by is_smaller source p.0 p.1) i) 0 source a
    (sym (ap (of_rank is_smaller source) here) ∙ given) in
    record {
      index = f.at;
      read = f.read;
      ranked =
          let same : 0 + f.at ≡ f.at = omega arith in
          ap (λ k. rank_by is_smaller source k a) (sym same)
          ∙ (unsigned_Decides (rank_by is_smaller source (0 + f.at) a) i).0 f.passes;
    }

-- ---- of two that tie, the one of the lesser rank is earlier

count_front : {X : Type 0} (p : X → Bool) (xs : List X) (k l : ℕ) → l ≤ k
    → count_by p (take l xs) ≤ count_by p (take k xs)
count_front p xs k l le =
    let front : take l (take k xs) ≡ take l xs = grind (arith, common_steps) in
    subst (λ ys. count_by p ys ≤ count_by p (take k xs)) front
    (sum_by-take-le (λ x. cond (p x) 1 0) (take k xs) l)

same_rank : (source : List StyleRule) (k : ℕ) (a b : StyleRule)
    → specificity a.components ≡ specificity b.components
    → rank_by is_smaller source k a ≡ rank_by is_smaller source k b
same_rank source k a b e =
    let lt : List ℕ → List ℕ → Bool = λ u v. is_lt (slice_cmp nat_cmp u v) in
    ap (λ s. count_by (λ y. lt (specificity y.components) s) source
    + count_by (λ y. not (lt s (specificity y.components)) && not (lt (specificity y.components) s))
    (take k source)) e

earlier : (source : List StyleRule) (k l : ℕ) (a b : StyleRule)
    → specificity a.components ≡ specificity b.components
    → rank_by is_smaller source k a < rank_by is_smaller source l b → (k < l) ⊎ (l ≤ k) → k < l
earlier source k l a b e less (inl lt) = lt
earlier source k l a b e less (inr le) =
    absurd
    (omega (arith, same_rank source k a b e, count_front (ties is_smaller b) source k l le, less))

below_or_not : (k l : ℕ) → (k < l) ⊎ (l ≤ k)
below_or_not k zero = inr (omega arith)
below_or_not zero (suc l) = inl (omega arith)
below_or_not (suc k) (suc l) =
    elim (below_or_not k l) [ inl lt ↦ inl (omega (arith, lt)) | inr le ↦ inr (omega (arith, le)) ]

-- ---- specificities that are not smaller either way are equal

neither_smaller : (u v : List ℕ) (o : Ordering) → slice_cmp nat_cmp u v ≡ o
    → is_lt (slice_cmp nat_cmp v u) ≡ false → (o ≡ Less) ⊎ (u ≡ v)
neither_smaller u v Less e not_less = inl refl
neither_smaller u v Equal e not_less =
    inr ((bytes_decides u v).0 (sym (is_eq-slice_cmp u v) ∙ ap is_eq e))
neither_smaller u v Greater e not_less =
    let back : slice_cmp nat_cmp v u ≡ Less =
    nat_list_cmp_total.antisymm v u ∙ ap ordering_reverse e in
    let yes : is_lt (slice_cmp nat_cmp v u) ≡ true = ap is_lt back in
    absurd (cc)

before_at : (source : List StyleRule) (i j : ℕ) (a b : StyleRule) (f : IsFrom source i a)
    (g : IsFrom source j b) → i < j
    → (slice_cmp nat_cmp (specificity a.components) (specificity b.components) ≡ Less)
    ⊎ (specificity a.components ≡ specificity b.components)
    → (is_smaller a b ≡ true)
    ⊎ ((specificity a.components ≡ specificity b.components) × (f.index < g.index))
before_at source i j a b f g lt (inl less) = inl (ap is_lt less)
before_at source i j a b f g lt (inr same) =
    inr (
      same,
      earlier source f.index g.index a b same (omega (arith, lt, f.ranked, g.ranked))
          (below_or_not f.index g.index),
    )

pub comes_before : (source : List StyleRule) (i j : ℕ) (a b : StyleRule) → i < j
    → slice_get (ordered source) i ≡ Some a → slice_get (ordered source) j ≡ Some b
    → ComesBefore source i j a b
comes_before source i j a b lt at_i at_j =
    let ys = ordered source in
    let up =
    sorted_from_rises is_smaller ys (ordered_arranges is_smaller smaller_order source).rises in
    let far = sorted_far is_smaller smaller_order ys up i j a (omega (arith, lt))
    (slice_get_within ys j b at_j) in
    let not_less : is_smaller b a ≡ false =
    ap (λ y. is_smaller y a) (sym (get_or_from_slice_get ys j b a at_j))
    ∙ ap (is_smaller (get_or ys j a)) (sym (get_or_from_slice_get ys i a a at_i)) ∙ far in
    let f = from_rank source i a at_i in
    let g = from_rank source j b at_j in
    let order = neither_smaller (specificity a.components) (specificity b.components)
    (slice_cmp nat_cmp (specificity a.components) (specificity b.components)) refl not_less in
    record { first = f; second = g; before = before_at source i j a b f g lt order }
