-- What is applied to an element, in order.
-- Serves the functions of `contest`.
use Rattle.std.proofs.Common.{◌≡◌, ℕ, Bool, true, false, not, cond, List, [], ◌∷◌, map, filter, Option, None, Some, refl, sym, ap, ◌∙◌, subst, option_map}
use Rattle.std.specs.List.{All, slice_get}
use Rattle.std.specs.List.Sorted.{IsPermutation, IsSortedBy, IsStableBy}
use Rattle.std.specs.Cmp.{IsStrictWeakOrder}
use Rattle.std.proofs.lemmas.List.Elements.{All-cons, All-head, All-tail}
use Rattle.css_text.proofs.order.RankLemmas.{arranges-map, arranges_from_sort, ordered_is}
use denote.Param.Members.{Mut}
use denote.Ref.{Bor}
use Rattle.std.specs.Fn.{Called, ComparesAs}
use Rattle.std.proofs.lemmas.Fn.{always_returns_same}
use Rattle.std.specs.declared.cmp.Ordering.{Ordering}
use Rattle.std.specs.Ordering.{is_lt}
use Rattle.css_cascade.specs.Cascade.{cascade_cmp}
use Rattle.css_cascade.specs.WeightViews.{weighed}
use Rattle.css_cascade.specs.declared.weights.Weight.{Weight}
use Rattle.css_styles.specs.declared.contest.Numbered.{Numbered}
use Rattle.css_styles.specs.Contenders.{Contender}
use Rattle.css_styles.specs.Winners.{in_order, is_beaten, unbeaten}
use Rattle.css_styles.specs.internal.Numbered.{HasNumber, IsNoted, IsNumbered, best_of, is_best_by, named_of, numbered_of, weight_of}
use Rattle.css_styles.proofs.ContestLemmas.{noted-none, noted-some}
use Rattle.css_styles.proofs.RankLemmas.{less, less_ranks}

-- ---- those that none beats

module _ (properties : List (List ℕ)) (all : List Numbered) (best : List (Option Weight))
    (numbered : All (IsNumbered properties) all) where
  -- what is noted tells
  best-noted : (one : Numbered) → IsNumbered properties one → IsNoted all best one
      → is_best_by (slice_get best one.property) (weight_of one)
      ≡ not (is_beaten (map numbered_of all) (numbered_of one))
  best-noted one of-one noted = by (slice_get best one.property) refl
    where
      by : (o : Option (Option Weight)) → slice_get best one.property ≡ o
          → is_best_by o (weight_of one) ≡ not (is_beaten (map numbered_of all) (numbered_of one))
      by None at = absurd (let no : None ≡ Some (best_of one.property all) =
          sym (ap (option_map (option_map weighed)) at) ∙ noted in cc)
      by (Some None) at = noted-none properties one of-one all best numbered noted at
      by (Some (Some w)) at = noted-some properties one of-one all best w numbered noted at

  best-in : (xs : List Numbered) → All (IsNumbered properties) xs → All (IsNoted all best) xs
      → map numbered_of (filter (λ (n : Numbered). is_best_by (slice_get best n.property) (weight_of n)) xs)
      ≡ filter (λ (one : Contender). not (is_beaten (map numbered_of all) one)) (map numbered_of xs)
  best-in [] of-xs noted = refl
  best-in (n ∷ xs) of-xs noted =
      by (is_best_by (slice_get best n.property) (weight_of n))
      (best-noted n (All-head (IsNumbered properties) n xs of-xs)
      (All-head (IsNoted all best) n xs noted))
      (best-in xs (All-tail (IsNumbered properties) n xs of-xs) (All-tail (IsNoted all best) n xs noted))
    where
      kept : List Numbered
      kept = filter (λ (n : Numbered). is_best_by (slice_get best n.property) (weight_of n)) xs

      stands : Contender → Bool
      stands one = not (is_beaten (map numbered_of all) one)

      by : (t : Bool) → t ≡ stands (numbered_of n)
          → map numbered_of kept ≡ filter stands (map numbered_of xs)
          → map numbered_of (cond t (n ∷ kept) kept) ≡ filter stands (map numbered_of (n ∷ xs))
      by true e rest =
          ap (λ cs. numbered_of n ∷ cs) rest
          ∙ ap (λ s. cond s (numbered_of n ∷ filter stands (map numbered_of xs))
          (filter stands (map numbered_of xs))) e
      by false e rest =
          rest
          ∙ ap (λ s. cond s (numbered_of n ∷ filter stands (map numbered_of xs))
          (filter stands (map numbered_of xs))) e

  pub best-kept : All (IsNoted all best) all
      → map numbered_of (filter (λ (n : Numbered). is_best_by (slice_get best n.property) (weight_of n)) all)
      ≡ unbeaten (map numbered_of all)
  best-kept noted = best-in all numbered noted

-- ---- in order

abbrev pub lighter : Numbered → Numbered → Bool
lighter = less weight_of

pub lighter_ranks : IsStrictWeakOrder lighter
lighter_ranks = less_ranks weight_of

pub sorted-order : (xs ys : List Numbered) → IsPermutation xs ys → IsSortedBy lighter ys
    → IsStableBy lighter xs ys → map numbered_of ys ≡ in_order (map numbered_of xs)
sorted-order xs ys moved up stable =
    let of : Contender → _ = λ c. c.weight in
    sym (ordered_is (less of) (less_ranks of) (map numbered_of xs) (map numbered_of ys)
    (arranges-map numbered_of (less of) (less_ranks of) xs ys
    (arranges_from_sort lighter lighter_ranks xs ys moved up stable)))

-- what `sort_by` ensures where each call compares the weights of the two
pub sort-orders : {F : Type 0} {g : Mut F (Bor Numbered × (Bor Numbered × Unit {0})) Ordering} {f : F}
    (all sorted : List Numbered) → IsPermutation all sorted
    → ((lt : Numbered → Numbered → Bool) → IsStrictWeakOrder lt → ComparesAs g lt f → IsSortedBy lt sorted)
    → ((lt : Numbered → Numbered → Bool) → IsStrictWeakOrder lt → ComparesAs g lt f → IsStableBy lt all sorted)
    → ((a : Bor Numbered × (Bor Numbered × Unit {0})) (r : Ordering) (f' : F) → Called g f a r f'
    → (r ≡ cascade_cmp (weight_of a.0.now) (weight_of a.1.0.now)) × (f' ≡ f))
    → map numbered_of sorted ≡ in_order (map numbered_of all)
sort-orders {g = g} {f = f} all sorted moved up stable calls =
    let compares : ComparesAs g lighter f =
    always_returns_same g (λ a r. is_lt r ≡ lighter a.0.now a.1.0.now) f
    (λ a r f' called. (ap is_lt (calls a r f' called).0, (calls a r f' called).1)) in
    sorted-order all sorted moved (up lighter lighter_ranks compares) (stable lighter lighter_ranks compares)

-- ---- numbers

-- they are numbered as those are whose names and numbers they have
pub numbered-alike : (properties : List (List ℕ)) (xs ys : List Numbered)
    → map named_of ys ≡ map named_of xs → All (IsNumbered properties) xs → All (IsNumbered properties) ys
numbered-alike properties [] [] same numbered = numbered
numbered-alike properties [] (y ∷ ys) same numbered = absurd (cc)
numbered-alike properties (x ∷ xs) [] same numbered = absurd (cc)
numbered-alike properties (x ∷ xs) (y ∷ ys) same numbered =
    let Is : List ℕ × ℕ → Type 0 = λ p. HasNumber properties p.0 p.1 in
    let head : named_of y ≡ named_of x = cc in
    let tail : map named_of ys ≡ map named_of xs = cc in
    All-cons (IsNumbered properties) y ys
    (subst Is (sym head) (All-head (IsNumbered properties) x xs numbered))
    (numbered-alike properties xs ys tail (All-tail (IsNumbered properties) x xs numbered))
