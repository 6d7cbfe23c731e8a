-- Declarations in the order of the cascade, the strongest first.
-- Serves `explaining::put_in_order` and the laws of `laws`.
use Rattle.std.proofs.Common.{◌≡◌, Bool, List, [], ◌∷◌, ◌++◌, refl, ap, ◌∙◌, sym, map, reverse}
use mathlib.Core.List.{reverse-cons}
use Rattle.std.proofs.lemmas.List.{map-append}
use Rattle.std.specs.List.Sorted.{IsPermutation, IsSortedBy, IsStableBy}
use Rattle.std.specs.Cmp.{IsStrictWeakOrder}
use Rattle.css_text.proofs.order.RankLemmas.{arranges-map, arranges_from_sort, ordered_is}
use denote.Param.Members.{Mut}
use denote.Ref.{Bor}
use Rattle.std.specs.Fn.{Called, ComparesAs}
use Rattle.std.proofs.lemmas.Fn.{always_returns_same}
use Rattle.std.proofs.lemmas.List.Sorted.{ranks_by}
use Rattle.std.specs.declared.cmp.Ordering.{Ordering}
use Rattle.std.specs.Ordering.{is_lt}
use Rattle.css_cascade.specs.Cascade.{cascade_cmp}
use Rattle.css_cascade.specs.WeightViews.{weighed}
use Rattle.css_cascade.proofs.CascadeLemmas.{cascade_total}
use Rattle.css_styles.specs.Contenders.{Contender}
use Rattle.css_styles.specs.Winners.{in_order}
use Rattle.css_explain.specs.declared.contenders.Contender.{Contender as ContenderCode}
use Rattle.css_explain.specs.internal.Parts.{contender_of}

pub map-reverse : {X Y : Type 0} (f : X → Y) (xs : List X) → map f (reverse xs) ≡ reverse (map f xs)
map-reverse f [] = refl
map-reverse f (x ∷ xs) =
    ap (map f) (reverse-cons x xs) ∙ map-append f (reverse xs) (x ∷ [])
    ∙ ap (λ ys. ys ++ f x ∷ []) (map-reverse f xs) ∙ sym (reverse-cons (f x) (map f xs))

-- the first is before the second in the order of the cascade
abbrev pub weaker : Contender → Contender → Bool
weaker one other = is_lt (cascade_cmp one.weight other.weight)

pub weaker_ranks : IsStrictWeakOrder weaker
weaker_ranks = ranks_by cascade_total (λ (one : Contender). one.weight)

abbrev lighter : ContenderCode → ContenderCode → Bool
lighter one other = is_lt (cascade_cmp (weighed one.weight) (weighed other.weight))

lighter_ranks : IsStrictWeakOrder lighter
lighter_ranks = ranks_by cascade_total (λ (one : ContenderCode). weighed one.weight)

-- what `sort_by` ensures where each call compares the weights of the two
pub sort-orders : {F : Type 0} {g : Mut F (Bor ContenderCode × (Bor ContenderCode × Unit {0})) Ordering}
    {f : F} (all sorted : List ContenderCode) → IsPermutation all sorted
    → ((lt : ContenderCode → ContenderCode → Bool) → IsStrictWeakOrder lt → ComparesAs g lt f → IsSortedBy lt sorted)
    → ((lt : ContenderCode → ContenderCode → Bool) → IsStrictWeakOrder lt → ComparesAs g lt f
    → IsStableBy lt all sorted)
    → ((a : Bor ContenderCode × (Bor ContenderCode × Unit {0})) (r : Ordering) (f' : F) → Called g f a r f'
    → (r ≡ cascade_cmp (weighed a.0.now.weight) (weighed a.1.0.now.weight)) × (f' ≡ f))
    → map contender_of sorted ≡ in_order (map contender_of all)
sort-orders {g = g} {f = f} all sorted moved up stable calls =
    let compares : ComparesAs g lighter f =
    always_returns_same g (λ a r. is_lt r ≡ lighter a.0.now a.1.0.now) f
    (λ a r f' called. (ap is_lt (calls a r f' called).0, (calls a r f' called).1)) in
    sym (ordered_is weaker weaker_ranks (map contender_of all) (map contender_of sorted)
    (arranges-map contender_of weaker weaker_ranks all sorted
    (arranges_from_sort lighter lighter_ranks all sorted moved (up lighter lighter_ranks compares)
    (stable lighter lighter_ranks compares))))
