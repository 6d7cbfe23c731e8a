-- A stable sort by the order of the cascade ranks declarations.
use Rattle.std.proofs.Common.{◌≡◌, suc, ◌+◌, Bool, true, false, not, ◌&&◌, cond, if◌then◌else◌, List, [], ◌∷◌, ◌++◌, Option, None, Some, refl, sym, ap, ◌∙◌, subst, reverse, get_or, arith}
use Rattle.std.specs.Prelude.{filter}
use Rattle.std.specs.List.{All}
use Rattle.std.specs.List.Sorted.{IsSortedBy, IsStableBy, ties}
use denote.Param.Members.{Mut}
use denote.Ref.{Bor}
use Rattle.std.specs.Fn.{Called, ComparesAs}
use Rattle.std.proofs.lemmas.Fn.{always_returns_same}
use Rattle.std.specs.Cmp.{IsStrictWeakOrder}
use Rattle.std.specs.declared.cmp.Ordering.{Ordering}
use Rattle.std.specs.declared.cmp.Ordering.TheVariants.{Less, Equal, Greater}
use Rattle.std.specs.Ordering.{is_gt, is_lt, ordering_reverse}
use Rattle.std.proofs.lemmas.Cmp.{tied_itself}
use mathlib.Core.List.{reverse-cons}
use Rattle.std.proofs.lemmas.List.{append-nil, append_assoc}
use Rattle.std.proofs.lemmas.List.Elements.{All-head, All-tail, All-filter, filter-append}
use Rattle.std.proofs.lemmas.List.Sorted.{ranks_by, sorted_far}
use Rattle.css_cascade.specs.Cascade.{Weighed, beats, cascade_cmp, winner_from}
use Rattle.css_cascade.proofs.CascadeLemmas.{cascade_total}
use Rattle.css_cascade.proofs.WinnerLemmas.{bounds-trans, found-some, wins}
use Rattle.css_styles.specs.internal.Floors.{Ranks, first_of}

abbrev last_from : {X : Type 0} → Option X → List X → Option X
last_from last [] = last
last_from last (x ∷ xs) = last_from (Some x) xs

reversed : (r : Ordering) → is_gt r ≡ is_lt (ordering_reverse r)
reversed Less = refl
reversed Equal = refl
reversed Greater = refl

true-or-false : {G : Type 0} (t : Bool) → t ≡ true → t ≡ false → G
true-or-false t e f = absurd (let no : true ≡ false = sym e ∙ f in cc)

and-left : (a b : Bool) → (not a && not b) ≡ true → a ≡ false
and-left true b e = absurd (cc)
and-left false b e = refl

and-right : (a b : Bool) → (not a && not b) ≡ true → b ≡ false
and-right true b e = absurd (cc)
and-right false true e = absurd (cc)
and-right false false e = refl

pub filters-commute : {X : Type 0} (p q : X → Bool) (xs : List X) → filter p (filter q xs) ≡ filter q (filter p xs)
filters-commute p q [] = refl
filters-commute p q (x ∷ xs) = by (filters-commute p q xs) (p x) (q x) refl refl
  where
    by : filter p (filter q xs) ≡ filter q (filter p xs) → (s t : Bool) → p x ≡ s → q x ≡ t
        → filter p (cond t (x ∷ filter q xs) (filter q xs)) ≡ filter q (cond s (x ∷ filter p xs) (filter p xs))
    by rest true true e f =
        ap (λ b. cond b (x ∷ filter p (filter q xs)) (filter p (filter q xs))) e
        ∙ ap (λ ys. x ∷ ys) rest
        ∙ sym (ap (λ b. cond b (x ∷ filter q (filter p xs)) (filter q (filter p xs))) f)
    by rest true false e f =
        rest
        ∙ sym (ap (λ b. cond b (x ∷ filter q (filter p xs)) (filter q (filter p xs))) f)
    by rest false true e f =
        ap (λ b. cond b (x ∷ filter p (filter q xs)) (filter p (filter q xs))) e
        ∙ rest
    by rest false false e f = rest

module _ {X : Type 0} (weight : X → Weighed) where
  abbrev pub less : X → X → Bool
  less x y = is_lt (cascade_cmp (weight x) (weight y))

  beats-less : (a b : X) → beats (weight a) (weight b) ≡ less b a
  beats-less a b =
      reversed (cascade_cmp (weight a) (weight b))
      ∙ ap is_lt (sym (cascade_total.antisymm (weight b) (weight a)))

  pub less_ranks : IsStrictWeakOrder less
  less_ranks = ranks_by cascade_total weight

  ties-itself : (x : X) → ties less x x ≡ true
  ties-itself x = ap (λ r. not (is_lt r) && not (is_lt r)) (tied_itself cascade_total (weight x))

  -- ---- the one that wins is the last of those that nothing tells apart from it

  module _ (w : X) where
    abbrev IsLast : List X → Type 0
    IsLast xs = (a : X) (last : Option X) → winner_from weight (Some a) xs ≡ Some w
        → (ties less w a ≡ true → last ≡ Some a) → last_from last (filter (ties less w) xs) ≡ Some w

    last-tied : (a : X) (last : Option X) (xs : List X) → winner_from weight (Some a) xs ≡ Some w
        → (ties less w a ≡ true → last ≡ Some a) → last_from last (filter (ties less w) xs) ≡ Some w
    last-tied a last [] e h =
        let same : a ≡ w = cc in
        h (subst (λ v. ties less w v ≡ true) (sym same) (ties-itself w)) ∙ e
    last-tied a last (x ∷ xs) e h =
        by (λ b last. last-tied b last xs) (beats (weight a) (weight x)) refl
      where
        -- if the one before beats it, it is told apart
        apart : beats (weight a) (weight x) ≡ true → ties less w x ≡ true → ⊥
        apart f t =
            let first : beats (weight a) (weight w) ≡ false =
            All-head (λ (o : X). beats (weight o) (weight w) ≡ false) a (x ∷ xs) (wins weight (a ∷ x ∷ xs) w e).unbeaten in
            let second : beats (weight w) (weight x) ≡ false =
            beats-less w x ∙ and-right (less w x) (less x w) t in
            true-or-false (beats (weight a) (weight x)) f (bounds-trans weight a w x first second)

        at : IsLast xs → (t : Bool) (b : X) → ties less w x ≡ t → winner_from weight (Some b) xs ≡ Some w
            → ((t ≡ false) → ties less w b ≡ true → last ≡ Some b) → (t ≡ true → b ≡ x)
            → last_from last (cond t (x ∷ filter (ties less w) xs) (filter (ties less w) xs)) ≡ Some w
        at rest true b t won had is = rest b (Some x) won (λ s. ap Some (sym (is refl)))
        at rest false b t won had is = rest b last won (had refl)

        by : IsLast xs → (f : Bool) → beats (weight a) (weight x) ≡ f
            → last_from last (filter (ties less w) (x ∷ xs)) ≡ Some w
        by rest true f =
            at rest (ties less w x) a refl (ap (λ b. winner_from weight (Some b) xs) (sym (ap (λ t. if t then a else x) f)) ∙ e)
            (λ no t. h t) (λ yes. absurd (apart f yes))
        by rest false f =
            at rest (ties less w x) x refl (ap (λ b. winner_from weight (Some b) xs) (sym (ap (λ t. if t then a else x) f)) ∙ e)
            (λ no t. true-or-false (ties less w x) t no) (λ yes. refl)

  last-of-tied : (xs : List X) (w : X) → winner_from weight None xs ≡ Some w
      → last_from None (filter (ties less w) xs) ≡ Some w
  last-of-tied [] w e = absurd (let no : ⊥ = cc in no)
  last-of-tied (x ∷ xs) w e = by (ties less w x) refl
    where
      by : (t : Bool) → ties less w x ≡ t
          → last_from None (cond t (x ∷ filter (ties less w) xs) (filter (ties less w) xs)) ≡ Some w
      by true t = last-tied w x (Some x) xs e (λ s. refl)
      by false t = last-tied w x None xs e (λ s. true-or-false (ties less w x) s t)

  last-all : (P : X → Type 0) (last : Option X) (xs : List X) (w : X) → last_from last xs ≡ Some w
      → (last ≡ Some w → P w) → All P xs → P w
  last-all P last [] w e h all = h e
  last-all P last (x ∷ xs) w e h all =
      last-all P (Some x) xs w e (λ s. let same : x ≡ w = cc in subst P same (All-head P x xs all))
      (All-tail P x xs all)

  -- ---- lists in which those that nothing tells apart stand alike

  abbrev pub Alike : List X → List X → Type 0
  Alike xs ys = (x : X) → filter (ties less x) ys ≡ filter (ties less x) xs

  none-alike : (ys : List X) → Alike [] ys → ys ≡ []
  none-alike [] h = refl
  none-alike (y ∷ ys) h =
      absurd (let no : y ∷ filter (ties less y) ys ≡ [] =
      ap (λ t. cond t (y ∷ filter (ties less y) ys) (filter (ties less y) ys)) (sym (ties-itself y)) ∙ h y in cc)

  none-wins : (xs : List X) → winner_from weight None xs ≡ None → xs ≡ []
  none-wins [] e = refl
  none-wins (x ∷ xs) e = absurd (found-some weight x xs e)

  ties-alike : (v w x : X) → less v w ≡ false → less w v ≡ false → ties less v x ≡ ties less w x
  ties-alike v w x a b = by (cascade_cmp (weight v) (weight w)) refl
    where
      by : (r : Ordering) → cascade_cmp (weight v) (weight w) ≡ r → ties less v x ≡ ties less w x
      by Less e = true-or-false (less v w) (ap is_lt e) a
      by Equal e =
          ap (λ r. not (is_lt r) && not (less x v)) (cascade_total.congr (weight v) (weight w) (weight x) e)
          ∙ ap (λ t. not (less w x) && not t) (sym (beats-less v x) ∙ ap is_gt (cascade_total.congr (weight v) (weight w) (weight x) e) ∙ beats-less w x)
      by Greater e = true-or-false (less w v) (sym (beats-less v w) ∙ ap is_gt e) b

  filter-agree : (p q : X → Bool) → ((x : X) → p x ≡ q x) → (xs : List X) → filter p xs ≡ filter q xs
  filter-agree p q h [] = refl
  filter-agree p q h (x ∷ xs) =
      ap (λ t. cond t (x ∷ filter p xs) (filter p xs)) (h x)
      ∙ ap (λ ys. cond (q x) (x ∷ ys) ys) (filter-agree p q h xs)

  -- the same wins of both
  alike-winner : (xs ys : List X) → Alike xs ys → winner_from weight None xs ≡ winner_from weight None ys
  alike-winner xs ys h = by (winner_from weight None xs) (winner_from weight None ys) refl refl
    where
      by : (a b : Option X) → winner_from weight None xs ≡ a → winner_from weight None ys ≡ b → a ≡ b
      by None b e f =
          let none : ys ≡ [] = none-alike ys (subst (λ zs. Alike zs ys) (none-wins xs e) h) in
          sym (ap (winner_from weight None) none) ∙ f
      by (Some w) None e f =
          let last = last-of-tied xs w e in
          absurd (let no : None ≡ Some w =
          ap (λ zs. last_from None (filter (ties less w) zs)) (sym (none-wins ys f))
          ∙ ap (last_from None) (h w) ∙ last in cc)
      by (Some w) (Some v) e f =
          let of-xs = last-of-tied xs w e in
          let of-ys = last-of-tied ys v f in
          let Under : X → X → Type 0 = λ one other. beats (weight other) (weight one) ≡ false in
          let w-under : beats (weight w) (weight v) ≡ false =
          last-all (Under v) None (filter (ties less w) ys) w (ap (last_from None) (h w) ∙ of-xs)
          (λ s. absurd (let no : ⊥ = cc in no))
          (All-filter (ties less w) (Under v) ys (wins weight ys v f).unbeaten) in
          let v-under : beats (weight v) (weight w) ≡ false =
          last-all (Under w) None (filter (ties less v) xs) v (sym (ap (last_from None) (h v)) ∙ of-ys)
          (λ s. absurd (let no : ⊥ = cc in no))
          (All-filter (ties less v) (Under w) xs (wins weight xs w e).unbeaten) in
          sym of-xs
          ∙ ap (last_from None) (filter-agree (ties less w) (ties less v)
          (λ x. ties-alike w v x (sym (beats-less v w) ∙ v-under) (sym (beats-less w v) ∙ w-under)) xs)
          ∙ sym (ap (last_from None) (h v)) ∙ of-ys

  -- ---- lists that are sorted

  abbrev Up : List X → Type 0
  Up [] = Unit {0}
  Up (x ∷ xs) = All (λ y. less y x ≡ false) xs × Up xs

  up-of : (xs : List X) → IsSortedBy less xs → Up xs
  up-of [] h = tt
  up-of (x ∷ xs) h = (
    λ k d l. sorted_far less less_ranks (x ∷ xs) h 0 (suc k) d (omega arith) (omega (arith, l)),
    up-of xs (λ k d low l.
        let next : suc k + 1 ≡ suc (k + 1) = omega arith in
        subst (λ j. less (get_or (x ∷ xs) j d) (get_or xs k d) ≡ false) next
        (h (suc k) d (omega arith) (omega (arith, l)))),
  )

  up-filter : (p : X → Bool) (xs : List X) → Up xs → Up (filter p xs)
  up-filter p [] h = tt
  up-filter p (x ∷ xs) h = by (p x) (up-filter p xs h.1)
    where
      by : (t : Bool) → Up (filter p xs) → Up (cond t (x ∷ filter p xs) (filter p xs))
      by true rest = (All-filter p (λ y. less y x ≡ false) xs h.0, rest)
      by false rest = rest

  up-last : (a : X) (xs : List X) → All (λ y. less y a ≡ false) xs → Up xs
      → winner_from weight (Some a) xs ≡ last_from (Some a) xs
  up-last a [] over h = refl
  up-last a (x ∷ xs) over h =
      ap (λ t. winner_from weight (Some (if t then a else x)) xs)
      (beats-less a x ∙ All-head (λ y. less y a ≡ false) x xs over)
      ∙ up-last x xs h.0 h.1

  up-winner : (xs : List X) → Up xs → winner_from weight None xs ≡ last_from None xs
  up-winner [] h = refl
  up-winner (x ∷ xs) h = up-last x xs h.0 h.1

  first-append : (p : X → Bool) (xs zs : List X)
      → first_of (filter p (reverse xs) ++ zs) ≡ last_from (first_of zs) (filter p xs)
  first-append p [] zs = refl
  first-append p (x ∷ xs) zs =
      ap (λ ys. first_of (ys ++ zs))
      (ap (filter p) (reverse-cons x xs) ∙ filter-append p (reverse xs) (x ∷ []))
      ∙ ap first_of (append_assoc (filter p (reverse xs)) (filter p (x ∷ [])) zs)
      ∙ first-append p xs (filter p (x ∷ []) ++ zs) ∙ by (p x)
    where
      by : (t : Bool) → last_from (first_of (cond t (x ∷ []) [] ++ zs)) (filter p xs)
          ≡ last_from (first_of zs) (cond t (x ∷ filter p xs) (filter p xs))
      by true = refl
      by false = refl

  -- sorted so that those that nothing tells apart keep their order, and turned, they are ranked
  pub sorted-ranks : (all sorted : List X) → IsSortedBy less sorted → IsStableBy less all sorted
      → Ranks weight all (reverse sorted)
  sorted-ranks all sorted up stable test =
      alike-winner (filter test all) (filter test sorted)
      (λ x. filters-commute (ties less x) test sorted ∙ ap (filter test) (stable x)
      ∙ filters-commute test (ties less x) all)
      ∙ up-winner (filter test sorted) (up-filter test sorted (up-of sorted up))
      ∙ sym (first-append test sorted [])
      ∙ ap first_of (append-nil (filter test (reverse sorted)))

  -- what `sort_by` ensures where each call compares the weights of the two
  pub sort-ranks : {F : Type 0} {g : Mut F (Bor X × (Bor X × Unit {0})) Ordering} {f : F}
      (all sorted : List X)
      → ((lt : X → X → Bool) → IsStrictWeakOrder lt → ComparesAs g lt f → IsSortedBy lt sorted)
      → ((lt : X → X → Bool) → IsStrictWeakOrder lt → ComparesAs g lt f → IsStableBy lt all sorted)
      → ((a : Bor X × (Bor X × Unit {0})) (r : Ordering) (f' : F) → Called g f a r f'
      → (r ≡ cascade_cmp (weight a.0.now) (weight a.1.0.now)) × (f' ≡ f))
      → Ranks weight all (reverse sorted)
  sort-ranks {g = g} {f = f} all sorted up stable calls =
      let compares : ComparesAs g less f =
      always_returns_same g (λ a r. is_lt r ≡ less a.0.now a.1.0.now) f
      (λ a r f' called. (ap is_lt (calls a r f' called).0, (calls a r f' called).1)) in
      sorted-ranks all sorted (up less less_ranks compares) (stable less less_ranks compares)
