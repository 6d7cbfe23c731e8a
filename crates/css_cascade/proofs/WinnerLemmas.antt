-- No declaration beats the one that is found, as they are gone through one after another.
use Rattle.std.proofs.Common.{◌≡◌, ℕ, suc, zero, ◌<◌, length, get_or, arith, Bool, true, false, if◌then◌else◌, List, [], ◌∷◌, ◌++◌, Option, None, Some, refl, ap, ◌∙◌, subst}
use Rattle.std.specs.List.{All, Contains}
use Rattle.std.specs.declared.cmp.Ordering.{Ordering}
use Rattle.std.specs.declared.cmp.Ordering.TheVariants.{Less, Equal, Greater}
use Rattle.std.specs.Ordering.{is_gt, ordering_reverse}
use Rattle.std.proofs.lemmas.Cmp.{upto, tied_itself}
use Rattle.std.proofs.lemmas.List.Elements.{All-nil, All-cons}
use Rattle.css_cascade.specs.Cascade.{Weighed, Wins, beats, better, cascade_cmp, winner_from}
use Rattle.css_cascade.proofs.CascadeLemmas.{cascade_total}

reversed : (r : Ordering) → is_gt r ≡ true → is_gt (ordering_reverse r) ≡ false
reversed Less e = cc
reversed Equal e = cc
reversed Greater e = refl

module _ {X : Type 0} (weight : X → Weighed) where
  pub winner-append : (best : Option X) (xs ys : List X)
      → winner_from weight best (xs ++ ys) ≡ winner_from weight (winner_from weight best xs) ys
  winner-append best [] ys = refl
  winner-append best (x ∷ xs) ys = winner-append (Some (better weight best x)) xs ys

  pub found-some : (x : X) (more : List X) → winner_from weight (Some x) more ≡ None → ⊥
  found-some x [] e = cc
  found-some x (y ∷ more) e = found-some (better weight (Some x) y) more e

  abbrev pub Bounds : X → X → Type 0
  Bounds one other = beats (weight other) (weight one) ≡ false

  -- what one bounds, what bounds that bounds too
  pub bounds-trans : (a b c : X) → Bounds b a → Bounds c b → Bounds c a
  bounds-trans a b c p q = upto cascade_total (weight a) (weight b) (weight c) p q

  bounds-itself : (a : X) → Bounds a a
  bounds-itself a = ap is_gt (tied_itself cascade_total (weight a))

  -- the better of two bounds both
  abbrev Both : X → X → X → Type 0
  Both a x best = Bounds best a × Bounds best x

  pick : (t : Bool) (a x : X) → beats (weight a) (weight x) ≡ t → Both a x (if t then a else x)
  pick true a x e = (
    bounds-itself a,
    ap is_gt (cascade_total.antisymm (weight x) (weight a))
        ∙ reversed (cascade_cmp (weight a) (weight x)) e,
  )
  pick false a x e = (e, bounds-itself x)

  better-bounds : (a x : X) → Both a x (better weight (Some a) x)
  better-bounds a x = pick (beats (weight a) (weight x)) a x refl

  -- the best of several bounds all of them and the one before them
  record Bounding (a : X) (more : List X) (one : X) : Type 0 where
    first : Bounds one a
    others : All (Bounds one) more

  bounding : (a : X) (more : List X) (one : X) → winner_from weight (Some a) more ≡ Some one
      → Bounding a more one
  bounding a [] one e =
      let same : a ≡ one = cc in
      record {
        first = subst (λ (o : X). Bounds o a) same (bounds-itself a);
        others = All-nil (Bounds one);
      }
  bounding a (x ∷ more) one e =
      let rest = bounding (better weight (Some a) x) more one e in
      let both = better-bounds a x in
      record {
        first = bounds-trans a (better weight (Some a) x) one both.0 rest.first;
        others =
            All-cons (Bounds one) x more
            (bounds-trans x (better weight (Some a) x) one both.1 rest.first) rest.others;
      }

  -- ---- it is one of them

  there-first : (x : X) (more : List X) → Contains (x ∷ more) x
  there-first x more = (0, omega arith, refl)

  there-later : (x : X) (more : List X) (one : X) → Contains more one → Contains (x ∷ more) one
  there-later x more one h = (suc h.0, omega (arith, h.1), h.2)

  inserted : (a x : X) (more : List X) (one : X) (k : ℕ) → k < suc (length more)
      → get_or (a ∷ more) k one ≡ one → Contains (a ∷ x ∷ more) one
  inserted a x more one zero l e = (0, omega arith, e)
  inserted a x more one (suc k) l e = (suc (suc k), omega arith, e)

  kept : (t : Bool) (a x : X) (more : List X) (one : X)
      → Contains ((if t then a else x) ∷ more) one → Contains (a ∷ x ∷ more) one
  kept true a x more one h = inserted a x more one h.0 h.1 h.2
  kept false a x more one h = there-later a (x ∷ more) one h

  found : (a : X) (more : List X) (one : X) → winner_from weight (Some a) more ≡ Some one
      → Contains (a ∷ more) one
  found a [] one e =
      let same : a ≡ one = cc in subst (Contains (a ∷ [])) same (there-first a [])
  found a (x ∷ more) one e =
      kept (beats (weight a) (weight x)) a x more one (found (better weight (Some a) x) more one e)

  pub wins : (all : List X) (one : X) → winner_from weight None all ≡ Some one → Wins weight all one
  wins [] one e = absurd (let no : ⊥ = cc in no)
  wins (x ∷ more) one e =
      let bounds = bounding x more one e in
      record {
        found_there = found x more one e;
        unbeaten = All-cons (Bounds one) x more bounds.first bounds.others;
      }
