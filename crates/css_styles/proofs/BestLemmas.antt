-- A declaration is beaten by one of several exactly if the best of these beats it.
-- Serves `contest::is_unbeaten`.
use Rattle.std.proofs.Common.{◌≡◌, Bool, true, false, ◌||◌, if◌then◌else◌, List, [], ◌∷◌, Option, None, Some, refl, sym, ap, ◌∙◌}
use Rattle.std.specs.List.{list_any}
use Rattle.std.specs.declared.cmp.Ordering.{Ordering}
use Rattle.std.specs.declared.cmp.Ordering.TheVariants.{Less, Equal, Greater}
use Rattle.std.specs.Ordering.{is_gt, ordering_reverse}
use Rattle.css_cascade.specs.Cascade.{Weighed, beats, cascade_cmp}
use Rattle.css_cascade.specs.Cascade.{better, winner_from}
use Rattle.css_cascade.proofs.CascadeLemmas.{cascade_total}
use Rattle.css_cascade.proofs.WinnerLemmas.{bounds-trans}

abbrev pub itself : Weighed → Weighed
itself w = w

-- the best, if there is one, beats this one
abbrev pub best_beats : Option Weighed → Weighed → Bool
best_beats None one = false
best_beats (Some best) one = beats best one

turned : (r : Ordering) → is_gt r ≡ true → is_gt (ordering_reverse r) ≡ false
turned Less e = absurd (cc)
turned Equal e = absurd (cc)
turned Greater e = refl

-- what beats another is not beaten by it
back : (a b : Weighed) → beats a b ≡ true → beats b a ≡ false
back a b e = ap is_gt (cascade_total.antisymm b a) ∙ turned (cascade_cmp a b) e

-- what is beaten by the lesser is beaten by the greater
carried : (a v w : Weighed) → beats v a ≡ false → beats v w ≡ true → beats a w ≡ true
carried a v w less e = by (beats a w) refl
  where
    by : (t : Bool) → beats a w ≡ t → beats a w ≡ true
    by true f = f
    by false f =
        let not : beats v w ≡ false = bounds-trans itself v a w less f in
        absurd (let no : true ≡ false = sym e ∙ not in cc)

first : (s t : Bool) → (t ≡ true → s ≡ true) → s ≡ (s || t)
first true t h = refl
first false true h = h refl
first false false h = refl

second : (s t : Bool) → (s ≡ true → t ≡ true) → t ≡ (s || t)
second true t h = h refl
second false t h = refl

-- the better of two beats what either beats
better-beats : (a v w : Weighed) → beats (better itself (Some a) v) w ≡ (beats a w || beats v w)
better-beats a v w = by (beats a v) refl
  where
    by : (t : Bool) → beats a v ≡ t → beats (if t then a else v) w ≡ (beats a w || beats v w)
    by true e = first (beats a w) (beats v w) (carried a v w (back a v e))
    by false e = second (beats a w) (beats v w) (carried v a w e)

or-false : (t : Bool) → (t || false) ≡ t
or-false true = refl
or-false false = refl

or-assoc : (a b c : Bool) → (a || (b || c)) ≡ ((a || b) || c)
or-assoc true b c = refl
or-assoc false b c = refl

any-from : (a w : Weighed) (all : List Weighed)
    → (beats a w || list_any (λ v. beats v w) all)
    ≡ best_beats (winner_from itself (Some a) all) w
any-from a w [] = or-false (beats a w)
any-from a w (v ∷ all) =
    or-assoc (beats a w) (beats v w) (list_any (λ x. beats x w) all)
    ∙ sym (ap (λ t. t || list_any (λ x. beats x w) all) (better-beats a v w))
    ∙ any-from (better itself (Some a) v) w all

pub any-beats : (w : Weighed) (all : List Weighed)
    → list_any (λ v. beats v w) all ≡ best_beats (winner_from itself None all) w
any-beats w [] = refl
any-beats w (v ∷ all) = any-from v w all
