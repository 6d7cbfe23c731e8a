-- What counts where nothing is rolled back, and that what is rolled back does not win.
-- Serves the law of `laws`.
use Rattle.std.proofs.Common.{◌≡◌, ℕ, zero, suc, ◌+◌, ◌≤◌, Bool, true, false, not, ◌&&◌, ◌||◌, ◌<◌, cond, get_or, List, [], ◌∷◌, length, map, Option, None, Some, refl, sym, ap, ◌∙◌, subst, arith}
use Rattle.std.specs.Prelude.{filter}
use Rattle.std.specs.List.{All, Contains}
use Rattle.std.specs.declared.cmp.Ordering.{Ordering}
use Rattle.std.specs.declared.cmp.Ordering.TheVariants.{Less, Equal, Greater}
use Rattle.std.specs.Ordering.{is_gt, ordering_reverse}
use Rattle.std.proofs.lemmas.List.Elements.{All-cons, All-contains, All-contains_itself, All-filter, All-map, All-nil, All-weaker, filter_passes}
use mathlib.Core.Logic.{◌⊎◌, inl, inr, ⊎_elim}
use Rattle.css_cascade.specs.Cascade.{Weighed, Wins, beats, cascade_cmp}
use Rattle.css_cascade.specs.Rollbacks.{best_of, is_left, is_left_under, left, left_after, left_once, rolls_back}
use Rattle.css_cascade.proofs.CascadeLemmas.{cascade_total}
use Rattle.css_cascade.proofs.RollbackLemmas.{all-left, still}
use Rattle.css_cascade.proofs.WinnerLemmas.{found-some, wins}
use Rattle.css_styles.specs.Contenders.{Contender, is_property}
use Rattle.css_styles.specs.Properties.{property_key}
use Rattle.css_styles.specs.Winners.{AreDistinct, counting, counting_each, is_beaten, unbeaten}
use Rattle.css_styles.specs.internal.Stepping.{seen}
use Rattle.css_styles.proofs.DistinctLemmas.{alike-are-one}
use Rattle.css_styles.proofs.FloorLemmas.{filter-all, itself, not-itself}
use Rattle.css_styles.proofs.NumberLemmas.{bytes-itself}
use Rattle.css_styles.proofs.PropertyLemmas.{property-keys}
use Rattle.css_styles.proofs.RollingLemmas.{all_of, of_its_property}
use Rattle.css_styles.proofs.StandingLemmas.{All-unmap}

-- ---- where nothing is rolled back

-- what holds of each of these, holds of the best
module _ (P : Weighed → Type 0) where
  of-best : (found : List Contender) (best : Option Weighed) → best ≡ best_of seen found
      → All (λ c. P (seen c)) found → (w : Weighed) → best ≡ Some w → P w
  of-best found best e all w is =
      All-contains P (map seen found) w (All-map P seen found all)
      (wins itself (map seen found) w (sym e ∙ is)).found_there

-- all are left where none is rolled back
all-stay : (found : List Contender) → All (λ c. rolls_back (seen c) ≡ false) found → (w : Weighed)
    → is_left_under (best_of seen found) w ≡ true
all-stay found stay w = by (best_of seen found) refl
  where
    by : (best : Option Weighed) → best ≡ best_of seen found → is_left_under best w ≡ true
    by None e = refl
    by (Some b) e =
        all-left w b (of-best (λ v. rolls_back v ≡ false) found (Some b) e stay b refl)

once-stays : (rivals : List Contender → Contender → List Contender) (found : List Contender)
    → ((one : Contender) → All (λ c. rolls_back (seen c) ≡ false) (rivals found one))
    → left seen rivals found ≡ found
once-stays rivals found stay =
    still seen rivals found 0
    (filter-all (λ one. is_left_under (best_of seen (rivals found one)) (seen one)) found
    (All-weaker (Contains found)
    (λ one. is_left_under (best_of seen (rivals found one)) (seen one) ≡ true)
    (λ one h. all-stay (rivals found one) (stay one) (seen one)) found (All-contains_itself found)))
    (length found) (omega arith)

pub all-count-each : (found : List Contender) → All (λ c. rolls_back (seen c) ≡ false) found
    → counting_each found ≡ found
all-count-each found stay =
    once-stays of_its_property found
    (λ one. All-filter (λ c. is_property one.declaration.name c.declaration.name)
    (λ c. rolls_back (seen c) ≡ false) found stay)

pub all-count : (found : List Contender) → All (λ c. rolls_back (seen c) ≡ false) found
    → counting found ≡ found
all-count found stay = once-stays all_of found (λ one. stay)

-- ---- in the end nothing more is taken out

module _ {X : Type 0} (weight : X → Weighed) (rivals : List X → X → List X) (all : List X) where
  shorter : (p : X → Bool) (xs : List X)
      → (filter p xs ≡ xs) ⊎ (suc (length (filter p xs)) ≤ length xs)
  shorter p [] = inl refl
  shorter p (x ∷ xs) = by (p x) (shorter p xs)
    where
      by : (t : Bool) → (filter p xs ≡ xs) ⊎ (suc (length (filter p xs)) ≤ length xs)
          → (cond t (x ∷ filter p xs) (filter p xs) ≡ x ∷ xs)
          ⊎ (suc (length (cond t (x ∷ filter p xs) (filter p xs))) ≤ suc (length xs))
      by true (inl e) = inl (ap (λ ys. x ∷ ys) e)
      by true (inr l) = inr (omega (arith, l))
      by false (inl e) = let len = ap length e in inr (omega (arith, len))
      by false (inr l) = inr (omega (arith, l))

  abbrev after : ℕ → List X
  after k = left_after weight rivals k all

  counted-down : (k : ℕ) → (after (suc k) ≡ after k) ⊎ (length (after k) + k ≤ length all)
  counted-down zero = inr (omega arith)
  counted-down (suc k) =
      ⊎_elim (λ e. inl (ap (left_once weight rivals) e))
      (λ l. ⊎_elim (λ e. inl (ap (left_once weight rivals) e)) (λ less. inr (omega (arith, l, less)))
      (shorter (λ one. is_left_under (best_of weight (rivals (after k) one)) (weight one)) (after k)))
      (counted-down k)

  none-left : (xs : List X) → length xs ≤ 0 → xs ≡ []
  none-left [] l = refl
  none-left (x ∷ xs) l = absurd (omega (arith, l))

  pub left-fixed : left_once weight rivals (left weight rivals all) ≡ left weight rivals all
  left-fixed =
      ⊎_elim (λ e. e)
      (λ l.
      let none = none-left (after (length all)) (omega (arith, l)) in
      ap (left_once weight rivals) none ∙ sym none)
      (counted-down (length all))

  all-after : (P : X → Type 0) → All P all → (k : ℕ) → All P (after k)
  all-after P h zero = h
  all-after P h (suc k) =
      All-filter (λ one. is_left_under (best_of weight (rivals (after k) one)) (weight one)) P (after k)
      (all-after P h k)

  pub all-left-over : (P : X → Type 0) → All P all → All P (left weight rivals all)
  all-left-over P h = all-after P h (length all)

-- ---- what is rolled back does not win

pub contains-filter : {X : Type 0} (p : X → Bool) (xs : List X) (x : X) → Contains (filter p xs) x
    → Contains xs x
contains-filter p xs x h =
    All-contains (Contains xs) (filter p xs) x (All-filter p (Contains xs) xs (All-contains_itself xs)) h

pub tied : (a b : Weighed) → beats a b ≡ false → beats b a ≡ false → cascade_cmp a b ≡ Equal
tied a b e f = by (cascade_cmp a b) e (sym (ap is_gt (cascade_total.antisymm b a)) ∙ f)
  where
    by : (r : Ordering) → is_gt r ≡ false → is_gt (ordering_reverse r) ≡ false → r ≡ Equal
    by Less e f = absurd (cc)
    by Equal e f = refl
    by Greater e f = absurd (cc)

none-best : (found : List Contender) (one : Contender) → None ≡ best_of seen found
    → Contains found one → ⊥
none-best [] one e h = let l = h.1 in omega (arith, l)
none-best (x ∷ more) one e h = found-some itself (seen x) (map seen more) (sym e)

-- one that is left among its rivals, and that none of them beats, is not rolled back
not-rolled : (rivals : List Contender) (one : Contender) → Contains rivals one
    → All (λ other. beats (seen other) (seen one) ≡ false) rivals
    → All (λ other. cascade_cmp (seen other) (seen one) ≡ Equal → seen other ≡ seen one) rivals
    → is_left_under (best_of seen rivals) (seen one) ≡ true → rolls_back (seen one) ≡ false
not-rolled rivals one there unbeaten apart left = by (best_of seen rivals) refl left (rolls_back (seen one)) refl
  where
    -- the best, of which there is one
    by : (best : Option Weighed) → best ≡ best_of seen rivals → is_left_under best (seen one) ≡ true
        → (t : Bool) → rolls_back (seen one) ≡ t → t ≡ false
    by best e h false f = refl
    by None e h true f = absurd (none-best rivals one e there)
    by (Some b) e h true f =
        let won = wins itself (map seen rivals) b (sym e) in
        let under : beats (seen one) b ≡ false =
        All-contains (λ c. beats (seen c) b ≡ false) rivals one
        (All-unmap seen (λ w. beats w b ≡ false) rivals won.unbeaten) there in
        let over : beats b (seen one) ≡ false =
        of-best (λ w. beats w (seen one) ≡ false) rivals (Some b) e unbeaten b refl in
        let same : b ≡ seen one =
        of-best (λ w. cascade_cmp w (seen one) ≡ Equal → w ≡ seen one) rivals (Some b) e apart b refl
        (tied b (seen one) over under) in
        absurd (let no : true ≡ false =
        sym h ∙ ap (λ w. is_left (seen one) w) same ∙ not-itself (seen one) f in cc)

-- one of a list that is left in the end
left-counts : (rivals : List Contender → Contender → List Contender) (all : List Contender)
    (one : Contender) → left_once seen rivals all ≡ all → Contains all one
    → is_left_under (best_of seen (rivals all one)) (seen one) ≡ true
left-counts rivals all one fixed h =
    let counts : Contender → Bool =
    λ c. is_left_under (best_of seen (rivals all c)) (seen c) in
    All-contains (λ c. counts c ≡ true) (filter counts all) one (filter_passes counts all)
    (subst (λ cs. Contains cs one) (sym fixed) h)

-- two of these that nothing tells apart are alike
apart-from : (found : List Contender) → AreDistinct found → (all : List Contender)
    → All (Contains found) all → (one : Contender) → Contains found one
    → All (λ other. cascade_cmp (seen other) (seen one) ≡ Equal → seen other ≡ seen one) all
apart-from found distinct all there one h =
    All-weaker (Contains found)
    (λ other. cascade_cmp (seen other) (seen one) ≡ Equal → seen other ≡ seen one)
    (λ other o. alike-are-one found distinct other one o h) all there

pub none-rolled : (found : List Contender) → AreDistinct found → (one : Contender)
    → Wins seen (counting found) one → rolls_back (seen one) ≡ false
none-rolled found distinct one won =
    let all = counting found in
    let there = all-left-over seen all_of found (Contains found) (All-contains_itself found) in
    not-rolled all one won.found_there won.unbeaten
    (apart-from found distinct all there one (All-contains (Contains found) all one there won.found_there))
    (left-counts all_of all one (left-fixed seen all_of found) won.found_there)

-- ---- of several properties

pub not-true : (t : Bool) → not t ≡ true → t ≡ false
not-true true e = absurd (cc)
not-true false e = refl

pub same-property : (name : List ℕ) → is_property name name ≡ true
same-property name = property-keys name name ∙ bytes-itself (property_key name)

pub contains-kept : {X : Type 0} (p : X → Bool) (xs : List X) (x : X) → Contains xs x → p x ≡ true
    → Contains (filter p xs) x
contains-kept p [] x h e = let l = h.1 in absurd (omega (arith, l))
contains-kept p (y ∷ xs) x h e = at (λ c. contains-kept p xs x c e) h.0 h.1 h.2
  where
    by : (t : Bool) → Contains (filter p xs) x → Contains (cond t (y ∷ filter p xs) (filter p xs)) x
    by true c = let l = c.1 in (suc c.0, omega (arith, l), c.2)
    by false c = c

    at : (Contains xs x → Contains (filter p xs) x) → (k : ℕ) → k < suc (length xs)
        → get_or (y ∷ xs) k x ≡ x → Contains (cond (p y) (y ∷ filter p xs) (filter p xs)) x
    at rest zero l same =
        subst (λ t. Contains (cond t (y ∷ filter p xs) (filter p xs)) x) (sym (ap p same ∙ e))
        (0, omega arith, same)
    at rest (suc k) l same = by (p y) (rest (k, omega (arith, l), same))

or-first : (s t : Bool) → (s || t) ≡ false → s ≡ false
or-first true t e = absurd (cc)
or-first false t e = refl

or-second : (s t : Bool) → (s || t) ≡ false → t ≡ false
or-second true t e = absurd (cc)
or-second false t e = e

pub none-beats : (one : Contender) (all : List Contender) → is_beaten all one ≡ false
    → All (λ other. beats (seen other) (seen one) ≡ false) (of_its_property all one)
none-beats one [] e = All-nil (λ other. beats (seen other) (seen one) ≡ false)
none-beats one (c ∷ all) e =
    by (is_property one.declaration.name c.declaration.name) (none-beats one all) e
  where
    by : (t : Bool)
        → (is_beaten all one ≡ false
        → All (λ other. beats (seen other) (seen one) ≡ false) (of_its_property all one))
        → ((t && beats (seen c) (seen one)) || is_beaten all one) ≡ false
        → All (λ other. beats (seen other) (seen one) ≡ false)
        (cond t (c ∷ of_its_property all one) (of_its_property all one))
    by true rest e =
        All-cons (λ other. beats (seen other) (seen one) ≡ false) c (of_its_property all one)
        (or-first (beats (seen c) (seen one)) (is_beaten all one) e)
        (rest (or-second (beats (seen c) (seen one)) (is_beaten all one) e))
    by false rest e = rest e

pub none-rolled-each : (found : List Contender) → AreDistinct found
    → All (λ c. rolls_back (seen c) ≡ false) (unbeaten (counting_each found))
none-rolled-each found distinct =
    All-weaker (Contains (unbeaten all)) (λ c. rolls_back (seen c) ≡ false) each (unbeaten all)
    (All-contains_itself (unbeaten all))
  where
    all : List Contender
    all = counting_each found

    there : All (Contains found) all
    there = all-left-over seen of_its_property found (Contains found) (All-contains_itself found)

    each : (one : Contender) → Contains (unbeaten all) one → rolls_back (seen one) ≡ false
    each one h =
        let test : Contender → Bool = λ c. not (is_beaten all c) in
        let in-all = contains-filter test all one h in
        let wins-it = All-contains (λ c. test c ≡ true) (unbeaten all) one (filter_passes test all) h in
        let of-one : Contender → Bool = λ c. is_property one.declaration.name c.declaration.name in
        not-rolled (of_its_property all one) one
        (contains-kept of-one all one in-all (same-property one.declaration.name))
        (none-beats one all (not-true (is_beaten all one) wins-it))
        (All-filter of-one
        (λ other. cascade_cmp (seen other) (seen one) ≡ Equal → seen other ≡ seen one) all
        (apart-from found distinct all there one (All-contains (Contains found) all one there in-all)))
        (left-counts of_its_property all one (left-fixed seen of_its_property found) in-all)
