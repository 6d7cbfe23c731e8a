-- What is noted of properties, as their ranked declarations are gone through.
-- Serves the functions of `floors`.
use Rattle.std.proofs.Common.{◌≡◌, ℕ, suc, ◌+◌, ◌<◌, ◌≤◌, Bool, true, false, ◌==◌, cond, if◌then◌else◌, List, [], ◌∷◌, length, map, set, get_or, take, drop, Option, None, Some, refl, sym, ap, ◌∙◌, subst, arith, eqb-true, eq-eqb}
use Rattle.std.specs.Prelude.{filter, option_map}
use Rattle.std.specs.List.{All, slice_get}
use Rattle.std.proofs.lemmas.Bool.{cases_eq}
use Rattle.std.proofs.lemmas.List.{length-map, length-set, drop_more}
use Rattle.std.specs.List.Sorted.{IsPermutation}
use Rattle.std.proofs.lemmas.List.Elements.{All-cons, All-head, All-map, All-more, All-nil, All-tail, All-weaker, recursion_from_All}
use Rattle.std.proofs.lemmas.List.Sorted.{All-permutation, IsPermutation-sym, length_permutation}
use mathlib.Core.Logic.{⊎_elim}
use Rattle.css_cascade.specs.Cascade.{Weighed}
use Rattle.css_styles.specs.declared.floors.Ranked.{Ranked}
use Rattle.css_styles.specs.declared.floors.Standing.{Standing}
use Rattle.css_cascade.specs.Rollbacks.{is_left_under, left}
use Rattle.css_cascade.specs.WeightViews.{weighed}
use Rattle.css_styles.specs.declared.contenders.Contender.{Contender as ContenderCode}
use Rattle.css_styles.specs.declared.contest.Numbered.{Numbered}
use Rattle.css_styles.specs.Winners.{counting, counting_each}
use Rattle.css_styles.specs.internal.Numbered.{IsNumbered, numbered_of, weight_of}
use Rattle.css_styles.specs.internal.Stepping.{contender_of, seen}
use Rattle.css_styles.proofs.FloorLemmas.{best_under, by_property, filter-alike, filter-all, filter-map, left-mapped, left-over, ranked-weights, weights_of}
use Rattle.css_styles.proofs.RollingLemmas.{of_its_property}
use Rattle.css_styles.specs.internal.Floors.{IsComing, IsFound, Ranks, finished, floor_from, floor_of, is_over, ranked_alone, ranked_of, weight_of_ranked, weights_at}
use Rattle.css_styles.proofs.ContestLemmas.{at-index, rivals-of, set-here, set-elsewhere}

module _ (all : List Ranked) (standings : List Standing) (one : Ranked) (v : Standing)
    (within : one.property < length standings) where
  -- nothing is known of the property of this one
  forget-step : (number : ℕ) → ((ws : List Weighed) → finished v ws ≡ floor_from None ws)
      → ((number ≡ one.property → ⊥) → IsComing all standings all number)
      → IsComing all (set standings one.property v) all number
  forget-step number fresh before =
      ⊎_elim
      (λ same.
      ap (λ q. option_map (λ (s : Standing). finished s (weights_at number all))
      (slice_get (set standings one.property v) q)) same
      ∙ ap (option_map (λ (s : Standing). finished s (weights_at number all)))
      (set-here standings one.property v within)
      ∙ ap Some (fresh (weights_at number all)))
      (λ other.
      ap (option_map (λ (s : Standing). finished s (weights_at number all)))
      (set-elsewhere standings one.property number v other)
      ∙ before other)
      (cases_eq number one.property)

  -- this one is gone through
  after-step : (d : Standing) (more : List Ranked) (number : ℕ)
      → ((ws : List Weighed) → finished v ws
      ≡ finished (get_or standings one.property d) (weight_of_ranked one ∷ ws))
      → IsComing all standings (one ∷ more) number
      → IsComing all (set standings one.property v) more number
  after-step d more number after before = by (one.property == number) refl before
    where
      coming : List Weighed → Standing → Option Weighed
      coming ws s = finished s ws

      by : (t : Bool) → (one.property == number) ≡ t
          → option_map (coming (map weight_of_ranked
          (cond t (one ∷ filter (λ (r : Ranked). r.property == number) more)
          (filter (λ (r : Ranked). r.property == number) more)))) (slice_get standings number)
          ≡ Some (floor_from None (weights_at number all))
          → IsComing all (set standings one.property v) more number
      by true e h =
          let same : one.property ≡ number = eqb-true one.property number e in
          ap (λ q. option_map (coming (weights_at number more))
          (slice_get (set standings one.property v) q)) (sym same)
          ∙ ap (option_map (coming (weights_at number more))) (set-here standings one.property v within)
          ∙ ap Some (after (weights_at number more))
          ∙ sym (ap (option_map (coming (weight_of_ranked one ∷ weights_at number more)))
          (ap (slice_get standings) (sym same)
          ∙ at-index standings one.property d (get_or standings one.property d) within refl))
          ∙ h
      by false e h =
          ap (option_map (coming (weights_at number more)))
          (set-elsewhere standings one.property number v
          (λ same. let clash : true ≡ false = sym (eq-eqb one.property number (sym same)) ∙ e in cc))
          ∙ h

-- what is noted where nothing is to come
pub coming-none : (all : List Ranked) (standings : List Standing) (number : ℕ)
    → IsComing all standings [] number → IsFound all standings number
coming-none all standings number h = by (slice_get standings number) h
  where
    at : (t : Bool) (floor : Option Weighed) → (if t then floor else floor) ≡ floor
    at true floor = refl
    at false floor = refl

    by : (o : Option Standing)
        → option_map (λ (s : Standing). finished s []) o ≡ Some (floor_from None (weights_at number all))
        → option_map floor_of o ≡ Some (floor_from None (weights_at number all))
    by None e = e
    by (Some s) e = ap Some (sym (at s.is_settled (floor_of s))) ∙ e

pub open-coming : (v : Standing) → floor_of v ≡ None → v.is_settled ≡ false → (ws : List Weighed)
    → finished v ws ≡ floor_from None ws
open-coming v none unsettled ws =
    ap (λ t. if t then floor_of v else floor_from (floor_of v) ws) unsettled
    ∙ ap (λ floor. floor_from floor ws) none

pub forget-all : (all : List Ranked) (i : ℕ) (d : Ranked) (standings : List Standing) (v : Standing)
    (count : ℕ) → i < length all → (get_or all i d).property < count → length standings ≡ count
    → ((ws : List Weighed) → finished v ws ≡ floor_from None ws)
    → All (λ (r : Ranked). IsComing all standings all r.property) (take i all)
    → (length (set standings (get_or all i d).property v) ≡ count)
    × All (λ (r : Ranked). IsComing all (set standings (get_or all i d).property v) all r.property)
    (take (i + 1) all)
forget-all all i d standings v count lt within len fresh before =
    let one = get_or all i d in
    let inside : one.property < length standings = omega (arith, within, len) in
    let Comes : Ranked → Type 0 =
    λ r. IsComing all (set standings one.property v) all r.property in (
      length-set standings one.property v ∙ len,
      All-more Comes all i d lt
          (All-weaker (λ r. IsComing all standings all r.property) Comes
          (λ r h. forget-step all standings one v inside r.property fresh (λ other. h)) (take i all) before)
          (forget-step all standings one v inside one.property fresh (λ other. absurd (other refl))),
    )

pub after-all : (all : List Ranked) (i : ℕ) (d : Ranked) (standings : List Standing) (e v : Standing)
    (count : ℕ) → i < length all → (get_or all i d).property < count → length standings ≡ count
    → ((ws : List Weighed) → finished v ws
    ≡ finished (get_or standings (get_or all i d).property e) (weight_of_ranked (get_or all i d) ∷ ws))
    → All (λ (r : Ranked). IsComing all standings (drop i all) r.property) all
    → (length (set standings (get_or all i d).property v) ≡ count)
    × All (λ (r : Ranked). IsComing all (set standings (get_or all i d).property v) (drop (i + 1) all) r.property) all
after-all all i d standings e v count lt within len after before =
    let one = get_or all i d in
    let inside : one.property < length standings = omega (arith, within, len) in (
      length-set standings one.property v ∙ len,
      All-weaker (λ (r : Ranked). IsComing all standings (drop i all) r.property)
          (λ (r : Ranked). IsComing all (set standings one.property v) (drop (i + 1) all) r.property)
          (λ r h. after-step all standings one v inside e (drop (i + 1) all) r.property after
          (subst (λ (rest : List Ranked). IsComing all standings rest r.property) (drop_more all i d lt) h))
          all before,
    )

-- ---- what counts, where it is found what each property is rolled back to

map-map : {X Y Z : Type 0} (g : Y → Z) (f : X → Y) (xs : List X)
    → map g (map f xs) ≡ map (λ x. g (f x)) xs
map-map g f [] = refl
map-map g f (x ∷ xs) = ap (λ zs. g (f x) ∷ zs) (map-map g f xs)

pub All-unmap : {X Y : Type 0} (h : Y → X) (P : X → Type 0) (ys : List Y) → All P (map h ys)
    → All (λ y. P (h y)) ys
All-unmap h P [] all = All-nil (λ y. P (h y))
All-unmap h P (y ∷ ys) all =
    All-cons (λ y. P (h y)) y ys (All-head P (h y) (map h ys) all)
    (All-unmap h P ys (All-tail P (h y) (map h ys) all))

-- what holds of each holds of each that is ranked
pub ranked-all : {Y : Type 0} (ranked_of : Y → Ranked) (P : Ranked → Type 0) (all : List Y)
    (ranked : List Ranked) → IsPermutation (map ranked_of all) ranked → All (λ y. P (ranked_of y)) all
    → All P ranked
ranked-all ranked_of P all ranked moved each =
    All-permutation P (map ranked_of all) ranked moved (All-map P ranked_of all each)

filter-short : {X : Type 0} (p : X → Bool) (xs : List X) → length (filter p xs) ≤ length xs
filter-short p [] = omega arith
filter-short p (x ∷ xs) = by (p x) (filter-short p xs)
  where
    by : (t : Bool) → length (filter p xs) ≤ length xs
        → length (cond t (x ∷ filter p xs) (filter p xs)) ≤ suc (length xs)
    by true l = omega (arith, l)
    by false l = omega (arith, l)

module _ {Y : Type 0} (ranked_of : Y → Ranked) where
  abbrev pub weight_by : Y → Weighed
  weight_by y = weight_of_ranked (ranked_of y)

  abbrev pub property_by : Y → ℕ
  property_by y = (ranked_of y).property

  weights-by : (number : ℕ) (all : List Y)
      → weights_at number (map ranked_of all) ≡ weights_of weight_by property_by number all
  weights-by number all =
      ap (map weight_of_ranked) (sym (filter-map ranked_of (λ r. r.property == number) all))
      ∙ map-map weight_of_ranked ranked_of (filter (λ y. property_by y == number) all)

  -- what is left in the end is what counts by what is noted
  pub left-found : (all : List Y) (ranked : List Ranked) (standings : List Standing)
      → IsPermutation (map ranked_of all) ranked → Ranks weight_of_ranked (map ranked_of all) ranked
      → All (λ (r : Ranked). IsFound ranked standings r.property) ranked
      → left weight_by (by_property weight_by property_by) all
      ≡ filter (λ y. is_over (slice_get standings (property_by y)) (weight_by y)) all
  left-found all ranked standings moved ranks found =
      left-over weight_by property_by all (λ number. weights_at number ranked) short
      (λ number floor.
      ap (best_under floor) (sym (weights-by number all))
      ∙ ranked-weights weight_of_ranked (λ r. r.property) (map ranked_of all) ranked ranks number floor)
      ∙ sym (filter-alike (λ y. is_over (slice_get standings (property_by y)) (weight_by y))
      (λ y. is_left_under (floor_from None (weights_at (property_by y) ranked)) (weight_by y)) all
      (All-weaker (λ y. IsFound ranked standings (property_by y))
      (λ y. is_over (slice_get standings (property_by y)) (weight_by y)
      ≡ is_left_under (floor_from None (weights_at (property_by y) ranked)) (weight_by y))
      (λ y at. over (slice_get standings (property_by y)) (floor_from None (weights_at (property_by y) ranked))
      (weight_by y) at) all
      (All-unmap ranked_of (λ r. IsFound ranked standings r.property) all
      (All-permutation (λ r. IsFound ranked standings r.property) ranked (map ranked_of all)
      (IsPermutation-sym (map ranked_of all) ranked moved) found))))
    where
      short : (number : ℕ) → length (weights_at number ranked) ≤ length all
      short number =
          let kept = filter-short (λ (r : Ranked). r.property == number) ranked in
          let shown = length-map (filter (λ (r : Ranked). r.property == number) ranked) weight_of_ranked in
          let moved_len = length_permutation (map ranked_of all) ranked moved in
          let mapped = length-map all ranked_of in omega (arith, kept, shown, moved_len, mapped)

      over : (o : Option Standing) (floor : Option Weighed) (w : Weighed)
          → option_map floor_of o ≡ Some floor → is_over o w ≡ is_left_under floor w
      over None floor w e = absurd (let no : ⊥ = cc in no)
      over (Some s) floor w e =
          let same : floor_of s ≡ floor = cc in ap (λ f. is_left_under f w) same

-- those of several properties
pub counted-numbered : (properties : List (List ℕ)) (all : List Numbered) (ranked : List Ranked)
    (standings : List Standing) → All (IsNumbered properties) all
    → IsPermutation (map ranked_of all) ranked → Ranks weight_of_ranked (map ranked_of all) ranked
    → All (λ (r : Ranked). IsFound ranked standings r.property) ranked
    → map numbered_of (filter (λ n. is_over (slice_get standings n.property) (weight_of n)) all)
    ≡ counting_each (map numbered_of all)
counted-numbered properties all ranked standings numbered moved ranks found =
    ap (map numbered_of) (sym (left-found ranked_of all ranked standings moved ranks found))
    ∙ left-mapped seen numbered_of of_its_property (by_property weight_of (λ n. n.property))
    (IsNumbered properties)
    (λ ns one of-ns of-one. rivals-of properties one of-one ns
    (recursion_from_All (IsNumbered properties) ns of-ns)) all numbered

-- those of one
pub counted-alone : (all : List ContenderCode) (ranked : List Ranked) (standings : List Standing)
    (s : Standing) → slice_get standings 0 ≡ Some s
    → IsPermutation (map ranked_alone all) ranked
    → Ranks weight_of_ranked (map ranked_alone all) ranked
    → All (λ (r : Ranked). IsFound ranked standings r.property) ranked
    → map contender_of (filter (λ one. is_left_under (floor_of s) (weighed one.weight)) all)
    ≡ counting (map contender_of all)
counted-alone all ranked standings s at moved ranks found =
    ap (λ o. map contender_of (filter (λ (one : ContenderCode). is_over o (weighed one.weight)) all)) (sym at)
    ∙ ap (map contender_of) (sym (left-found ranked_alone all ranked standings moved ranks found))
    ∙ left-mapped seen contender_of (λ cs one. cs)
    (by_property (λ (c : ContenderCode). weighed c.weight) (λ c. 0)) (λ c. Unit {0})
    (λ cs one of-cs of-one.
    map-map seen contender_of cs
    ∙ ap (map (λ c. seen (contender_of c))) (sym (filter-all (λ c. true) cs (λ k d l. refl))))
    all (λ k d l. tt)
