-- The best of each property, and what it beats.
-- Serves the functions of `contest`.
use Rattle.std.proofs.Common.{◌≡◌, ℕ, zero, suc, ◌<◌, Bool, true, false, not, ◌&&◌, ◌||◌, ◌==◌, cond, List, [], ◌∷◌, ◌++◌, length, map, set, get_or, Option, None, Some, refl, sym, ap, ◌∙◌, subst, arith, eqb-true, eq-eqb}
use Rattle.std.specs.Prelude.{bytes_eq, filter, option_map}
use Rattle.std.specs.List.{All, AllByRecursion, list_any, slice_get}
use Rattle.std.proofs.lemmas.List.{length-set, map-append}
use Rattle.std.proofs.lemmas.List.Elements.{filter-append, recursion_from_All}
use Rattle.css_cascade.specs.Cascade.{beats}
use Rattle.css_cascade.specs.WeightViews.{weighed}
use Rattle.css_cascade.specs.declared.weights.Weight.{Weight}
use Rattle.css_cascade.specs.Cascade.{better, winner_from}
use Rattle.css_cascade.proofs.WinnerLemmas.{winner-append}
use Rattle.css_styles.specs.declared.contest.Numbered.{Numbered}
use Rattle.css_styles.specs.Contenders.{Contender, is_property, of_property}
use Rattle.css_styles.specs.Properties.{number_in, property_key}
use Rattle.css_styles.specs.Winners.{is_beaten}
use Rattle.css_styles.specs.internal.Numbered.{IsNumbered, IsNoted, best_of, is_kept, is_kept_by, numbered_of, weight_of}
use Rattle.css_styles.specs.internal.Stepping.{seen}
use Rattle.css_cascade.specs.Rollbacks.{is_left_under, best_of as best_seen}
use Rattle.css_styles.proofs.BestLemmas.{any-beats, best_beats, itself}
use Rattle.css_styles.proofs.NumberLemmas.{bytes-same, bytes-itself, number-once}
use Rattle.css_styles.proofs.PropertyLemmas.{property-keys}

-- ---- what is set

pub set-here : {X : Type 0} (xs : List X) (p : ℕ) (v : X) → p < length xs
    → slice_get (set xs p v) p ≡ Some v
set-here [] p v l = absurd (omega (arith, l))
set-here (x ∷ xs) zero v l = refl
set-here (x ∷ xs) (suc p) v l = set-here xs p v (omega (arith, l))

pub set-elsewhere : {X : Type 0} (xs : List X) (p q : ℕ) (v : X) → (q ≡ p → ⊥)
    → slice_get (set xs p v) q ≡ slice_get xs q
set-elsewhere [] p q v apart = refl
set-elsewhere (x ∷ xs) zero zero v apart = absurd (apart refl)
set-elsewhere (x ∷ xs) zero (suc q) v apart = refl
set-elsewhere (x ∷ xs) (suc p) zero v apart = refl
set-elsewhere (x ∷ xs) (suc p) (suc q) v apart =
    set-elsewhere xs p q v (λ same. apart (ap suc same))

-- ---- the best so far

some-same : {X : Type 0} {x y : X} → Some x ≡ Some y → x ≡ y
some-same e = cc

step : (t : Bool) (q : ℕ) (xs : List Numbered) (d : Numbered) → (d.property == q) ≡ t
    → best_of q (xs ++ d ∷ [])
    ≡ cond t (Some (better itself (best_of q xs) (weight_of d))) (best_of q xs)
step t q xs d e =
    let test : Numbered → Bool = λ n. n.property == q in
    let one : filter test (d ∷ []) ≡ cond t (d ∷ []) [] = ap (λ b. cond b (d ∷ []) []) e in
    ap (λ ns. winner_from itself None (map weight_of ns))
    (filter-append test xs (d ∷ []) ∙ ap (λ ns. filter test xs ++ ns) one)
    ∙ by t xs q d
  where
    by : (t : Bool) (xs : List Numbered) (q : ℕ) (d : Numbered)
        → winner_from itself None
        (map weight_of (filter (λ (n : Numbered). n.property == q) xs ++ cond t (d ∷ []) []))
        ≡ cond t (Some (better itself (best_of q xs) (weight_of d))) (best_of q xs)
    by true xs q d =
        let kept = filter (λ (n : Numbered). n.property == q) xs in
        ap (winner_from itself None) (map-append weight_of kept (d ∷ []))
        ∙ winner-append itself None (map weight_of kept) (weight_of d ∷ [])
    by false xs q d =
        let kept = filter (λ (n : Numbered). n.property == q) xs in
        ap (winner_from itself None) (map-append weight_of kept [])
        ∙ winner-append itself None (map weight_of kept) []

pub note-step : (xs : List Numbered) (d n : Numbered) (best : List (Option Weight)) (v : Weight)
    → d.property < length best
    → weighed v ≡ better itself (best_of d.property xs) (weight_of d) → IsNoted xs best n
    → IsNoted (xs ++ d ∷ []) (set best d.property (Some v)) n
note-step xs d n best v within later noted = by (n.property == d.property) refl
  where
    by : (t : Bool) → (n.property == d.property) ≡ t
        → IsNoted (xs ++ d ∷ []) (set best d.property (Some v)) n
    by true e =
        let same : n.property ≡ d.property = eqb-true n.property d.property e in
        let turned : (d.property == n.property) ≡ true = eq-eqb d.property n.property (sym same) in
        ap (λ q. option_map (option_map weighed) (slice_get (set best d.property (Some v)) q)) same
        ∙ ap (option_map (option_map weighed)) (set-here best d.property (Some v) within)
        ∙ ap (λ w. Some (Some w)) (later ∙ ap (λ q. better itself (best_of q xs) (weight_of d)) (sym same))
        ∙ sym (ap Some (step true n.property xs d turned))
    by false e =
        let turned : (d.property == n.property) ≡ false = other (d.property == n.property) refl e in
        ap (option_map (option_map weighed)) (set-elsewhere best d.property n.property (Some v)
        (λ same. let clash : true ≡ false = sym (eq-eqb n.property d.property same) ∙ e in cc))
        ∙ noted ∙ sym (ap Some (step false n.property xs d turned))
      where
        other : (s : Bool) → (d.property == n.property) ≡ s → (n.property == d.property) ≡ false
            → (d.property == n.property) ≡ false
        other true f g =
            let same = eqb-true d.property n.property f in
            absurd (let clash : true ≡ false =
            sym (eq-eqb n.property d.property (sym same)) ∙ g in cc)
        other false f g = f

-- ---- what is beaten

module _ (properties : List (List ℕ)) (one : Numbered) (of-one : IsNumbered properties one) where
  abbrev name : Numbered → List ℕ
  name n = n.contender.winner.declaration.name.now

  -- the number tells whether the property is the same
  same-number : (n : Numbered) → IsNumbered properties n
      → is_property (name one) (name n) ≡ (n.property == one.property)
  same-number n of-n =
      property-keys (name one) (name n)
      ∙ by (bytes_eq (property_key (name one)) (property_key (name n))) refl
    where
      by : (t : Bool) → bytes_eq (property_key (name one)) (property_key (name n)) ≡ t
          → t ≡ (n.property == one.property)
      by true e =
          let same : Some n.property ≡ Some one.property =
          sym of-n ∙ sym (ap (number_in properties) (bytes-same _ _ e)) ∙ of-one in
          sym (eq-eqb n.property one.property (some-same same))
      by false e = other (n.property == one.property) refl
        where
          other : (s : Bool) → (n.property == one.property) ≡ s → false ≡ (n.property == one.property)
          other true f =
              let number = eqb-true n.property one.property f in
              let same : property_key (name one) ≡ property_key (name n) =
              number-once properties (property_key (name one)) (property_key (name n)) one.property
              of-one (of-n ∙ ap Some number) in
              absurd (let clash : true ≡ false =
              sym (ap (bytes_eq (property_key (name one))) (sym same) ∙ bytes-itself (property_key (name one)))
              ∙ e in cc)
          other false f = sym f

  abbrev against : Contender → Bool
  against other =
      is_property (name one) other.declaration.name && beats other.weight (weight_of one)

  beaten-by : (all : List Numbered) → AllByRecursion (IsNumbered properties) all
      → list_any (λ (other : Contender).
      is_property one.contender.winner.declaration.name.now other.declaration.name
      && beats other.weight (weight_of one)) (map numbered_of all)
      ≡ list_any (λ v. beats v (weight_of one))
      (map weight_of (filter (λ (n : Numbered). n.property == one.property) all))
  beaten-by [] numbered = refl
  beaten-by (n ∷ all) numbered =
      by (n.property == one.property) (same-number n numbered.0) (beaten-by all numbered.1)
    where
      by : (t : Bool)
          → is_property (name one) (name n) ≡ t
          → list_any (λ (other : Contender).
          is_property one.contender.winner.declaration.name.now other.declaration.name
          && beats other.weight (weight_of one)) (map numbered_of all)
          ≡ list_any (λ v. beats v (weight_of one))
          (map weight_of (filter (λ (n : Numbered). n.property == one.property) all))
          → list_any (λ (other : Contender).
          is_property one.contender.winner.declaration.name.now other.declaration.name
          && beats other.weight (weight_of one)) (map numbered_of (n ∷ all))
          ≡ list_any (λ v. beats v (weight_of one))
          (map weight_of (cond t (n ∷ filter (λ (n : Numbered). n.property == one.property) all)
          (filter (λ (n : Numbered). n.property == one.property) all)))
      by true e rest =
          ap (λ s. (s && beats (weight_of n) (weight_of one))
          || list_any (λ (other : Contender).
          is_property one.contender.winner.declaration.name.now other.declaration.name
          && beats other.weight (weight_of one)) (map numbered_of all)) e
          ∙ ap (λ s. beats (weight_of n) (weight_of one) || s) rest
      by false e rest =
          ap (λ s. (s && beats (weight_of n) (weight_of one))
          || list_any (λ (other : Contender).
          is_property one.contender.winner.declaration.name.now other.declaration.name
          && beats other.weight (weight_of one)) (map numbered_of all)) e
          ∙ rest

  pub beaten-best : (all : List Numbered) → All (IsNumbered properties) all
      → is_beaten (map numbered_of all) (numbered_of one)
      ≡ best_beats (best_of one.property all) (weight_of one)
  beaten-best all numbered =
      beaten-by all (recursion_from_All (IsNumbered properties) all numbered)
      ∙ any-beats (weight_of one)
      (map weight_of (filter (λ (n : Numbered). n.property == one.property) all))

  -- those of its property are those with its number
  pub rivals-of : (all : List Numbered) → AllByRecursion (IsNumbered properties) all
      → map seen (of_property (name one) (map numbered_of all))
      ≡ map weight_of (filter (λ (n : Numbered). n.property == one.property) all)
  rivals-of [] numbered = refl
  rivals-of (n ∷ all) numbered =
      by (n.property == one.property) (same-number n numbered.0) (rivals-of all numbered.1)
    where
      by : (t : Bool) → is_property (name one) (name n) ≡ t
          → map seen (of_property (name one) (map numbered_of all))
          ≡ map weight_of (filter (λ (n : Numbered). n.property == one.property) all)
          → map seen (of_property (name one) (map numbered_of (n ∷ all)))
          ≡ map weight_of (cond t (n ∷ filter (λ (n : Numbered). n.property == one.property) all)
          (filter (λ (n : Numbered). n.property == one.property) all))
      by true e rest =
          ap (λ s. map seen (cond s (numbered_of n ∷ of_property (name one) (map numbered_of all))
          (of_property (name one) (map numbered_of all)))) e
          ∙ ap (λ ws. weight_of n ∷ ws) rest
      by false e rest =
          ap (λ s. map seen (cond s (numbered_of n ∷ of_property (name one) (map numbered_of all))
          (of_property (name one) (map numbered_of all)))) e
          ∙ rest

  -- what is noted tells whether it counts still
  pub kept-noted : (all : List Numbered) (best : List (Option Weight))
      → All (IsNumbered properties) all → IsNoted all best one
      → is_kept best one
      ≡ is_left_under (best_seen seen (of_property (name one) (map numbered_of all))) (weight_of one)
  kept-noted all best numbered = by (slice_get best one.property)
    where
      same : best_seen seen (of_property (name one) (map numbered_of all)) ≡ best_of one.property all
      same =
          ap (winner_from itself None)
          (rivals-of all (recursion_from_All (IsNumbered properties) all numbered))

      by : (o : Option (Option Weight))
          → option_map (option_map weighed) o ≡ Some (best_of one.property all)
          → is_kept_by o (weight_of one)
          ≡ is_left_under (best_seen seen (of_property (name one) (map numbered_of all))) (weight_of one)
      by None e = absurd (cc)
      by (Some None) e = ap (λ b. is_left_under b (weight_of one)) (some-same e ∙ sym same)
      by (Some (Some w)) e = ap (λ b. is_left_under b (weight_of one)) (some-same e ∙ sym same)

  pub noted-some : (all : List Numbered) (best : List (Option Weight)) (w : Weight)
      → All (IsNumbered properties) all → IsNoted all best one
      → slice_get best one.property ≡ Some (Some w)
      → not (beats (weighed w) (weight_of one))
      ≡ not (is_beaten (map numbered_of all) (numbered_of one))
  noted-some all best w numbered noted at =
      let found : Some (weighed w) ≡ best_of one.property all =
      some-same (sym (ap (option_map (option_map weighed)) at) ∙ noted) in
      ap (λ b. not (best_beats b (weight_of one))) found ∙ sym (ap not (beaten-best all numbered))

  pub noted-none : (all : List Numbered) (best : List (Option Weight))
      → All (IsNumbered properties) all → IsNoted all best one
      → slice_get best one.property ≡ Some None
      → true ≡ not (is_beaten (map numbered_of all) (numbered_of one))
  noted-none all best numbered noted at =
      let found : None ≡ best_of one.property all =
      some-same (sym (ap (option_map (option_map weighed)) at) ∙ noted) in
      ap (λ b. not (best_beats b (weight_of one))) found ∙ sym (ap not (beaten-best all numbered))

-- ---- places in lists

pub at-index : {X : Type 0} (xs : List X) (k : ℕ) (d x : X) → k < length xs → get_or xs k d ≡ x
    → slice_get xs k ≡ Some x
at-index [] k d x l e = absurd (omega (arith, l))
at-index (y ∷ xs) zero d x l e = ap Some e
at-index (y ∷ xs) (suc k) d x l e = at-index xs k d x (omega (arith, l)) e

pub All-each : {X : Type 0} (P Q : X → Type 0) → ((x : X) → P x → Q x) → (xs : List X) → All P xs
    → All Q xs
All-each P Q h xs all = λ k d l. h (get_or xs k d) (all k d l)

-- what is noted is the best so far
pub so-far : (xs : List Numbered) (best : List (Option Weight)) (d : Option Weight) (one : Numbered)
    → IsNoted xs best one → one.property < length best
    → better itself (option_map weighed (get_or best one.property d)) (weight_of one)
    ≡ better itself (best_of one.property xs) (weight_of one)
so-far xs best d one noted within =
    let at : slice_get best one.property ≡ Some (get_or best one.property d) =
    at-index best one.property d (get_or best one.property d) within refl in
    let same : option_map weighed (get_or best one.property d) ≡ best_of one.property xs =
    some-same (sym (ap (option_map (option_map weighed)) at) ∙ noted) in
    ap (λ b. better itself b (weight_of one)) same

pub note-all : (all xs next : List Numbered) (one : Numbered) (best : List (Option Weight))
    (d : Option Weight) (v : Weight) (count : ℕ) → one.property < count → length best ≡ count
    → weighed v ≡ better itself (option_map weighed (get_or best one.property d)) (weight_of one)
    → IsNoted xs best one → All (IsNoted xs best) all → next ≡ xs ++ one ∷ []
    → (length (set best one.property (Some v)) ≡ count)
    × All (IsNoted next (set best one.property (Some v))) all
note-all all xs next one best d v count within len later noted before more =
    let inside : one.property < length best = omega (arith, within, len) in (
      length-set best one.property (Some v) ∙ len,
      λ k e l. subst (λ (ns : List Numbered).
          IsNoted ns (set best one.property (Some v)) (get_or all k e)) (sym more)
          (note-step xs one (get_or all k e) best v inside
          (later ∙ so-far xs best d one noted inside) (before k e l)),
    )
