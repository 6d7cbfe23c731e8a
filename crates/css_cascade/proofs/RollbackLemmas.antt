-- What is left as declarations are rolled back.
-- Serves the functions of css_styles that decide.
use Rattle.std.proofs.Common.{◌≡◌, ℕ, zero, suc, ◌+◌, ◌-◌, ◌≤◌, Bool, true, false, ◌||◌, ◌==◌, if◌then◌else◌, List, [], ◌∷◌, Option, None, Some, map, option_map, refl, sym, ap, ◌∙◌, arith}
use Rattle.std.specs.Ordering.{is_lt, nat_cmp}
use Rattle.css_cascade.specs.Cascade.{Weighed, beats, better, winner_from}
use Rattle.css_cascade.specs.Rollbacks.{is_left, is_left_by, left_after, left_once, revert_rank, rolls_back, rolls_back_by}
use Rattle.css_cascade.specs.declared.rollback.Rollback.{Rollback}
use Rattle.css_cascade.specs.declared.rollback.Rollback.TheVariants.{Nowhere, ToLayer, ToOrigin}
use Rattle.css_cascade.specs.declared.weights.Origin.{Origin}
use Rattle.css_cascade.specs.declared.weights.Origin.TheVariants.{UserAgent, User, Hint, Author}

-- all count where what wins is not rolled back
pub all-left : (one winner : Weighed) → rolls_back winner ≡ false → is_left one winner ≡ true
all-left one winner e = by winner.rollback e
  where
    at : (o : Origin) → is_lt (nat_cmp 0 (revert_rank o)) ≡ false
        → (revert_rank o == 0 || is_lt (nat_cmp (revert_rank one.origin) (revert_rank o))) ≡ true
    at UserAgent e = refl
    at User e = absurd (cc)
    at Hint e = absurd (cc)
    at Author e = absurd (cc)

    by : (r : Rollback) → rolls_back_by r winner ≡ false → is_left_by r one winner ≡ true
    by Nowhere e = refl
    by ToLayer e = absurd (cc)
    by ToOrigin e = at winner.origin e

later : ℕ → ℕ → ℕ
later times zero = times
later times (suc more) = suc (later times more)

later-sum : (times more : ℕ) → later times more ≡ times + more
unfolding later
later-sum times zero = omega arith
later-sum times (suc more) = let h = later-sum times more in omega (arith, h)

module _ {X : Type 0} (weight : X → Weighed) where
  better-mapped : (best : Option X) (x : X)
      → weight (better weight best x) ≡ better (λ w. w) (option_map weight best) (weight x)
  better-mapped None x = refl
  better-mapped (Some a) x = by (beats (weight a) (weight x))
    where
      by : (t : Bool) → weight (if t then a else x) ≡ (if t then weight a else weight x)
      by true = refl
      by false = refl

  -- the weight of the one that wins
  pub winner-mapped : (best : Option X) (found : List X)
      → option_map weight (winner_from weight best found)
      ≡ winner_from (λ w. w) (option_map weight best) (map weight found)
  winner-mapped best [] = refl
  winner-mapped best (x ∷ more) =
      winner-mapped (Some (better weight best x)) more
      ∙ ap (λ (w : Weighed). winner_from (λ w. w) (Some w) (map weight more)) (better-mapped best x)

  module _ (rivals : List X → X → List X) (all : List X) (times : ℕ)
      (fixed : left_once weight rivals (left_after weight rivals times all)
      ≡ left_after weight rivals times all) where
    still-later : (more : ℕ)
        → left_after weight rivals (later times more) all ≡ left_after weight rivals times all
    unfolding later
    still-later zero = refl
    still-later (suc more) = ap (left_once weight rivals) (still-later more) ∙ fixed

    -- where nothing was taken out, nothing ever is
    pub still : (n : ℕ) → times ≤ n
        → left_after weight rivals n all ≡ left_after weight rivals times all
    still n l =
        let sum = later-sum times (n - times) in
        let same : n ≡ later times (n - times) = omega (arith, l, sum) in
        ap (λ (k : ℕ). left_after weight rivals k all) same ∙ still-later (n - times)
