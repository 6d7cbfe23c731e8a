-- The order of declarations of one property on one element (CSS Cascading 5, section 6.1), and which
-- one wins.
use Rattle.std.specs.Prelude.{◌≡◌, ℕ, Bool, false, if◌then◌else◌, List, [], ◌∷◌, Option, None, Some}
use Rattle.std.specs.List.{All, Contains}
use Rattle.std.specs.declared.cmp.Ordering.{Ordering}
use Rattle.std.specs.Ordering.{is_gt, bool_cmp, nat_cmp, on, then_cmp, flip_args}
use Rattle.std.specs.Cmp.Lexicographic.{slice_cmp}
use Rattle.css_cascade.specs.declared.rollback.Rollback.{Rollback}
use Rattle.css_cascade.specs.declared.weights.Origin.{Origin}
use Rattle.css_cascade.specs.declared.weights.Origin.TheVariants.{UserAgent, User, Hint, Author}

-- Origins in order (sections 6.2 and 6.5): the program that shows the page, its reader, and its author,
-- of whom presentational hints, which are no CSS, come before what is.
abbrev pub origin_rank : Origin → ℕ
origin_rank UserAgent = 0
origin_rank User = 1
origin_rank Hint = 2
origin_rank Author = 3

-- What the cascade sees of a declaration: whether it is important; its origin; whether it is attached to
-- the element, as those of a style attribute are, and not in a rule; the rank of its layer, which of one
-- origin is the greater the later the layer is; the specificity of its rule, of which the first count that
-- differs decides; where it stands; and what its value says of the cascade.
pub record Weighed : Type 0 where
  pub important : Bool
  pub origin : Origin
  pub attached : Bool
  pub layer : ℕ
  pub specificity : List ℕ
  pub place : List ℕ
  pub rollback : Rollback

-- the rank of the origin of a declaration that is not important; all that are count alike
abbrev pub normal_origin : Weighed → ℕ
normal_origin d = if d.important then 0 else origin_rank d.origin

-- the rank of the origin of an important declaration; all that are not count alike
abbrev pub important_origin : Weighed → ℕ
important_origin d = if d.important then origin_rank d.origin else 0

-- the layer of a declaration that is not important; all that are count alike
abbrev pub normal_layer : Weighed → ℕ
normal_layer d = if d.important then 0 else d.layer

-- the layer of an important declaration; all that are not count alike
abbrev pub important_layer : Weighed → ℕ
important_layer d = if d.important then d.layer else 0

-- the one with the greater specificity is later, and else the one that stands later
abbrev pub rule_cmp : Weighed → Weighed → Ordering
rule_cmp =
    then_cmp (on (λ (d : Weighed). d.specificity) (slice_cmp nat_cmp))
    (on (λ (d : Weighed). d.place) (slice_cmp nat_cmp))

-- of those that are not important the one of the later layer is later, and of important ones the one
-- of the earlier layer is
abbrev pub layered_cmp : Weighed → Weighed → Ordering
layered_cmp =
    then_cmp (on normal_layer nat_cmp)
    (then_cmp (flip_args (on important_layer nat_cmp)) rule_cmp)

-- one that is attached to the element is after those of rules; then layers decide
abbrev pub attached_cmp : Weighed → Weighed → Ordering
attached_cmp = then_cmp (on (λ (d : Weighed). d.attached) bool_cmp) layered_cmp

-- of those that are not important the one of the later origin is later, and of important ones the one
-- of the earlier origin is; then those that are attached to the element are after those of rules
abbrev pub origin_cmp : Weighed → Weighed → Ordering
origin_cmp =
    then_cmp (on normal_origin nat_cmp)
    (then_cmp (flip_args (on important_origin nat_cmp)) attached_cmp)

-- The order of the cascade: an important declaration is after all others. Then origins decide, then those
-- that are attached to the element are after those of rules, then layers decide, then specificity, and
-- then the place.
abbrev pub cascade_cmp : Weighed → Weighed → Ordering
cascade_cmp = then_cmp (on (λ (d : Weighed). d.important) bool_cmp) origin_cmp

-- the first declaration beats the second
abbrev pub beats : Weighed → Weighed → Bool
beats a b = is_gt (cascade_cmp a b)

-- the later of two, unless the earlier beats it
abbrev pub better : {X : Type 0} → (X → Weighed) → Option X → X → X
better weight None later = later
better weight (Some earlier) later =
    if beats (weight earlier) (weight later) then earlier else later

-- The one that wins of these and of the best before them: none of them beats it. Of several that nothing
-- tells apart it is the last.
abbrev pub winner_from : {X : Type 0} → (X → Weighed) → Option X → List X → Option X
winner_from weight best [] = best
winner_from weight best (one ∷ more) =
    winner_from weight (Some (better weight best one)) more

-- It is one of these, and none of them beats it, where `weight` is what the cascade sees of one.
pub record Wins {X : Type 0} (weight : X → Weighed) (found : List X) (one : X) : Type 0 where
  pub found_there : Contains found one
  pub unbeaten : All (λ (other : X). beats (weight other) (weight one) ≡ false) found
