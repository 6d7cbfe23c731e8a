-- What the declarations of each property are rolled back to, as they are gone through from the best on.
use Rattle.std.specs.Prelude.{◌≡◌, ℕ, Bool, true, ◌==◌, if◌then◌else◌, List, [], ◌∷◌, map, filter, Option, None, Some}
use Rattle.std.specs.List.{slice_get}
use Rattle.std.specs.Option.{option_map}
use Rattle.css_cascade.specs.Cascade.{Weighed, winner_from}
use Rattle.css_cascade.specs.Rollbacks.{is_left_under, rolls_back}
use Rattle.css_cascade.specs.WeightViews.{weighed}
use Rattle.css_styles.specs.declared.contenders.Contender.{Contender as ContenderCode}
use Rattle.css_styles.specs.declared.contest.Numbered.{Numbered}
use Rattle.css_styles.specs.declared.floors.Ranked.{Ranked}
use Rattle.css_styles.specs.declared.floors.Standing.{Standing}

-- the first of these, if there is one
abbrev pub first_of : {X : Type 0} → List X → Option X
first_of [] = None
first_of (x ∷ xs) = Some x

-- of those of the first that pass a test, the one that wins is the first of the second that passes it
abbrev pub Ranks : {X : Type 0} → (X → Weighed) → (all ranked : List X) → Type 0
Ranks {X} weight all ranked =
    (test : X → Bool) → winner_from weight None (filter test all) ≡ first_of (filter test ranked)

-- Where declarations of one property are ranked, the last of those that win and are rolled back, after
-- what is rolled back to before them.
abbrev pub floor_from : Option Weighed → List Weighed → Option Weighed
floor_from floor [] = floor
floor_from floor (one ∷ more) =
    if is_left_under floor one then (if rolls_back one then floor_from (Some one) more else floor)
    else floor_from floor more

-- ---- what is noted of a property

-- what the cascade sees of a ranked declaration
abbrev pub weight_of_ranked : Ranked → Weighed
weight_of_ranked r = weighed r.weight

-- what the cascade sees of those with this number
abbrev pub weights_at : ℕ → List Ranked → List Weighed
weights_at number ranked =
    map weight_of_ranked (filter (λ (r : Ranked). r.property == number) ranked)

-- what is rolled back to
abbrev pub floor_of : Standing → Option Weighed
floor_of s = option_map weighed s.floor

-- what is rolled back to in the end, where these are to come
abbrev pub finished : Standing → List Weighed → Option Weighed
finished s more = if s.is_settled then floor_of s else floor_from (floor_of s) more

-- what is rolled back to is noted at the number
abbrev pub IsFound : List Ranked → List Standing → ℕ → Type 0
IsFound ranked standings number =
    option_map floor_of (slice_get standings number) ≡ Some (floor_from None (weights_at number ranked))

-- the same in the end, where these are to come
abbrev pub IsComing : (all : List Ranked) → List Standing → (more : List Ranked) → ℕ → Type 0
IsComing all standings more number =
    option_map (λ (s : Standing). finished s (weights_at number more)) (slice_get standings number)
    ≡ Some (floor_from None (weights_at number all))

-- a declaration counts still, by what is noted of its property
abbrev pub is_over : Option Standing → Weighed → Bool
is_over None one = true
is_over (Some s) one = is_left_under (floor_of s) one

-- ---- what is ranked

abbrev pub ranked_of : Numbered → Ranked
ranked_of n = record { property = n.property; weight = n.contender.weight }

-- of declarations of one property
abbrev pub ranked_alone : ContenderCode → Ranked
ranked_alone c = record { property = 0; weight = c.weight }
