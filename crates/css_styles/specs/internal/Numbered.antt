-- Declarations with the numbers of their properties, and the best of each property.
use Rattle.std.specs.Prelude.{◌≡◌, ℕ, Bool, true, false, not, ◌==◌, List, [], ◌∷◌, ◌++◌, map, filter, Option, None, Some, if◌then◌else◌}
use Rattle.std.specs.List.{All, slice_get}
use Rattle.std.specs.Option.{is_some, option_map}
use Rattle.std.specs.Global.{Vec}
use Rattle.css_cascade.specs.Cascade.{Weighed, beats, winner_from}
use Rattle.css_cascade.specs.Rollbacks.{is_left}
use Rattle.css_cascade.specs.WeightViews.{weighed}
use Rattle.css_cascade.specs.declared.weights.Weight.{Weight}
use Rattle.css_sheet.specs.SheetOrder.{SheetRuleText}
use Rattle.css_styles.specs.declared.contest.Numbered.{Numbered}
use Rattle.css_styles.specs.Contenders.{Contender, in_rule, in_turn, rule_declarations}
use Rattle.css_styles.specs.Properties.{number_in, property_key}
use Rattle.css_styles.specs.Winners.{as_value}
use Rattle.css_styles.specs.internal.Stepping.{contender_of}

-- the properties with this one, which is new or not
abbrev pub with_property : List (List ℕ) → List ℕ → List (List ℕ)
with_property properties key =
    if is_some (number_in properties key) then properties else properties ++ key ∷ []

-- the first properties are some of the second, with their numbers
abbrev pub IsMore : List (List ℕ) → List (List ℕ) → Type 0
IsMore old new = (more : List (List ℕ)) × (new ≡ old ++ more)

-- the property of this name has the number
abbrev pub HasNumber : List (List ℕ) → (name : List ℕ) → ℕ → Type 0
HasNumber properties name number = number_in properties (property_key name) ≡ Some number

-- ---- contenders

abbrev pub numbered_of : Numbered → Contender
numbered_of n = contender_of n.contender

abbrev pub weight_of : Numbered → Weighed
weight_of n = weighed n.contender.weight

-- the number is that of the property
abbrev pub IsNumbered : List (List ℕ) → Numbered → Type 0
IsNumbered properties n = HasNumber properties n.contender.winner.declaration.name.now n.property

-- ---- declarations of rules

-- these are the declarations of the rule at an index, with their numbers
pub record AreStated (properties : List (List ℕ)) (index : ℕ) (rule : SheetRuleText)
    (stated : List Numbered) : Type 0 where
  pub are : map numbered_of stated ≡ in_turn (in_rule index rule) 0 (rule_declarations rule)
  pub numbered : All (IsNumbered properties) stated

-- each rule has the property of its index and of the list there
abbrev pub EachHas : (ℕ → SheetRuleText → List Numbered → Type 0) → List SheetRuleText
    → List (Vec Numbered) → Type 0
EachHas Has rules lists = (index : ℕ) (rule : SheetRuleText) → slice_get rules index ≡ Some rule
    → (list : Vec Numbered) × (slice_get lists index ≡ Some list) × Has index rule list.items

-- the declarations of each rule
abbrev pub AllStated : List (List ℕ) → List SheetRuleText → List (Vec Numbered) → Type 0
AllStated properties = EachHas (AreStated properties)

-- the best of those whose property has this number
abbrev pub best_of : ℕ → List Numbered → Option Weighed
best_of property all =
    winner_from (λ w. w) None
    (map weight_of (filter (λ (n : Numbered). n.property == property) all))

-- the best of the property is noted at its number
abbrev pub IsNoted : List Numbered → List (Option Weight) → Numbered → Type 0
IsNoted all best n =
    option_map (option_map weighed) (slice_get best n.property) ≡ Some (best_of n.property all)

-- a declaration counts still, by what is noted of its property
abbrev pub is_kept_by : Option (Option Weight) → Weighed → Bool
is_kept_by None one = true
is_kept_by (Some None) one = true
is_kept_by (Some (Some best)) one = is_left one (weighed best)

abbrev pub is_kept : List (Option Weight) → Numbered → Bool
is_kept best n = is_kept_by (slice_get best n.property) (weight_of n)

-- no other of its property beats a declaration, by what is noted of the property
abbrev pub is_best_by : Option (Option Weight) → Weighed → Bool
is_best_by None one = true
is_best_by (Some None) one = true
is_best_by (Some (Some best)) one = not (beats (weighed best) one)

-- ---- what has nothing before it

-- the one in the earliest origin and layer counts still where this one wins
abbrev pub is_reached : Option Weighed → Weighed → Bool
is_reached None winner = false
is_reached (Some first) winner = is_left first winner

-- a declaration, whose value does not roll back if nothing is before it
abbrev pub settled_by : Option Weighed → Weighed → Weighed
settled_by first one = if not (is_reached first one) then as_value one else one

-- the name of a declaration, and the number of its property
abbrev pub named_of : Numbered → List ℕ × ℕ
named_of n = (n.contender.winner.declaration.name.now, n.property)
