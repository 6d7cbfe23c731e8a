-- Worked lists of what is applied to an element, computed with the definitions. A browser computes the same
-- values of these lists in the place of the rules, if an element has no other rules.
use Rattle.std.specs.Prelude.{◌≡◌, refl, ℕ, Bool, true, false, List, [], ◌∷◌, codes, map}
use Rattle.css_cascade.specs.declared.rollback.Rollback.{Rollback}
use Rattle.css_cascade.specs.declared.rollback.Rollback.TheVariants.{Nowhere, ToLayer, ToOrigin}
use Rattle.css_cascade.specs.declared.weights.Origin.{Origin}
use Rattle.css_cascade.specs.declared.weights.Origin.TheVariants.{Author, User}
use Rattle.css_styles.specs.Contenders.{Contender}
use Rattle.css_styles.specs.Winners.{applied}
use Rattle.css_styles.specs.declared.winner.Source.TheVariants as sources

-- the declaration of the rule at a place, which has no other, whose layer has this rank
abbrev stated : Origin → Bool → (layer place : ℕ) → (name : List ℕ) → Rollback → Contender
stated origin important layer place name rollback = record {
  weight = record {
    important = important;
    origin = origin;
    attached = false;
    layer = layer;
    specificity = 0 ∷ 0 ∷ 1 ∷ [];
    place = place ∷ 0 ∷ [];
    rollback = rollback;
  };
  declaration = record { name = name; value = []; important = important; closed = true };
  source = sources.Rule place;
  place = 0;
}

-- of the author, in no layer
abbrev plain : (place : ℕ) → (name : List ℕ) → Rollback → Contender
plain = stated Author false 9

-- the places of the rules of what is applied
abbrev places : List Contender → List (List ℕ)
places all = map (λ (one : Contender). one.weight.place) (applied all)

pub reverted :
    -- `h1{margin:0} h1{margin-top:revert}`: both, in this order
    (places (plain 0 (codes "margin") Nowhere ∷ plain 1 (codes "margin-top") ToOrigin ∷ [])
    ≡ (0 ∷ 0 ∷ []) ∷ (1 ∷ 0 ∷ []) ∷ [])
    -- `h1{margin-top:0} h1{margin:revert}`
    × (places (plain 0 (codes "margin-top") Nowhere ∷ plain 1 (codes "margin") ToOrigin ∷ [])
    ≡ (0 ∷ 0 ∷ []) ∷ (1 ∷ 0 ∷ []) ∷ [])
    -- `h1{margin-top:0;color:red} h1{all:revert}`
    × (places (plain 0 (codes "margin-top") Nowhere ∷ plain 1 (codes "color") Nowhere
    ∷ plain 2 (codes "all") ToOrigin ∷ [])
    ≡ (0 ∷ 0 ∷ []) ∷ (1 ∷ 0 ∷ []) ∷ (2 ∷ 0 ∷ []) ∷ [])
    -- what is in an earlier layer wins in its stead
    × (places (stated Author false 4 0 (codes "color") Nowhere ∷ plain 1 (codes "color") ToLayer ∷ [])
    ≡ (0 ∷ 0 ∷ []) ∷ [])
    -- and what is of an earlier origin
    × (places (stated User false 9 0 (codes "color") Nowhere ∷ plain 1 (codes "color") ToOrigin ∷ [])
    ≡ (0 ∷ 0 ∷ []) ∷ [])
    -- of another property, too: then none wins
    × (places (stated User false 9 0 (codes "margin") Nowhere ∷ plain 1 (codes "color") ToOrigin ∷ [])
    ≡ (0 ∷ 0 ∷ []) ∷ [])
reverted = (refl, refl, refl, refl, refl, refl)

pub ordered :
    -- `@layer a{b{margin-top:3px!important}} b{margin:0!important}`: the earlier layer comes last
    (places (stated Author true 4 0 (codes "margin-top") Nowhere
    ∷ stated Author true 9 1 (codes "margin") Nowhere ∷ [])
    ≡ (1 ∷ 0 ∷ []) ∷ (0 ∷ 0 ∷ []) ∷ [])
    -- `b{margin-top:3px!important} b{margin:0}`: what is important comes last
    × (places (stated Author true 9 0 (codes "margin-top") Nowhere ∷ plain 1 (codes "margin") Nowhere ∷ [])
    ≡ (1 ∷ 0 ∷ []) ∷ (0 ∷ 0 ∷ []) ∷ [])
ordered = (refl, refl)
