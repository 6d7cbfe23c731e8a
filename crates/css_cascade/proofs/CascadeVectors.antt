-- Worked layers and declarations, computed with the definitions. The names say which text is meant; a
-- browser gives the same answers to these texts.
use Rattle.std.specs.Prelude.{◌≡◌, refl, ℕ, List, [], ◌∷◌, codes, map, Bool, true, false, None, Some}
use Rattle.css_text.specs.Reading.{each}
use Rattle.css_syntax.specs.Escapes.{decoded_part, unescaped_in}
use Rattle.css_syntax.specs.Tokens.{gap_part, name_part as name_byte, past_comment, past_escape}
use Rattle.css_cascade.specs.Layers.{LayerPart, LayerText, named, anonymous, outermost_layers, outermost_number, with_layer, number_of, place_of}
use Rattle.css_cascade.specs.LayerNames.{block_name, dotted_part, further_name, layer_name, layer_names, name_part}
use Rattle.css_cascade.specs.Cascade.{Weighed, beats}
use Rattle.css_cascade.specs.declared.rollback.Rollback.TheVariants.{Nowhere, ToLayer, ToOrigin}
use Rattle.css_cascade.specs.declared.rollback.Rollback.{Rollback}
use Rattle.css_cascade.specs.Rollbacks.{left}
use Rattle.css_cascade.specs.declared.weights.Origin.{Origin}
use Rattle.css_cascade.specs.declared.weights.Origin.TheVariants.{UserAgent, User, Hint, Author}

abbrev a : LayerPart
a = named (codes "a")

abbrev b : LayerPart
b = named (codes "b")

abbrev x : LayerPart
x = named (codes "x")

abbrev y : LayerPart
y = named (codes "y")

-- the names of lists: comments are no tokens, but no white space is around a dot
pub names_read :
    (layer_names (codes "a/**/.b") ≡ Some ((a ∷ b ∷ []) ∷ []))
    × (layer_names (codes "a./**/b") ≡ Some ((a ∷ b ∷ []) ∷ []))
    × (layer_names (codes "a/**//**/./**/b/**/") ≡ Some ((a ∷ b ∷ []) ∷ []))
    × (layer_names (codes "x.b/**/, x/**/.a") ≡ Some ((x ∷ b ∷ []) ∷ (x ∷ a ∷ []) ∷ []))
    × (layer_names (codes "a /**/.b") ≡ None)
    × (layer_names (codes "a/**/ .b") ≡ None)
    × (layer_names (codes "a/**/. b") ≡ None)
    × (layer_names (codes "a/**/b") ≡ None)
    × (block_name (codes "a/**/.b") (0 ∷ 0 ∷ []) ≡ Some (a ∷ b ∷ []))
unfolding each past_escape past_comment name_byte gap_part decoded_part unescaped_in dotted_part further_name
    layer_name layer_names name_part block_name lib.Utf8.encode
names_read = (refl, refl, refl, refl, refl, refl, refl, refl, refl)

-- `@layer a.x; @layer b; @layer a.y {..}`: the layers in `a` before what is in `a` itself, then `b`, then
-- what is in no layer
abbrev two : List LayerText
two = with_layer (with_layer outermost_layers 0 a) 4 x

abbrev four : List LayerText
four = with_layer (with_layer two 0 b) 4 y

pub siblings :
    (map (λ (one : LayerText). one.number) four ≡ 5 ∷ 7 ∷ 4 ∷ 6 ∷ 0 ∷ 1 ∷ 2 ∷ 3 ∷ [])
    × (number_of 4 y four ≡ 7)
    × (number_of 0 y four ≡ 0)
    × (place_of 7 four ≡ 1)
    × (place_of 0 four ≡ 4)
    × (with_layer four 4 x ≡ four)
siblings = (refl, refl, refl, refl, refl, refl)

-- `@layer {} @layer {}`: each layer without a name is a new one
pub anonymous_ones :
    map (λ (one : LayerText). one.number)
    (with_layer (with_layer outermost_layers 0 (anonymous (0 ∷ 0 ∷ []))) 0 (anonymous (0 ∷ 10 ∷ [])))
    ≡ 4 ∷ 5 ∷ 0 ∷ 1 ∷ 2 ∷ 3 ∷ []
anonymous_ones = refl

-- `@layer a, b;` of the user agent and `@layer b, a;` of the author: each origin has its own layers, in its
-- own order
abbrev of_origins : List LayerText
of_origins =
    let theirs = with_layer (with_layer outermost_layers (outermost_number UserAgent) a) (outermost_number UserAgent) b in
    with_layer (with_layer theirs (outermost_number Author) b) (outermost_number Author) a

pub apart :
    (map (λ (one : LayerText). one.number) of_origins ≡ 6 ∷ 7 ∷ 0 ∷ 1 ∷ 2 ∷ 4 ∷ 5 ∷ 3 ∷ [])
    × (number_of (outermost_number UserAgent) a of_origins ≡ 4)
    × (number_of (outermost_number Author) a of_origins ≡ 7)
apart = (refl, refl, refl)

-- a declaration of a rule `p` in the layer with this number
abbrev plain : Bool → (number : ℕ) → ℕ → Weighed
plain important number place = record {
  important = important;
  origin = Author;
  attached = false;
  layer = place_of number four;
  specificity = 0 ∷ 0 ∷ 1 ∷ [];
  place = place ∷ [];
  rollback = Nowhere;
}

abbrev with_id : Weighed → Weighed
with_id one = record one { specificity = 1 ∷ 0 ∷ 0 ∷ [] }

-- the same declaration in the element's style attribute
abbrev own : Weighed → Weighed
own one = record one { attached = true; layer = 0; specificity = 0 ∷ 0 ∷ 0 ∷ [] }

pub orders :
    -- the later place; the greater specificity
    (beats (plain false 0 2) (plain false 0 1) ≡ true)
    × (beats (with_id (plain false 0 1)) (plain false 0 2) ≡ true)
    -- a layer before specificity, and no layer after all
    × (beats (plain false 6 1) (with_id (plain false 5 2)) ≡ true)
    × (beats (plain false 0 1) (with_id (plain false 6 2)) ≡ true)
    × (beats (plain false 4 1) (with_id (plain false 5 2)) ≡ true)
    -- the same reversed, if they are important
    × (beats (plain true 5 1) (plain true 4 2) ≡ true)
    × (beats (plain true 6 1) (plain true 0 2) ≡ true)
    -- importance before all
    × (beats (plain true 5 1) (with_id (plain false 0 2)) ≡ true)
orders = (refl, refl, refl, refl, refl, refl, refl, refl)

-- `<p style="..">`
pub attached_ones :
    -- a normal one beats those of all normal rules, in a layer or in none
    (beats (own (plain false 0 1)) (with_id (plain false 0 2)) ≡ true)
    × (beats (own (plain false 0 1)) (with_id (plain false 5 2)) ≡ true)
    -- and loses to an important one, in whatever layer
    × (beats (plain true 0 1) (own (plain false 0 2)) ≡ true)
    × (beats (plain true 5 1) (own (plain false 0 2)) ≡ true)
    -- an important one beats important rules in all layers, and in none
    × (beats (own (plain true 0 1)) (with_id (plain true 5 2)) ≡ true)
    × (beats (own (plain true 0 1)) (with_id (plain true 0 2)) ≡ true)
    -- of two in the attribute the important one wins, and else the later
    × (beats (own (plain true 0 1)) (own (plain false 0 2)) ≡ true)
    × (beats (own (plain false 0 2)) (own (plain false 0 1)) ≡ true)
attached_ones = (refl, refl, refl, refl, refl, refl, refl, refl)

-- the same declaration in a rule of this origin
abbrev of : Origin → Weighed → Weighed
of origin one = record one { origin = origin }

pub origins :
    -- of those that are not important the author's wins over a hint, the user's and the program's
    (beats (plain false 4 1) (with_id (of UserAgent (plain false 0 2))) ≡ true)
    × (beats (plain false 4 1) (with_id (of User (plain false 0 2))) ≡ true)
    × (beats (plain false 4 1) (of Hint (plain false 0 2)) ≡ true)
    × (beats (of Hint (plain false 0 1)) (with_id (of User (plain false 0 2))) ≡ true)
    × (beats (of User (plain false 4 1)) (with_id (of UserAgent (plain false 0 2))) ≡ true)
    -- of important ones the program's wins over the user's and the author's, of the style attribute too
    × (beats (of UserAgent (plain true 0 1)) (with_id (of User (plain true 4 2))) ≡ true)
    × (beats (of User (plain true 0 1)) (with_id (plain true 4 2)) ≡ true)
    × (beats (of UserAgent (plain true 0 1)) (own (plain true 0 2)) ≡ true)
    -- and importance is before origins
    × (beats (plain true 5 1) (with_id (of UserAgent (plain false 0 2))) ≡ true)
    -- of one origin layers decide
    × (beats (of User (plain false 6 1)) (with_id (of User (plain false 5 2))) ≡ true)
    × (beats (of User (plain true 5 1)) (with_id (of User (plain true 6 2))) ≡ true)
origins = (refl, refl, refl, refl, refl, refl, refl, refl, refl, refl, refl)

-- ---- rolling back

abbrev back : Rollback → Weighed → Weighed
back rollback one = record one { rollback = rollback }

-- what is left of declarations of one property
abbrev left_of : List Weighed → List Weighed
left_of all = left (λ w. w) (λ all one. all) all

pub rolled_back :
    (left_of (plain false 4 1 ∷ back ToLayer (plain false 0 2) ∷ []) ≡ plain false 4 1 ∷ [])
    -- what is in its layer does not count
    × (left_of (plain false 0 1 ∷ back ToLayer (plain false 0 2) ∷ []) ≡ [])
    -- nor what is not important there, or in a later layer
    × (left_of (plain false 4 1 ∷ plain false 6 2 ∷ plain false 0 3 ∷ back ToLayer (plain true 6 4) ∷ [])
    ≡ plain false 4 1 ∷ [])
    -- the style attribute is a layer of its own
    × (left_of (plain false 0 1 ∷ own (plain false 0 2) ∷ back ToLayer (own (plain false 0 3)) ∷ [])
    ≡ plain false 0 1 ∷ [])
    -- a hint is in an earlier layer, and the author's for `revert`
    × (left_of (of Hint (plain false 0 1) ∷ back ToLayer (plain false 4 2) ∷ [])
    ≡ of Hint (plain false 0 1) ∷ [])
    × (left_of (of User (plain false 0 1) ∷ of Hint (plain false 0 2) ∷ back ToOrigin (plain false 4 3) ∷ [])
    ≡ of User (plain false 0 1) ∷ [])
    -- `revert` that does not count takes nothing out
    × (left_of (plain false 4 1 ∷ back ToOrigin (plain false 0 2) ∷ back ToLayer (plain false 0 3) ∷ [])
    ≡ plain false 4 1 ∷ [])
    -- nothing is before the user agent's origin
    × (left_of (back ToOrigin (of UserAgent (plain false 0 1)) ∷ [])
    ≡ back ToOrigin (of UserAgent (plain false 0 1)) ∷ [])
rolled_back = (refl, refl, refl, refl, refl, refl, refl, refl)
