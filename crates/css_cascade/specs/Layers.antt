-- The order of cascade layers (CSS Cascading 5, section 6.4.3): in each origin by first appearance, where
-- what is nested in a layer comes with that one.
use Rattle.std.specs.Prelude.{ℕ, zero, suc, Bool, true, false, ◌&&◌, ◌==◌, if◌then◌else◌, nat_eq, List, [], ◌∷◌, ◌++◌, length, take, drop, option_and_then, Option, None, Some}
use Rattle.std.specs.Cmp.Lexicographic.{pointwise}
use Rattle.css_cascade.specs.declared.weights.Origin.{Origin}
use Rattle.css_cascade.specs.declared.weights.Origin.TheVariants.{UserAgent, User, Hint, Author}

-- What tells a layer from the others that are directly in the same one: its name, as it is after
-- escapes; or, if it has none, the place where it begins, in which text and where in that, so that each
-- is a new one. Nothing tells the outermost one of an origin, in which all of its layers are: what is in
-- no layer is directly in that.
pub data LayerPart : Type 0 where
  named : (name : List ℕ) → LayerPart
  anonymous : (place : List ℕ) → LayerPart
  outermost : LayerPart

-- A layer: its number, the number of the layer that it is directly in, and what tells it from the
-- others there.
pub record LayerText : Type 0 where
  pub number : ℕ
  pub outer : ℕ
  pub part : LayerPart

-- the number of the outermost layer of an origin
abbrev pub outermost_number : Origin → ℕ
outermost_number Author = 0
outermost_number Hint = 1
outermost_number User = 2
outermost_number UserAgent = 3

abbrev pub outermost_layer : Origin → LayerText
outermost_layer origin = record {
  number = outermost_number origin;
  outer = outermost_number origin;
  part = outermost;
}

-- The layers where none is mentioned. Each origin has its own, so that no layer of one is before, after or
-- the same as one of another; the order of these four makes no difference.
abbrev pub outermost_layers : List LayerText
outermost_layers =
    outermost_layer Author ∷ outermost_layer Hint ∷ outermost_layer User ∷ outermost_layer UserAgent
    ∷ []

-- how many origins there are
abbrev pub origin_count : ℕ
origin_count = 4

abbrev pub is_same_part : LayerPart → LayerPart → Bool
is_same_part (named a) (named b) = pointwise nat_eq a b
is_same_part (named a) (anonymous n) = false
is_same_part (named a) outermost = false
is_same_part (anonymous m) (named b) = false
is_same_part (anonymous m) (anonymous n) = pointwise nat_eq m n
is_same_part (anonymous m) outermost = false
is_same_part outermost (named b) = false
is_same_part outermost (anonymous n) = false
is_same_part outermost outermost = true

-- the number of the layer that is directly in this one and has this part, if it is one of these
abbrev pub number_in : (outer : ℕ) → LayerPart → List LayerText → Option ℕ
number_in outer part [] = None
number_in outer part (one ∷ more) =
    if one.outer == outer && is_same_part one.part part then Some one.number
    else number_in outer part more

-- how many of these layers are before the one with this number; all, if none has it
abbrev pub place_of : ℕ → List LayerText → ℕ
place_of number [] = zero
place_of number (one ∷ more) = if one.number == number then zero else suc (place_of number more)

-- A new layer is the last that is directly in that one. What is directly in a layer comes after all of
-- the layers in it, so the new one comes directly before that one.
abbrev pub inserted : LayerText → List LayerText → List LayerText
inserted new known =
    take (place_of new.outer known) known ++ new ∷ drop (place_of new.outer known) known

abbrev pub unless_known : (known : List LayerText) → (outer : ℕ) → LayerPart → Option ℕ
    → List LayerText
unless_known known outer part (Some number) = known
unless_known known outer part None =
    inserted (record { number = length known; outer = outer; part = part }) known

-- The layers in order after one is mentioned that is directly in this one and has this part: a new one
-- gets the next number.
abbrev pub with_layer : List LayerText → (outer : ℕ) → LayerPart → List LayerText
with_layer known outer part = unless_known known outer part (number_in outer part known)

abbrev pub or_outermost : Option ℕ → ℕ
or_outermost None = 0
or_outermost (Some number) = number

-- the number of the layer that is directly in this one and has this part
abbrev pub number_of : (outer : ℕ) → LayerPart → List LayerText → ℕ
number_of outer part known = or_outermost (number_in outer part known)

-- The layers in order after one is mentioned by the parts of its name, which is in this one: with those
-- that it is in, from the outermost.
abbrev pub with_name : List LayerText → (outer : ℕ) → List LayerPart → List LayerText
with_name known outer [] = known
with_name known outer (part ∷ more) =
    with_name (with_layer known outer part) (number_of outer part (with_layer known outer part)) more

-- the number of the layer with these parts, from one that is directly in this one, if it is known
abbrev pub number_at : (outer : ℕ) → List LayerPart → List LayerText → Option ℕ
number_at outer [] known = Some outer
number_at outer (part ∷ more) known =
    option_and_then (λ (number : ℕ). number_at number more known) (number_in outer part known)

-- how many layers there may be beside the outermost ones
abbrev pub most_layers : ℕ
most_layers = 1024
