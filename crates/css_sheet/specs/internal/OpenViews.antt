-- What contracts of private functions see of the layers that are open.
use Rattle.std.specs.Prelude.{◌≡◌, ◌<◌, ◌≤◌, ℕ, ◌+◌, ◌-◌, Bool, true, false, if◌then◌else◌, List, [], ◌∷◌, ◌++◌, Option, Some, None, length, take, slice_get}
use Rattle.css_cascade.specs.Layers.{LayerPart, LayerText, most_layers, origin_count, number_at, or_outermost, with_name}
use Rattle.css_cascade.specs.LayerViews.{known_of}
use Rattle.css_sheet.specs.declared.open_layers.OpenLayers.{OpenLayers}
use Rattle.css_sheet.specs.OpenParents.{Parent, no_rule, dropped, style}
use Rattle.css_sheet.specs.SheetParts.{OpenText, SheetPart, states, begins, ends, stands, applies_in}
use Rattle.css_sheet.specs.SheetLayers.{open_name, if_applies}

abbrev pub known_in : OpenLayers → List LayerText
known_in o = known_of o.layers

abbrev pub numbers_in : OpenLayers → List ℕ
numbers_in o = o.numbers.items

-- the number of the layer that all of the sheet is in
abbrev pub outermost_in : OpenLayers → ℕ
outermost_in o = o.outermost

-- the number of the layer that is innermost: the last of these, or the one that all are in
abbrev pub innermost_of : (outer : ℕ) → List ℕ → ℕ
innermost_of outer [] = outer
innermost_of outer (number ∷ numbers) = innermost_of number numbers

-- Whether a style rule is dropped, as far as it is known: not, as long as its list was not read.
abbrev pub is_known_dropped : Parent → Bool
is_known_dropped no_rule = false
is_known_dropped dropped = true
is_known_dropped (style prelude under own) = false

-- the parts of the name of the layer that a rule is, if layers count where it is
abbrev pub counted_name : (counts : Bool) → OpenText → List LayerPart
counted_name counts rule = if counts then open_name rule else []

-- a layer of this name was mentioned in the innermost one, and its number added to those of others
abbrev pub Enters : (outermost : ℕ) → List LayerText → List ℕ → List LayerPart → List LayerText → List ℕ
    → Type 0
Enters outermost known numbers name after now =
    (after ≡ with_name known (innermost_of outermost numbers) name)
    × (now ≡ numbers
    ++ or_outermost (number_at (innermost_of outermost numbers) name after) ∷ [])

abbrev pub EntersLast : (outermost : ℕ) → List LayerText → List ℕ → (counts : Bool) → Option OpenText
    → List LayerText → List ℕ → Type 0
EntersLast outermost known numbers counts None after now = (after ≡ known) × (now ≡ numbers)
EntersLast outermost known numbers counts (Some rule) after now =
    Enters outermost known numbers (counted_name counts rule) after now

-- no more layers are known than there may be, or more are
abbrev pub AreFew : List LayerText → Type 0
AreFew known = length known ≤ most_layers + origin_count

abbrev pub AreMany : List LayerText → Type 0
AreMany known = most_layers + origin_count < length known

-- what the layers and the numbers of those that are open are after a part, where layers in style rules
-- count or not
abbrev pub Goes : (outermost : ℕ) → List LayerText → List ℕ → (counts : Bool) → SheetPart
    → List OpenText → List LayerText → List ℕ → Type 0
Goes outermost known numbers counts (states text) around after now = (after ≡ known) × (now ≡ numbers)
Goes outermost known numbers counts (begins kind) around after now =
    EntersLast outermost known numbers counts (slice_get around (length around - 1)) after now
Goes outermost known numbers counts ends around after now =
    (after ≡ known) × (now ≡ take (length numbers - 1) numbers)
Goes outermost known numbers counts (stands item) around after now =
    (after ≡ if_applies (applies_in around) (innermost_of outermost numbers) known item)
    × (now ≡ numbers)

-- Of each of these rules, the number of the layer that is innermost there, from this one that all are in.
unfoldable pub Tracks : List LayerText → (outer : ℕ) → List ℕ → List OpenText → Type 0
Tracks known outer [] [] = Unit {0}
Tracks known outer [] (rule ∷ around) = ⊥
Tracks known outer (number ∷ numbers) [] = ⊥
Tracks known outer (number ∷ numbers) (rule ∷ around) =
    (number_at outer (open_name rule) known ≡ Some number) × Tracks known number numbers around

-- after a part more layers would be known than there may be
abbrev pub GoesOver : (outermost : ℕ) → List LayerText → List ℕ → (counts : Bool) → SheetPart
    → List OpenText → Type 0
GoesOver outermost known numbers counts part around =
    (after : List LayerText) (now : List ℕ)
    → Goes outermost known numbers counts part around after now
    → AreMany after
