-- What is wrong within one block: a custom property that is declared again, and `!important` in a keyframe.
use Rattle.std.specs.Prelude.{ℕ, Bool, true, false, ◌||◌, if◌then◌else◌, List, [], ◌∷◌, ◌++◌, length}
use Rattle.std.specs.List.{flat_map}
use Rattle.css_text.specs.AsciiBytes.{hyphen}
use Rattle.css_text.specs.Bytes.{starts_two}
use Rattle.css_lint.specs.declared.kinds.Kind.TheVariants.{ImportantInKeyframes, RepeatedProperty}
use Rattle.css_lint.specs.Keys.{KeyedText, repeated}
use Rattle.css_lint.specs.Places.{PlaceText, sized}
use Rattle.css_lint.specs.PlacedRules.{RuleAt, SetText, sets_in}

-- whether a property is a custom one, as it is written
abbrev pub is_custom : List ℕ → Bool
is_custom name = starts_two hyphen hyphen name

-- a declaration of a custom property, with its name
abbrev pub keyed_set : SetText → List KeyedText
keyed_set one =
    if is_custom one.name
    then record { key = one.name; place = sized RepeatedProperty one.start one.size } ∷ []
    else []

-- the custom properties that are declared again
abbrev pub repeated_sets : List SetText → List PlaceText
repeated_sets sets = repeated (flat_map keyed_set sets)

-- whether two hyphens are in a text, one after the other, as in each custom property
abbrev pub has_hyphens : List ℕ → Bool
has_hyphens [] = false
has_hyphens (byte ∷ text) = starts_two hyphen hyphen (byte ∷ text) || has_hyphens text

-- the custom properties that a block declares again, if it has any
abbrev pub repeated_in_block : (end : ℕ) → List ℕ → List PlaceText
repeated_in_block end text =
    if has_hyphens text then repeated_sets (sets_in true end text) else []

abbrev pub important_set : SetText → List PlaceText
important_set one =
    if one.important then sized ImportantInKeyframes one.start one.size ∷ [] else []

-- the important declarations
abbrev pub important_sets : List SetText → List PlaceText
important_sets sets = flat_map important_set sets

-- the custom properties that a style attribute declares again
abbrev pub attribute_places : List ℕ → List PlaceText
attribute_places text = repeated_sets (sets_in false (length text) text)

-- what is wrong with the declarations of a keyframe
abbrev pub set_places : List SetText → List PlaceText
set_places sets = repeated_sets sets ++ important_sets sets

abbrev pub keyframe_places : RuleAt → List PlaceText
keyframe_places rule = set_places (sets_in true rule.end rule.text)
