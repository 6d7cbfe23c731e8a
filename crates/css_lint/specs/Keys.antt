-- What is said at places, and where it is said again.
use Rattle.std.specs.Prelude.{ℕ, Bool, true, false, if◌then◌else◌, List, [], ◌∷◌, ◌++◌, bytes_eq}
use Rattle.std.specs.Borrow.{Bor}
use Rattle.std.specs.BTreeMap.{BTreeMap, get_by}
use Rattle.std.specs.Cmp.Lexicographic.{slice_cmp}
use Rattle.std.specs.List.{list_any}
use Rattle.std.specs.Option.{is_some}
use Rattle.std.specs.Ordering.{nat_cmp}
use Rattle.css_text.specs.Characters.{is_space}
use Rattle.css_lint.specs.declared.keys.Keyed.{Keyed}
use Rattle.css_lint.specs.Places.{PlaceText, place_of}

-- What is said at a place, as numbers: bytes, and other numbers between texts.
pub record KeyedText : Type 0 where
  pub key : List ℕ
  pub place : PlaceText

abbrev pub keyed_of : Keyed → KeyedText
keyed_of one = record { key = one.key.items; place = place_of one.found }

-- whether one of these is the same
abbrev pub is_among : List (List ℕ) → List ℕ → Bool
is_among said key = list_any (λ one. bytes_eq one key) said

-- the place, if the same was said before
abbrev pub if_repeated : (before : List (List ℕ)) → KeyedText → List PlaceText
if_repeated before one = if is_among before one.key then one.place ∷ [] else []

-- the same of several, one after another
abbrev pub repeated_after : (before : List (List ℕ)) → List KeyedText → List PlaceText
repeated_after before [] = []
repeated_after before (one ∷ more) =
    if_repeated before one ++ repeated_after (before ++ one.key ∷ []) more

-- the places at which the same is said as at one before
abbrev pub repeated : List KeyedText → List PlaceText
repeated all = repeated_after [] all

-- whether a map has this key
abbrev pub has_key : BTreeMap (Bor (List ℕ)) ℕ → List ℕ → Bool
has_key met key = is_some (get_by (λ one. slice_cmp nat_cmp key one.now) met)

-- ---- texts

abbrev pub with_space : (after : Bool) → ℕ → List ℕ
with_space after byte = if after then 32 ∷ byte ∷ [] else byte ∷ []

-- the same of the rest of a text, where the byte before it is white space or not
abbrev pub spaced_after : (after : Bool) → List ℕ → List ℕ
spaced_after after [] = []
spaced_after after (byte ∷ text) =
    if is_space byte then spaced_after true text
    else with_space after byte ++ spaced_after false text

-- a text with one space for each run of white space, and none at its end
abbrev pub spaced : List ℕ → List ℕ
spaced text = spaced_after false text
