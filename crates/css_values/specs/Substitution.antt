-- What a value comes to when its references are replaced (CSS Custom Properties for Cascading
-- Variables 1, section 3).
use Rattle.std.specs.Prelude.{ℕ, zero, suc, Bool, true, false, not, ◌||◌, ◌&&◌, ◌==◌, nat_lt, if◌then◌else◌, List, [], ◌∷◌, ◌++◌, length, codes, drop, Option, Some, None}
use Rattle.css_text.specs.AsciiBytes.{hyphen, space}
use Rattle.css_text.specs.Bytes.{starts_two}
use Rattle.css_values.specs.Pieces.{Piece, plain, reference, broken, pieces}
use Rattle.css_values.specs.Seams.{joins}

-- A text that was put together: the byte with which its last token begins, or a blank if it is empty,
-- and whether a reference was replaced after what was written last.
pub record Value : Type 0 where
  pub text : List ℕ
  pub last : ℕ
  pub replaced : Bool

-- what a value comes to
pub data Outcome : Type 0 where
  -- it is invalid at computed-value time
  invalid : Outcome
  is : Value → Outcome
  -- the property of this number is read, and has no computed value yet
  waits : ℕ → Outcome

-- what a reference names
pub data Target : Type 0 where
  -- no custom property
  bad : Target
  -- a custom property that has no value, or whose value is invalid
  absent : Target
  -- the property of this number, which has no computed value yet
  unknown : ℕ → Target
  found : Value → Target

-- nothing yet
abbrev pub nothing : Value
nothing = record { text = []; last = space; replaced = false }

-- a comment between two tokens that would join, if one of them or something between them was a
-- reference
abbrev pub seam : Value → Value → List ℕ
seam left right =
    if (left.replaced || right.replaced) && joins left.last right.text then codes "/**/" else []

-- one after another, with what is between them
abbrev pub beside : Value → Value → Value
beside left right =
    let is_empty = length right.text == 0 in
    record {
      text = left.text ++ seam left right ++ right.text;
      last = if is_empty then left.last else right.last;
      replaced = if is_empty then left.replaced || right.replaced else right.replaced;
    }

-- The value, unless it is longer than the limit, which makes the property invalid at computed-value
-- time.
abbrev pub within : ℕ → Value → Outcome
within limit value = if nat_lt limit (length value.text) then invalid else is value

-- After a value, another. What is invalid stays so, but what follows it is still read.
abbrev pub then_value : ℕ → Outcome → Outcome → Outcome
then_value limit (waits n) more = waits n
then_value limit invalid invalid = invalid
then_value limit invalid (is right) = invalid
then_value limit invalid (waits n) = waits n
then_value limit (is left) invalid = invalid
then_value limit (is left) (is right) = within limit (beside left right)
then_value limit (is left) (waits n) = waits n

-- the first byte, or a blank
abbrev pub first_byte : List ℕ → ℕ
first_byte [] = space
first_byte (b ∷ text) = b

-- a token as written
abbrev pub written : List ℕ → Value
written text = record { text = text; last = first_byte text; replaced = false }

-- what stands for a reference
abbrev pub in_place : Value → Value
in_place value = record { text = value.text; last = value.last; replaced = true }

abbrev pub outcome_in_place : Outcome → Outcome
outcome_in_place invalid = invalid
outcome_in_place (is value) = is (in_place value)
outcome_in_place (waits n) = waits n

-- a name of a custom property begins with two hyphens, and has more
abbrev pub is_custom_name : List ℕ → Bool
is_custom_name name = starts_two hyphen hyphen name && not (length (drop 2 name) == 0)

-- the fallback, if there is one, by what values come to
abbrev pub fallback_value : (List ℕ → Outcome) → Option (List ℕ) → Outcome
fallback_value value None = invalid
fallback_value value (Some text) = outcome_in_place (value text)

-- what a reference comes to: the value of the property; if it has none the fallback, which is only
-- then read
abbrev pub reference_value : (List ℕ → Outcome) → Target → Option (List ℕ) → Outcome
reference_value value bad fallback = invalid
reference_value value absent fallback = fallback_value value fallback
reference_value value (unknown n) fallback = waits n
reference_value value (found it) fallback = is (in_place it)

-- what a piece comes to, by what a name as written names
abbrev pub piece_value : (List ℕ → Outcome) → (List ℕ → Target) → Piece → Outcome
piece_value value names (plain text) = is (written text)
piece_value value names (reference name fallback) = reference_value value (names name) fallback
piece_value value names broken = invalid

-- pieces from left to right, after what was put together before them
abbrev pub put_together : (Piece → Outcome) → ℕ → Outcome → List Piece → Outcome
put_together value limit so_far [] = so_far
put_together value limit so_far (p ∷ more) =
    put_together value limit (then_value limit so_far (value p)) more

-- What a value comes to, with fallbacks nested less than `n` deep: its pieces are put together from
-- left to right, up to the first that reads a property which has no computed value yet.
unfoldable pub substituted : ℕ → ℕ → (List ℕ → Target) → List ℕ → Outcome
substituted zero limit names text = invalid
substituted (suc n) limit names text =
    put_together (piece_value (substituted n limit names) names) limit (is nothing) (pieces text)
