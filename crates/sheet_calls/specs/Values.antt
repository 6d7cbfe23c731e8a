-- What is written of values as far as names go: computed values, shorthands, and what is inherited.
use Rattle.std.specs.Prelude.{◌≡◌, ◌<◌, ◌≤◌, ◌⊎◌, ◌||◌, ◌==◌, if◌then◌else◌, ℕ, Bool, true, false, List, length, take, drop, Option, None, Some, Result, Ok, Err}
use Rattle.std.specs.Str.{IsUtf8}
use Rattle.css_conditions.specs.declared.truth.Truth.{Truth}
use Rattle.css_conditions.specs.declared.truth.Truth.TheVariants.{True, False}
use Rattle.css_text.specs.AsciiBytes.{hyphen}
use Rattle.css_text.specs.Bytes.{starts_two}
use Rattle.css_values.specs.Substitution.{Value}
use Rattle.css_values.specs.Registrations.{Stated, registrations_of}
use Rattle.css_values.specs.Registered.{AreValues as AreValuesOf}
use Rattle.css_values.specs.Resolution.{deepest_fallback}
use Rattle.css_values.specs.Validity.{is_valid}
use Rattle.css_values.specs.Lines.{name_lines, properties_in, value_lines}
use Rattle.css_values.specs.Names.{is_named_in, longhands_in, shorthands_in}
use Rattle.call_answers.specs.declared.answer.CallError.{CallError}
use Rattle.call_answers.specs.declared.answer.CallError.TheVariants.{Refused}
use Rattle.sheet_calls.specs.declared.values.PropertyQuestion.{PropertyQuestion}
use Rattle.sheet_calls.specs.declared.values.PropertyQuestion.TheVariants.{Longhands, Shorthands, Counterpart, IsInherited}
use Rattle.call_answers.specs.Calls.{FailsFor, FailsWithin, HasTexts, HasBadEnds, IsBrokenUtf8}
use Rattle.call_answers.specs.Outcomes.{truth_text}

-- the texts of a buffer are no pairs
abbrev pub HasNoPairs : List ℕ → List ℕ → Type 0
HasNoPairs buffer ends =
    (texts : List (List ℕ)) × (HasTexts buffer ends texts × (properties_in texts ≡ None))

-- why a call has no values of the properties of a buffer
abbrev pub FailsPairs : List ℕ → List ℕ → (IsLonger : Type 0) → CallError → Type 0
FailsPairs buffer ends IsLonger =
    FailsWithin (HasBadEnds buffer ends ⊎ HasNoPairs buffer ends) (λ fault. ⊥)
    (IsBrokenUtf8 buffer ends) ⊥ IsLonger

-- The lines of the values of the properties that an element declares: of these pairs so many are these, so many
-- after them are `@property` rules, and the others are what the parent has.
pub record AreLinesOf (wanted registered limit : ℕ) (stated : List Stated) (bytes : List ℕ) : Type 0 where
  pub values : List (Option Value)
  pub are : AreValuesOf limit (registrations_of (take registered (drop wanted stated))) (take wanted stated)
      (drop registered (drop wanted stated)) values
  pub lines : bytes ≡ value_lines values

-- the same of the pairs of a buffer
pub record AreValues (wanted registered limit : ℕ) (buffer ends bytes : List ℕ) : Type 0 where
  pub texts : List (List ℕ)
  pub has_texts : HasTexts buffer ends texts
  pub stated : List Stated
  pub pairs : properties_in texts ≡ Some stated
  pub are : AreLinesOf wanted registered limit stated bytes

-- these lines, or why nothing is written
abbrev pub IsResolveCall : (wanted registered limit most : ℕ) → List ℕ → List ℕ → Result (List ℕ) CallError → Type 0
IsResolveCall wanted registered limit most buffer ends (Ok bytes) =
    AreValues wanted registered limit buffer ends bytes × (length bytes ≤ most)
IsResolveCall wanted registered limit most buffer ends (Err failure) =
    FailsPairs buffer ends
    ((bytes : List ℕ) × (AreValues wanted registered limit buffer ends bytes × (most < length bytes))) failure

abbrev pub truth_of : Bool → Truth
truth_of true = True
truth_of false = False

-- whether the references of a value are valid
abbrev pub IsValidCall : List ℕ → Result (List ℕ) CallError → Type 0
IsValidCall value (Ok word) =
    IsUtf8 value × (word ≡ truth_text (truth_of (is_valid deepest_fallback value)))
IsValidCall value (Err failure) = FailsFor ⊥ (λ fault. ⊥) (¬ (IsUtf8 value)) failure

-- the longhands that the shorthand sets, by a table
abbrev pub IsLonghandsCall : List ℕ → List ℕ → Result (List ℕ) CallError → Type 0
IsLonghandsCall table name (Ok names) = IsUtf8 name × (longhands_in table name ≡ Some names)
IsLonghandsCall table name (Err failure) =
    FailsFor (longhands_in table name ≡ None) (λ fault. ⊥) (¬ (IsUtf8 name)) failure

-- the shorthands that set the longhand, by a table
abbrev pub IsShorthandsCall : List ℕ → List ℕ → Result (List ℕ) CallError → Type 0
IsShorthandsCall table name (Ok text) =
    IsUtf8 name × (text ≡ name_lines (shorthands_in table name))
IsShorthandsCall table name (Err failure) = FailsFor ⊥ (λ fault. ⊥) (¬ (IsUtf8 name)) failure

-- whether the property is inherited: a custom property is, and those of a list
abbrev pub IsInheritedCall : List ℕ → List ℕ → Result (List ℕ) CallError → Type 0
IsInheritedCall names name (Ok word) =
    IsUtf8 name
    × (word ≡ truth_text (truth_of (starts_two hyphen hyphen name || is_named_in names name)))
IsInheritedCall names name (Err failure) = FailsFor ⊥ (λ fault. ⊥) (¬ (IsUtf8 name)) failure

-- What is asked of a property by a number: 0 is its longhands, 1 its shorthands, 2 its logical or physical counterpart,
-- and 3 whether it is inherited.
abbrev pub question_of : (asked : ℕ) → Option PropertyQuestion
question_of asked =
    if asked == 0 then Some Longhands
    else (if asked == 1 then Some Shorthands
    else (if asked == 2 then Some Counterpart
    else (if asked == 3 then Some IsInherited
    else None)))

-- what is asked of a property, by these tables; where nothing is, the call is refused
abbrev pub IsPropertyCall :
    (shorthands logical inherited : List ℕ) → Option PropertyQuestion → List ℕ → Result (List ℕ) CallError → Type 0
IsPropertyCall shorthands logical inherited None name outcome = outcome ≡ Err Refused
IsPropertyCall shorthands logical inherited (Some Longhands) name outcome = IsLonghandsCall shorthands name outcome
IsPropertyCall shorthands logical inherited (Some Shorthands) name outcome = IsShorthandsCall shorthands name outcome
IsPropertyCall shorthands logical inherited (Some Counterpart) name outcome = IsLonghandsCall logical name outcome
IsPropertyCall shorthands logical inherited (Some IsInherited) name outcome = IsInheritedCall inherited name outcome
