-- Names and strings, with escapes and without.
use Rattle.std.specs.Prelude.{◌≡◌, ℕ, ◌==◌, true, false, if◌then◌else◌, List, Option, None, Some, Result, Ok, Err}
use Rattle.std.specs.Str.{IsUtf8}
use Rattle.css_syntax.specs.Escapes.{decoded_in}
use Rattle.css_selector_text.specs.printing.Escaping.{escaped, quoted}
use Rattle.call_answers.specs.declared.answer.CallError.{CallError}
use Rattle.call_answers.specs.declared.answer.CallError.TheVariants.{Refused}
use Rattle.call_answers.specs.Calls.{FailsFor}

-- what this is of a text
abbrev pub IsWritten : (List ℕ → List ℕ) → List ℕ → Result (List ℕ) CallError → Type 0
IsWritten written text (Ok bytes) = IsUtf8 text × (bytes ≡ written text)
IsWritten written text (Err failure) = FailsFor ⊥ (λ fault. ⊥) (¬ (IsUtf8 text)) failure

-- What is written of a text by a number: 0 is what it denotes as a name, 1 what it denotes between the quotes of a
-- string, 2 the identifier that denotes it, and 3 the string.
abbrev pub written_by : ℕ → Option (List ℕ → List ℕ)
written_by asked =
    if asked == 0 then Some (decoded_in false)
    else (if asked == 1 then Some (decoded_in true)
    else (if asked == 2 then Some escaped
    else (if asked == 3 then Some quoted
    else None)))

-- what this is of a text; without it the call is refused
abbrev pub IsWrittenBy : Option (List ℕ → List ℕ) → List ℕ → Result (List ℕ) CallError → Type 0
IsWrittenBy None text outcome = outcome ≡ Err Refused
IsWrittenBy (Some written) text outcome = IsWritten written text outcome

-- what is written of the text by the number
abbrev pub IsSpellCall : (asked : ℕ) → List ℕ → Result (List ℕ) CallError → Type 0
IsSpellCall asked = IsWrittenBy (written_by asked)
