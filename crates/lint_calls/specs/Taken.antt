-- Texts without the declarations whose values no browser takes.
use Rattle.std.specs.Prelude.{◌≡◌, ℕ, ◌-◌, Bool, if◌then◌else◌, List, [], ◌∷◌, ◌++◌, length, replicate, Result, Ok, Err}
use Rattle.std.specs.List.{slice_range}
use Rattle.std.specs.Str.{IsUtf8}
use Rattle.call_answers.specs.declared.answer.CallError.{CallError}
use Rattle.call_answers.specs.Calls.{FailsFor}
use Rattle.css_lint.specs.Places.{PlaceText}
use Rattle.css_lint.specs.Refused.{refused_in_attribute, refused_places}
use Rattle.lint_calls.specs.Linting.{has_power}

-- the text is a style attribute
abbrev pub is_style : (asked : ℕ) → Bool
is_style asked = has_power 1 asked

-- the page is in quirks mode
abbrev pub is_in_quirks : (asked : ℕ) → Bool
is_in_quirks asked = has_power 2 asked

-- the declarations of a style attribute, or of a sheet, whose values no browser takes
abbrev pub refused_of : (style in_quirks : Bool) → List ℕ → List PlaceText
refused_of style in_quirks text =
    if style then refused_in_attribute in_quirks text else refused_places in_quirks text

-- A text from an offset on, with as many spaces in place of the bytes of each of these parts, which are in order: every
-- other byte is there, in its place.
abbrev pub spaced : (text : List ℕ) → (last : ℕ) → List PlaceText → List ℕ
spaced text last [] = slice_range text last (length text)
spaced text last (part ∷ more) =
    slice_range text last part.start
    ++ (replicate (part.end - part.start) 32 ++ spaced text part.end more)

-- a style attribute or a sheet with spaces in place of these declarations
abbrev pub taken : (asked : ℕ) → List ℕ → List ℕ
taken asked text = spaced text 0 (refused_of (is_style asked) (is_in_quirks asked) text)

-- it is written, unless the text is not UTF-8
abbrev pub IsTakenCall : (asked : ℕ) → List ℕ → Result (List ℕ) CallError → Type 0
IsTakenCall asked text (Ok out) = IsUtf8 text × (out ≡ taken asked text)
IsTakenCall asked text (Err failure) = FailsFor ⊥ (λ fault. ⊥) (¬ (IsUtf8 text)) failure
