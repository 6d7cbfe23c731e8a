-- The mistakes of style sheets, as lines. Those that are relations of places are exactly as defined; the
-- others are guesses, of which nothing is said.
use Rattle.std.specs.Prelude.{◌≡◌, ℕ, ◌/◌, ◌%◌, Bool, true, false, ◌||◌, nat_eq, if◌then◌else◌, List, [], ◌∷◌, ◌++◌, decimal, Option, None, Some, Result, Ok, Err}
use Rattle.std.specs.List.{flat_map}
use Rattle.std.specs.Str.{IsUtf8}
use Rattle.call_answers.specs.declared.answer.CallError.{CallError}
use Rattle.call_answers.specs.Calls.{FailsFor}
use Rattle.css_lint.specs.declared.findings.Edit.{Edit}
use Rattle.css_lint.specs.declared.findings.Finding.{Finding}
use Rattle.css_lint.specs.declared.findings.Meant.{Meant}
use Rattle.css_lint.specs.InBlocks.{attribute_places}
use Rattle.css_lint.specs.Places.{PlaceText, AreFindings}
use Rattle.css_lint.specs.Relations.{related_places}
use Rattle.css_lint.specs.Words.{words_of}

-- ---- lines

-- what is between two pieces of a line
abbrev pub tab : ℕ
tab = 9

abbrev pub newline : ℕ
newline = 10

abbrev pub meant_text : Meant → List ℕ
meant_text meant = meant.sign.now ++ meant.name.now

-- what was probably meant, or nothing
abbrev pub hint_text : Option Meant → List ℕ
hint_text None = []
hint_text (Some meant) = meant_text meant

-- two offsets, with a tab before and after each
abbrev pub offsets_text : Edit → List ℕ
offsets_text edit = tab ∷ (decimal edit.start ++ (tab ∷ (decimal edit.end ++ tab ∷ [])))

-- what corrects it: where a text is written, and the text; or nothing
abbrev pub edit_text : Option Edit → List ℕ
edit_text None = []
edit_text (Some edit) = offsets_text edit ++ meant_text edit.text

-- the kind and two offsets, each with a tab after it
abbrev pub head_text : Finding → List ℕ
head_text found =
    words_of found.kind
    ++ (tab ∷ (decimal found.start ++ (tab ∷ (decimal found.end ++ tab ∷ []))))

-- the line of a finding
abbrev pub finding_line : Finding → List ℕ
finding_line found =
    head_text found ++ (hint_text found.meant ++ (edit_text found.edit ++ newline ∷ []))

-- ---- what is asked for

-- whether a sum of different powers of two has this one
abbrev pub has_power : (power asked : ℕ) → Bool
has_power power asked = nat_eq ((asked / power) % 2) 1

-- the text is a style attribute
abbrev pub is_attribute : (asked : ℕ) → Bool
is_attribute asked = has_power 2 asked

-- what the kinds are is asked for, or what is known of values
abbrev pub is_other : (asked : ℕ) → Bool
is_other asked = has_power 4 asked || has_power 8 asked

-- ---- the call

-- the findings that are relations of places: those of a style attribute, or of a sheet
abbrev pub places_of : (attribute : Bool) → List ℕ → List PlaceText
places_of attribute text = if attribute then attribute_places text else related_places text

-- the lines of findings: of those at these places, in order, and then of guesses
abbrev pub AreLines : List PlaceText → (lines : List ℕ) → Type 0
AreLines places lines =
    (found : List Finding) × AreFindings places found × (lines ≡ flat_map finding_line found)

-- what is said of lines: of another answer nothing
abbrev pub AreAsked : (other attribute : Bool) → List ℕ → (lines : List ℕ) → Type 0
AreAsked true attribute text lines = Unit {0}
AreAsked false attribute text lines = AreLines (places_of attribute text) lines

-- lines are written of any text, unless it is not UTF-8
abbrev pub IsLintCall : (asked : ℕ) → List ℕ → Result (List ℕ) CallError → Type 0
IsLintCall asked text (Ok lines) =
    IsUtf8 text × AreAsked (is_other asked) (is_attribute asked) text lines
IsLintCall asked text (Err failure) = FailsFor ⊥ (λ fault. ⊥) (¬ (IsUtf8 text)) failure
