-- What each call for modern selectors must write, and when it fails.
use Rattle.std.specs.Prelude.{◌≡◌, ◌⊎◌, ℕ, List, map, length, Option, None, Some, Result, Ok, Err}
use Rattle.std.specs.Str.{IsUtf8}
use Rattle.css_sheet.specs.RuleSelectors.{selector_of}
use Rattle.css_selector_text.specs.Components.{Selector}
use Rattle.css_selectors.specs.Numberings.{NumberingText, no_lists, numbered_selectors}
use Rattle.css_selector_text.specs.reading.Supported.{supported_list}
use Rattle.css_tree.specs.Pages.{Page}
use Rattle.css_elements.specs.Rows.{Row}
use Rattle.call_answers.specs.declared.answer.CallError.{CallError}
use Rattle.page_calls.specs.declared.modern.document_kind.DocumentKind.{DocumentKind}
use Rattle.call_answers.specs.declared.pages.LineContent.{LineContent}
use Rattle.call_answers.specs.declared.pages.LineContent.TheVariants.{Numbers}
use Rattle.call_answers.specs.Calls.{FailsFor, FailsWithin, HasTexts, HasBadEnds, IsBrokenUtf8, HasRefusedText, AreSelectorsIn, Passed, passed_tree, passed_states, passed_spaced, passed_declared}
use Rattle.page_calls.specs.MarkedPages.{AreOnMarked}
use Rattle.page_calls.specs.ModernLines.{IsRefusal, page_with, AreModernLines}
use Rattle.page_calls.specs.Readings.{selector_as}

-- where the text is no list of selectors, and why, or nothing where it is one, where a tree declares names
abbrev pub IsModernRefusalCall : List ℕ → Passed → Result (List ℕ) CallError → Type 0
IsModernRefusalCall text passed (Ok bytes) =
    (rows : List Row) × IsUtf8 text × IsUtf8 passed.strings × (passed_tree passed ≡ Ok rows)
    × IsRefusal text (supported_list (passed_declared passed) text) bytes
IsModernRefusalCall text passed (Err error) =
    FailsFor ⊥ (λ fault. passed_tree passed ≡ Err fault)
    (¬ (IsUtf8 text) ⊎ ¬ (IsUtf8 passed.strings)) error

-- which elements of a page these selectors match, as a document reads them; or none within a limit
abbrev pub AreLinesOn : (most : ℕ) → LineContent → DocumentKind → List Selector → Page
    → Option (List ℕ) → Type 0
AreLinesOn most content kind selectors page =
    AreModernLines most content (map (selector_as kind) selectors) page

-- Which elements of a page these selectors match: with numbers in them, where the lists of these numbers are
-- answered on it.
abbrev pub AreNumberedLines : (most : ℕ) → LineContent → DocumentKind
    → List Selector × NumberingText → Page → Option (List ℕ) → Type 0
AreNumberedLines most content kind numbered before answer =
    AreOnMarked most kind numbered.1.lists before (AreLinesOn most content kind numbered.0) answer

-- which elements of a tree the selectors match, as a document reads them, or none within a limit
abbrev pub AreReadLines : (most : ℕ) → LineContent → DocumentKind → List Selector → Passed
    → Option (List ℕ) → Type 0
AreReadLines most content kind selectors passed answer =
    (rows : List Row) × IsUtf8 passed.strings × (passed_tree passed ≡ Ok rows)
    × AreNumberedLines most content kind (numbered_selectors no_lists selectors)
    (page_with kind (passed_states passed) (passed_spaced passed) passed.elements rows) answer

-- which of the selectors of texts match each element, or none within a limit
abbrev pub AreModernMatched : (most : ℕ) → List ℕ → List ℕ → DocumentKind → Passed
    → Option (List ℕ) → Type 0
AreModernMatched most buffer ends kind passed answer =
    (texts : List (List ℕ)) × (selectors : List Selector) × HasTexts buffer ends texts
    × AreSelectorsIn selector_of texts selectors
    × AreReadLines most Numbers kind selectors passed answer

-- which of the selectors of texts match each element, in at most this number of bytes
abbrev pub IsModernMatchCall : (most : ℕ) → List ℕ → List ℕ → DocumentKind → Passed
    → Result (List ℕ) CallError → Type 0
IsModernMatchCall most buffer ends kind passed (Ok bytes) =
    AreModernMatched most buffer ends kind passed (Some bytes)
IsModernMatchCall most buffer ends kind passed (Err error) =
    FailsWithin (HasBadEnds buffer ends ⊎ HasRefusedText selector_of buffer ends)
    (λ fault. passed_tree passed ≡ Err fault)
    (IsBrokenUtf8 buffer ends ⊎ ¬ (IsUtf8 passed.strings)) ⊥
    (AreModernMatched most buffer ends kind passed None) error
