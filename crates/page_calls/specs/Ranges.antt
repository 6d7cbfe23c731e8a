-- The numbers of the elements of a range of a page that selectors match.
use Rattle.std.specs.Prelude.{◌≡◌, ℕ, ◌+◌, ◌-◌, List, [], ◌∷◌, length, map, min, Option, None, Some, Result, Ok, Err}
use Rattle.std.specs.Str.{IsUtf8}
use Rattle.css_selector_text.specs.Components.{Selector}
use Rattle.css_selector_text.specs.Names.{Names}
use Rattle.css_selectors.specs.Numberings.{NumberingText, no_lists, numbered_selectors}
use Rattle.css_matching.specs.ListTrees.{spot}
use Rattle.css_index.specs.Found.{MatchesAt}
use Rattle.css_tree.specs.Pages.{Page, page_document}
use Rattle.call_answers.specs.AnswerLines.{AreLinesWithin}
use Rattle.call_answers.specs.Calls.{FailsWithin}
use Rattle.call_answers.specs.declared.answer.CallError.{CallError}
use Rattle.page_calls.specs.MarkedPages.{AreOnMarked}
use Rattle.page_calls.specs.Readings.{selector_as, selectors_of}
use Rattle.page_calls.specs.declared.modern.document_kind.DocumentKind.{DocumentKind}
use Rattle.page_calls.specs.declared.modern.ranges.ElementRange.{ElementRange}

-- The number of the element at an index, counted from 1, if one of the selectors matches it, or nothing.
pub data IsNumberAt (selectors : List Selector) (page : Page) (element : ℕ) : List ℕ → Type 0 where
  is_matched : (index : ℕ) → MatchesAt page_document (spot page element) selectors index
      → IsNumberAt selectors page element ((element + 1) ∷ [])
  is_unmatched : ((index : ℕ) → ¬ MatchesAt page_document (spot page element) selectors index)
      → IsNumberAt selectors page element []

-- how many elements of so many are in a range: those from its first index to before its second, or to the last
abbrev pub count_in : ElementRange → (elements : ℕ) → ℕ
count_in range elements = min range.to elements - range.from

-- the numbers of the elements of a range that one of the selectors matches, in order, or none within a limit
abbrev pub AreNumbersIn : (most : ℕ) → ElementRange → List Selector → Page → Option (List ℕ) → Type 0
AreNumbersIn most range selectors page =
    AreLinesWithin most (λ index. IsNumberAt selectors page (range.from + index)) (count_in range (length page.rows))

-- the same as a document reads selectors
abbrev pub AreNumbersOn : (most : ℕ) → ElementRange → DocumentKind → List Selector → Page → Option (List ℕ) → Type 0
AreNumbersOn most range kind selectors page = AreNumbersIn most range (map (selector_as kind) selectors) page

-- The same with numbers in selectors, where the lists of these numbers are answered on the page.
abbrev pub AreNumbered : (most : ℕ) → ElementRange → DocumentKind → List Selector × NumberingText → Page
    → Option (List ℕ) → Type 0
AreNumbered most range kind numbered before answer =
    AreOnMarked most kind numbered.1.lists before (AreNumbersOn most range kind numbered.0) answer

-- the same of the selectors that a text is a list of, where these names are declared
abbrev pub AreSelectedIn : (most : ℕ) → ElementRange → DocumentKind → Names → List ℕ → Page → Option (List ℕ) → Type 0
AreSelectedIn most range kind names text page answer =
    (selectors : List Selector) × IsUtf8 text × (selectors_of names text ≡ Some selectors)
    × AreNumbered most range kind (numbered_selectors no_lists selectors) page answer

-- which elements of a range one of the selectors of a list matches, in at most this many numbers
abbrev pub IsRangeSelected : (most : ℕ) → ElementRange → DocumentKind → Names → List ℕ → Page
    → Result (List ℕ) CallError → Type 0
IsRangeSelected most range kind names text page (Ok numbers) =
    AreSelectedIn most range kind names text page (Some numbers)
IsRangeSelected most range kind names text page (Err error) =
    FailsWithin (selectors_of names text ≡ None) (λ fault. ⊥) (¬ (IsUtf8 text)) ⊥
    (AreSelectedIn most range kind names text page None) error
