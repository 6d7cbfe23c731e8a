-- Which declarations win by what a call writes of a query.
use Rattle.std.specs.Prelude.{◌≡◌, ℕ, ◌+◌, ◌++◌, Bool, List, drop, length, Ok}
use Rattle.css_elements.specs.Rows.{Row}
use Rattle.css_sheet.specs.SheetOrder.{cascade_rules}
use Rattle.css_sheet.specs.Sheets.{SheetText}
use Rattle.css_styles.specs.Winners.{WinnerText}
use Rattle.css_tree.specs.Marks.{with_marks}
use Rattle.css_tree.specs.Pages.{Page}
use Rattle.call_answers.specs.Calls.{HasTexts, passed_tree}
use Rattle.cssq.specs.MatchRuns.{AreLines}
use Rattle.page_calls.specs.Ranges.{count_in}
use Rattle.page_calls.specs.declared.modern.document_kind.DocumentKind.{DocumentKind}
use Rattle.page_calls.specs.declared.modern.ranges.ElementRange.{ElementRange}
use Rattle.simplecss_calls.specs.WinnerNumbers.{AreSheets, own_at, winners_numbers}
use Rattle.kept_queries.specs.Queries.{page_made_of}
use Rattle.kept_queries.specs.Sources.{QuerySource}
use Rattle.css_laws.specs.Headline.{AreTheWinners}

-- The numbers of an element at an index, which has two texts of its own: those of the declarations that win on it. A
-- group rule holds as `holds` says of its keyword and its prelude.
abbrev pub AreOfWinners : (holds : List ℕ → List ℕ → Bool) → List SheetText → DocumentKind → Page
    → (texts : List (List ℕ)) → (index : ℕ) → (numbers : List ℕ) → Type 0
AreOfWinners holds sheets kind page texts index numbers =
    (found : List WinnerText) × (numbers ≡ winners_numbers (length (cascade_rules holds sheets)) found)
    × AreTheWinners holds sheets kind page index (own_at texts index) found

-- those of the elements of a range, in order
abbrev pub AreOfRange : (holds : List ℕ → List ℕ → Bool) → List SheetText → DocumentKind → Page
    → (texts : List (List ℕ)) → ElementRange → (numbers : List ℕ) → Type 0
AreOfRange holds sheets kind page texts range =
    AreLines (λ index. AreOfWinners holds sheets kind page texts (range.from + index)) (count_in range (length page.rows))

-- What numbers say of a query: which declarations win on the elements of a range of its page, by its sheets and by the
-- elements' own texts. Which group rules hold is decided by those that are passed.
pub record AreWon (holds : (groups : List (List ℕ)) → (keyword prelude : List ℕ) → Bool) (source : QuerySource)
    (range : ElementRange) (numbers : List ℕ) : Type 0 where
  pub sheets : List SheetText
  pub groups : List (List ℕ)
  pub passed : AreSheets source.sheets sheets groups
  pub rows : List Row
  pub tree : passed_tree source.passed ≡ Ok rows
  pub page : Page
  pub made : page ≡ with_marks (page_made_of source rows) page.marks
  pub texts : List (List ℕ)
  pub own : HasTexts source.own source.own_ends texts
  pub won : AreOfRange (holds groups) sheets source.kind page texts range numbers

-- They are at the start of a buffer, of which the rest is unchanged, and this is how many they are.
abbrev pub AreWrittenOf : (Are : (numbers : List ℕ) → Type 0) → (old new : List ℕ) → (len : ℕ) → Type 0
AreWrittenOf Are old new len =
    (numbers : List ℕ) × (new ≡ numbers ++ drop (length numbers) old) × (len ≡ length numbers) × Are numbers
