-- The declarations of a property that apply to an element, as numbers.
use Rattle.std.specs.Prelude.{◌≡◌, ℕ, ◌+◌, List, [], ◌∷◌, length, Option, None, Some}
use Rattle.std.specs.List.{flat_map}
use Rattle.css_matching.specs.ListTrees.{spot}
use Rattle.css_selector_text.specs.Components.{Selector}
use Rattle.css_index.specs.Found.{AreMatches}
use Rattle.css_sheet.specs.SheetOrder.{SheetRuleText}
use Rattle.css_explain.specs.Explanations.{ExplainedText, explanation}
use Rattle.css_explain.specs.declared.criterion.Criterion.{Criterion}
use Rattle.css_explain.specs.declared.criterion.Criterion.TheVariants.{OriginAndImportance, StyleAttribute, Layers, Specificity, Order}
use Rattle.css_tree.specs.Pages.{Page, page_document}
use Rattle.call_answers.specs.AnswerLines.{AreLinesWithin}
use Rattle.page_calls.specs.Ranges.{count_in}
use Rattle.page_calls.specs.declared.modern.ranges.ElementRange.{ElementRange}
use Rattle.simplecss_calls.specs.WinnerNumbers.{own_at, selectors_read, source_number}

-- the number of a criterion, in their order, or 0 if there is none
abbrev pub criterion_number : Option Criterion → ℕ
criterion_number None = 0
criterion_number (Some OriginAndImportance) = 1
criterion_number (Some StyleAttribute) = 2
criterion_number (Some Layers) = 3
criterion_number (Some Specificity) = 4
criterion_number (Some Order) = 5

-- Three numbers of a declaration: of where it is, among this number of rules; of its place there; and of the
-- criterion by which it loses to the one before it.
abbrev pub explained_numbers : (rules : ℕ) → ExplainedText → List ℕ
explained_numbers rules one =
    source_number rules one.contender.source ∷ one.contender.place ∷ criterion_number one.lost_by ∷ []

-- how many declarations there are, and the numbers of each
abbrev pub explained_line : (rules : ℕ) → List ExplainedText → List ℕ
explained_line rules all = length all ∷ flat_map (explained_numbers rules) all

-- those of the declarations of the property of these names that apply to the element at an index, the strongest first:
-- of the rules whose selectors match it, and of two texts of its own
abbrev pub IsExplainedBy : (names : List (List ℕ)) → (texts : List (List ℕ)) → List Selector → List SheetRuleText
    → Page → ℕ → List ℕ → Type 0
IsExplainedBy names texts selectors rules page index numbers =
    (indices : List ℕ) × AreMatches page_document (spot page index) selectors indices
    × (numbers ≡ explained_line (length rules) (explanation rules indices (own_at texts index) names))

-- those of the elements of a range, in order, within a limit on how many these are
abbrev pub AreExplainedBy : (names : List (List ℕ)) → (texts : List (List ℕ)) → (most : ℕ) → ElementRange
    → List Selector → List SheetRuleText → Page → Option (List ℕ) → Type 0
AreExplainedBy names texts most range selectors rules page =
    AreLinesWithin most (λ index. IsExplainedBy names texts selectors rules page (range.from + index))
    (count_in range (length page.rows))

-- the same where a document reads selectors in this way
abbrev pub AreExplained : (names : List (List ℕ)) → (texts : List (List ℕ)) → (most : ℕ) → ElementRange
    → (Selector → Selector) → List SheetRuleText → Page → Option (List ℕ) → Type 0
AreExplained names texts most range read rules =
    AreExplainedBy names texts most range (selectors_read read rules) rules
