-- What is written of modern selectors, and of the elements that they match.
use Rattle.std.specs.Prelude.{◌≡◌, ℕ, Bool, true, false, ◌+◌, List, [], ◌++◌, codes, length, map, Option, if◌then◌else◌, ◌==◌}
use Rattle.std.specs.Str.{IsCharBoundary}
use Rattle.css_text.specs.Errors.{position_of}
use Rattle.css_text.specs.Reading.{rest_offset}
use Rattle.css_text.specs.declared.TextPos.{TextPos}
use Rattle.css_selector_text.specs.Components.{Selector}
use Rattle.css_selectors.specs.Documents.{NamespacedAttribute}
use Rattle.css_selector_text.specs.reading.Readings.{Reading as Reads, got, refused}
use Rattle.css_selector_text.specs.RefusalWords.{quote, why_words}
use Rattle.css_selector_text.specs.declared.refusal.Why.{Why}
use Rattle.css_index.specs.Found.{AreMatches}
use Rattle.css_tree.specs.Pages.{Page, NamedState, page_document}
use Rattle.css_matching.specs.ListTrees.{spot}
use Rattle.css_elements.specs.Rows.{Row}
use Rattle.call_answers.specs.declared.elements.TreeElement.{TreeElement}
use Rattle.page_calls.specs.declared.modern.document_kind.DocumentKind.{DocumentKind}
use Rattle.page_calls.specs.declared.modern.document_kind.DocumentKind.TheVariants.{AsWritten, Html}
use Rattle.call_answers.specs.declared.pages.LineContent.{LineContent}
use Rattle.call_answers.specs.AnswerLines.{indices_line, AreLinesWithin}
use Rattle.call_answers.specs.Elements.{has_text, scope_in}
use Rattle.call_answers.specs.Refusals.{position_text}

-- ---- refusals

-- what is quoted of the rest, and why in words
abbrev pub refusal_text : Why → (rest : List ℕ) → List ℕ
refusal_text why rest =
    if length (quote why rest) == 0
    then codes "a blank or the end of the text " ++ why_words why
    else codes "`" ++ (quote why rest ++ (codes "` " ++ why_words why))

-- Nothing of a list of selectors; of any other text the position of the rest, and why it is none.
abbrev pub IsRefusal : List ℕ → Reads (List Selector) → List ℕ → Type 0
IsRefusal text (got selectors rest) bytes = bytes ≡ []
IsRefusal text (refused why rest) bytes =
    (pos : TextPos) × (IsCharBoundary text (rest_offset text rest) → pos ≡ position_of text rest)
    × (bytes ≡ position_text pos (refusal_text why rest))

-- ---- elements

-- the document is HTML
abbrev pub is_html : DocumentKind → Bool
is_html AsWritten = false
is_html (Html mode) = true

-- The elements of a tree as a page of a document that reads selectors in this way, with these states and with
-- these attributes in namespaces, which are a list for each element.
abbrev pub page_with : DocumentKind → List NamedState → List (List NamespacedAttribute) → List TreeElement
    → List Row → Page
page_with kind states attributes elements rows = record {
  rows = rows;
  given = record {
    texts = map has_text elements;
    scope = scope_in elements;
    states = states;
    namespaces = map (λ element. element.namespace) elements;
    attributes = attributes;
  };
  marks = [];
  is_html = is_html kind;
}

-- the line of the element at an index, by the indices of the selectors that match it, in order
abbrev pub IsModernLine : LineContent → List Selector → Page → ℕ → List ℕ → Type 0
IsModernLine content selectors page index bytes =
    (indices : List ℕ) × AreMatches page_document (spot page index) selectors indices
    × (bytes ≡ indices_line content (index + 1) indices)

-- the lines of all elements, in order
abbrev pub AreModernLines : (most : ℕ) → LineContent → List Selector → Page → Option (List ℕ)
    → Type 0
AreModernLines most content selectors page =
    AreLinesWithin most (IsModernLine content selectors page) (length page.rows)
