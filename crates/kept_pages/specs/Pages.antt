-- What pages are that are kept, and what they answer.
use Rattle.std.specs.Prelude.{◌≡◌, ℕ, zero, suc, List, Option, None, Some, Result, Ok, Err}
use Rattle.std.specs.Str.{IsUtf8}
use Rattle.css_selector_text.specs.Names.{Names}
use Rattle.css_elements.specs.Rows.{Row}
use Rattle.css_tree.specs.Pages.{Page, with_scope}
use Rattle.css_tree.specs.TreeNumbers.{unasked}
use Rattle.call_answers.specs.Calls.{FailsFor, passed_declared, passed_spaced, passed_states, passed_tree}
use Rattle.call_answers.specs.declared.answer.CallError.{CallError}
use Rattle.page_calls.specs.ModernLines.{page_with}
use Rattle.page_calls.specs.Ranges.{IsRangeSelected}
use Rattle.page_calls.specs.declared.modern.document_kind.DocumentKind.{DocumentKind}
use Rattle.page_calls.specs.declared.modern.ranges.ElementRange.{ElementRange}
use Rattle.kept_pages.specs.Sources.{PageSource}
use Rattle.kept_pages.specs.declared.read_page.Selection.{Selection}

-- a page: how its document reads the names of selectors, what it declares for them, and its elements
pub record PageText : Type 0 where
  pub kind : DocumentKind
  pub names : Names
  pub page : Page

-- The page of a tree with these elements, of which no question is asked. Which element `:scope` matches belongs to a
-- question, whatever the states of the elements say of it.
abbrev pub page_made_of : PageSource → List Row → PageText
page_made_of source rows = record {
  kind = source.kind;
  names = passed_declared source.passed;
  page = unasked
      (page_with source.kind (passed_states source.passed) (passed_spaced source.passed) source.passed.elements rows);
}

-- the page is that of the tree
abbrev pub IsPageOf : PageSource → PageText → Type 0
IsPageOf source text =
    (rows : List Row) × IsUtf8 source.passed.strings × (passed_tree source.passed ≡ Ok rows)
    × (text ≡ page_made_of source rows)

-- why the tree has no page: it has a fault, its strings are not UTF-8, or an allocation failed
abbrev pub IsNoPage : PageSource → CallError → Type 0
IsNoPage source =
    FailsFor ⊥ (λ fault. passed_tree source.passed ≡ Err fault) (¬ (IsUtf8 source.passed.strings))

-- ---- questions

-- a list of selectors, the number of the element that `:scope` matches, the elements that are asked for, and how many
-- numbers there may be
pub record Question : Type 0 where
  pub selectors : List ℕ
  pub scope : ℕ
  pub range : ElementRange
  pub most : ℕ

abbrev pub question : List ℕ → (scope from to most : ℕ) → Question
question selectors scope from to most = record {
  selectors = selectors;
  scope = scope;
  range = record { from = from; to = to };
  most = most;
}

abbrev pub question_of : Selection → Question
question_of asked = record {
  selectors = asked.selectors.now;
  scope = asked.scope;
  range = asked.range;
  most = asked.most;
}

-- The index of the element of a number, which is counted from 1. 0 is the number of none, and then `:scope` matches the
-- root.
abbrev pub scope_of : ℕ → Option ℕ
scope_of zero = None
scope_of (suc index) = Some index

-- the page on which `:scope` matches the element of a number
abbrev pub scoped : Page → ℕ → Page
scoped page number = record {
  rows = page.rows;
  given = with_scope page.given (scope_of number);
  marks = page.marks;
  is_html = page.is_html;
}

-- which elements of the range the selectors match on the page
abbrev pub IsSelectedOn : Question → PageText → Result (List ℕ) CallError → Type 0
IsSelectedOn asked text =
    IsRangeSelected asked.most asked.range text.kind text.names asked.selectors (scoped text.page asked.scope)

-- the same of the page of a tree
abbrev pub IsSelected : Question → PageSource → Result (List ℕ) CallError → Type 0
IsSelected asked source outcome =
    (rows : List Row) × (passed_tree source.passed ≡ Ok rows)
    × IsSelectedOn asked (page_made_of source rows) outcome
