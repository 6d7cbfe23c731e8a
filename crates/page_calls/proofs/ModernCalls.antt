-- What a call for modern selectors answers.
-- Serves `modern::{refusal, page_lines, match_selectors}`.
use Rattle.std.proofs.Common.{◌≡◌, ℕ, List, Option, None, Some, length, inl, inr, sym, ap, subst, ◌∙◌}
use Rattle.std.specs.Prelude.{Result, Ok, Err, MatchResult, string_bytes}
use Rattle.std.specs.declared.string.String.{String}
use Rattle.std.specs.Str.{IsUtf8}
use Rattle.css_sheet.specs.RuleSelectors.{selector_of}
use Rattle.css_selectors.specs.Documents.{NamespacedAttribute}
use Rattle.css_selector_text.specs.Names.{Names}
use Rattle.css_selector_text.specs.Components.{Selector}
use Rattle.css_selectors.specs.Numberings.{no_lists, numbered_selectors}
use Rattle.css_selector_text.specs.reading.Supported.{supported_list}
use Rattle.css_tree.specs.Pages.{Page}
use Rattle.css_elements.specs.Rows.{Row}
use Rattle.call_answers.specs.declared.answer.CallError.{CallError}
use Rattle.call_answers.specs.declared.answer.CallError.TheVariants.{Memory, NotUtf8}
use Rattle.page_calls.specs.declared.modern.document_kind.DocumentKind.{DocumentKind}
use Rattle.call_answers.specs.declared.pages.LineContent.{LineContent}
use Rattle.call_answers.specs.declared.pages.LineContent.TheVariants.{Numbers}
use Rattle.call_answers.specs.Outcomes.{outcome_of}
use Rattle.call_answers.specs.Elements.{attributes_by, named_states}
use Rattle.call_answers.specs.Calls.{FailsFor, FailsWithin, FailsLonger, HasTexts, HasNoSelector, AreSelectorsIn, HasBadEnds, IsBrokenUtf8, Passed, passed_tree, passed_names, passed_states, passed_attributes, passed_spaced, passed_declared}
use Rattle.page_calls.specs.ModernCalls.{AreNumberedLines, AreReadLines, IsModernRefusalCall, IsModernMatchCall}
use Rattle.page_calls.specs.ModernLines.{IsRefusal, page_with}
use Rattle.page_calls.proofs.ModernPages.{fails_wider}
use Rattle.call_answers.proofs.Limits.{fails_within, within_wider, longer_wider}

-- why there are no lines of a tree that is read
abbrev pub ReadFails : Passed → (IsLonger : Type 0) → CallError → Type 0
ReadFails passed IsLonger =
    FailsWithin ⊥ (λ fault. passed_tree passed ≡ Err fault) (¬ (IsUtf8 passed.strings)) ⊥ IsLonger

-- the lines, or why there are none
abbrev pub ReadLines : {Z : Type 0} → Result (String Z) CallError → (Option (List ℕ) → Type 0)
    → Passed → Type 0
ReadLines r IsAnswer passed =
    MatchResult r (λ text. IsAnswer (Some (string_bytes text)))
    (ReadFails passed (IsAnswer None))

-- the lines that are due for a page
lines-due : {Z : Type 0} (most : ℕ) (content : LineContent) (kind : DocumentKind)
    (selectors : List Selector) (passed : Passed) (rows : List Row) (page : Page) → IsUtf8 passed.strings → passed_tree passed ≡ Ok rows
    → page ≡ page_with kind (passed_states passed) (passed_spaced passed) passed.elements rows
    → (r : Result (String Z) CallError)
    → MatchResult r (λ text. AreNumberedLines most content kind (numbered_selectors no_lists selectors) page
    (Some (string_bytes text)))
    (FailsLonger (AreNumberedLines most content kind (numbered_selectors no_lists selectors) page None))
    → ReadLines r (AreReadLines most content kind selectors passed) passed
lines-due most content kind selectors passed rows page utf8 tree same (Ok text) due = (
  rows,
  utf8,
  tree,
  subst (λ p. AreNumberedLines most content kind (numbered_selectors no_lists selectors) p
      (Some (string_bytes text))) same due,
)
lines-due most content kind selectors passed rows page utf8 tree same (Err error) due =
    longer_wider _ _ _ _ (λ longer. (
      rows,
      utf8,
      tree,
      subst (λ p. AreNumberedLines most content kind (numbered_selectors no_lists selectors) p None) same
          longer,
    )) error due

-- the refusal of a text that was read, where a tree declares these names
pub refusal-due : {Z : Type 0} (text read : List ℕ) (passed : Passed) (names : Names) (rows : List Row)
    → read ≡ text → IsUtf8 text → IsUtf8 passed.strings → passed_tree passed ≡ Ok rows
    → names ≡ passed_declared passed → (r : Result (String Z) CallError)
    → MatchResult r (λ refusal. IsRefusal read (supported_list names read) (string_bytes refusal))
    (λ error. error ≡ Memory)
    → IsModernRefusalCall text passed (outcome_of r)
refusal-due text read passed names rows same utf8 strings tree declared (Ok refusal) due = (
  rows,
  utf8,
  strings,
  tree,
  subst (λ n. IsRefusal text (supported_list n text) (string_bytes refusal)) declared
      (subst (λ t. IsRefusal t (supported_list names t) (string_bytes refusal)) same due),
)
refusal-due text read passed names rows same utf8 strings tree declared (Err error) due =
    subst (λ e. IsModernRefusalCall text passed (Err e)) (sym due) tt

-- why the text is none, or the tree
pub refusal-text-failed : (text : List ℕ) (passed : Passed) → ¬ (IsUtf8 text)
    → IsModernRefusalCall text passed (Err NotUtf8)
refusal-text-failed text passed broken = inl broken

pub refusal-tree-failed : (text : List ℕ) (passed : Passed) (error : CallError)
    → FailsFor ⊥ (λ fault. passed_tree passed ≡ Err fault) (¬ (IsUtf8 passed.strings)) error
    → IsModernRefusalCall text passed (Err error)
refusal-tree-failed text passed error h =
    fails_wider (λ is. is) (λ fault is. is) (λ broken. inr broken) error h

-- the lines that are due for the selectors of texts
pub match-due : {Z : Type 0} (most : ℕ) (buffer ends : List ℕ) (kind : DocumentKind) (passed : Passed)
    (texts : List (List ℕ)) (selectors : List Selector) → HasTexts buffer ends texts
    → AreSelectorsIn selector_of texts selectors → (r : Result (String Z) CallError)
    → ReadLines r (AreReadLines most Numbers kind selectors passed) passed
    → IsModernMatchCall most buffer ends kind passed (outcome_of r)
match-due most buffer ends kind passed texts selectors has read (Ok text) due =
    (texts, selectors, has, read, due)
match-due most buffer ends kind passed texts selectors has read (Err error) due =
    within_wider (λ is. absurd is) (λ fault is. is) (λ broken. inr broken) (λ is. is)
    (λ longer. (texts, selectors, has, read, longer)) error due

-- why the texts are none
pub texts-failed : (most : ℕ) (buffer ends : List ℕ) (kind : DocumentKind) (passed : Passed)
    (error : CallError)
    → FailsFor (HasBadEnds buffer ends) (λ fault. ⊥) (IsBrokenUtf8 buffer ends) error
    → IsModernMatchCall most buffer ends kind passed (Err error)
texts-failed most buffer ends kind passed error h =
    within_wider (λ bad. inl bad) (λ fault is. absurd is) (λ broken. inl broken) (λ is. is)
    (λ is. absurd is) error
    (fails_within (HasBadEnds buffer ends) (λ fault. ⊥) (IsBrokenUtf8 buffer ends) ⊥ ⊥ error h)

-- why the texts are no selectors
pub selectors-failed : (most : ℕ) (buffer ends : List ℕ) (kind : DocumentKind) (passed : Passed)
    (texts : List (List ℕ)) → HasTexts buffer ends texts → (error : CallError)
    → FailsFor (HasNoSelector selector_of texts) (λ fault. ⊥) ⊥ error
    → IsModernMatchCall most buffer ends kind passed (Err error)
selectors-failed most buffer ends kind passed texts has error h =
    within_wider (λ none. inr (texts, has, none)) (λ fault is. absurd is) (λ is. absurd is)
    (λ is. is) (λ is. absurd is) error
    (fails_within (HasNoSelector selector_of texts) (λ fault. ⊥) ⊥ ⊥ ⊥ error h)

-- a page with the names of states and the attributes that were read
abbrev pub read-page : DocumentKind → Passed → List (List ℕ) → List (ℕ × NamespacedAttribute) → List Row
    → Page
read-page kind passed names attributes rows =
    page_with kind (named_states names passed.elements) (attributes_by (length passed.elements) attributes)
    passed.elements rows

pub read-page-same : (kind : DocumentKind) (passed : Passed) (names : List (List ℕ))
    (attributes : List (ℕ × NamespacedAttribute)) (rows : List Row) → names ≡ passed_names passed
    → attributes ≡ passed_attributes passed
    → read-page kind passed names attributes rows
    ≡ page_with kind (passed_states passed) (passed_spaced passed) passed.elements rows
read-page-same kind passed names attributes rows named placed =
    ap (λ ns. read-page kind passed ns attributes rows) named
    ∙ ap (λ (all : List (ℕ × NamespacedAttribute)). read-page kind passed (passed_names passed) all rows) placed

-- the lines of a tree that was read, with the states that it names and its attributes in namespaces
pub read-due : {Z : Type 0} (most : ℕ) (content : LineContent) (kind : DocumentKind)
    (selectors : List Selector) (passed : Passed) (rows : List Row) (names : List (List ℕ))
    (attributes : List (ℕ × NamespacedAttribute))
    → IsUtf8 passed.strings → passed_tree passed ≡ Ok rows → names ≡ passed_names passed
    → attributes ≡ passed_attributes passed → (r : Result (String Z) CallError)
    → MatchResult r (λ text. AreNumberedLines most content kind (numbered_selectors no_lists selectors)
    (read-page kind passed names attributes rows) (Some (string_bytes text)))
    (FailsLonger (AreNumberedLines most content kind (numbered_selectors no_lists selectors)
    (read-page kind passed names attributes rows) None))
    → ReadLines r (AreReadLines most content kind selectors passed) passed
read-due most content kind selectors passed rows names attributes utf8 tree named placed r due =
    lines-due most content kind selectors passed rows (read-page kind passed names attributes rows) utf8 tree
    (read-page-same kind passed names attributes rows named placed) r due
