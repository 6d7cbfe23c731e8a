-- The numbers of the elements of a range, and why there are none.
-- Serves `modern::ranges::{push_number, select_range}`.
use Rattle.std.proofs.Common.{◌≡◌, ℕ, List, None, Some, sym, subst, ap, ◌∙◌}
use Rattle.std.specs.Prelude.{Vec, Result, Ok, Err, MatchResult}
use Rattle.std.specs.Result.{IsErrAnd}
use Rattle.std.specs.Str.{IsUtf8}
use Rattle.css_selector_text.specs.Components.{Selector}
use Rattle.css_selector_text.specs.Names.{Names}
use Rattle.css_selectors.specs.Numberings.{no_lists, numbered_selectors}
use Rattle.css_tree.specs.Pages.{Page}
use Rattle.call_answers.specs.Calls.{FailsFor, FailsLonger}
use Rattle.call_answers.specs.Outcomes.{numbers_outcome}
use Rattle.call_answers.specs.declared.answer.CallError.{CallError}
use Rattle.call_answers.proofs.Limits.{fails_within, within_wider, longer_wider}
use Rattle.page_calls.specs.Ranges.{AreNumbered, IsRangeSelected}
use Rattle.page_calls.specs.Readings.{selectors_of}
use Rattle.page_calls.specs.declared.modern.document_kind.DocumentKind.{DocumentKind}
use Rattle.page_calls.specs.declared.modern.ranges.ElementRange.{ElementRange}

-- the numbers that are due for a list of selectors
pub range-due : {Z : Type 0} (most : ℕ) (range : ElementRange) (kind : DocumentKind) (names : Names) (text : List ℕ)
    (page : Page) (selectors : List Selector) → IsUtf8 text → selectors_of names text ≡ Some selectors
    → (r : Result (Vec ℕ Z) CallError)
    → MatchResult r
    (λ numbers. AreNumbered most range kind (numbered_selectors no_lists selectors) page (Some numbers.items))
    (FailsLonger (AreNumbered most range kind (numbered_selectors no_lists selectors) page None))
    → IsRangeSelected most range kind names text page (numbers_outcome r)
range-due most range kind names text page selectors utf8 is (Ok numbers) due = (selectors, utf8, is, due)
range-due most range kind names text page selectors utf8 is (Err error) due =
    longer_wider _ _ _ _ (λ longer. (selectors, utf8, is, longer)) error due

-- why the text is no list
pub list-failed : {Z : Type 0} (most : ℕ) (range : ElementRange) (kind : DocumentKind) (names : Names)
    (text read : List ℕ) (page : Page) → read ≡ text → (r : Result (Vec ℕ Z) CallError) (error : CallError)
    → IsErrAnd r (λ reported. reported ≡ error)
    → FailsFor (selectors_of names read ≡ None) (λ fault. ⊥) ⊥ error
    → IsRangeSelected most range kind names text page (numbers_outcome r)
list-failed most range kind names text read page same (Ok numbers) error is h = absurd is
list-failed most range kind names text read page same (Err reported) error is h =
    subst (λ e. IsRangeSelected most range kind names text page (Err e)) (sym is)
    (within_wider (λ none. ap (selectors_of names) (sym same) ∙ none) (λ fault is. absurd is)
    (λ is. absurd is) (λ is. is) (λ is. absurd is) error
    (fails_within (selectors_of names read ≡ None) (λ fault. ⊥) ⊥ ⊥ ⊥ error h))
