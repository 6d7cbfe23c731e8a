-- What a call over a tree answers, and one with a limit on its answer.
-- Serves `port::{matches, select, match_selectors, styles}`.
use Rattle.std.proofs.Common.{◌≡◌, ◌<◌, ◌≤◌, ℕ, List, length, Option, None, Some, inl, inr, sym, ap, ◌∙◌, subst}
use Rattle.std.specs.Prelude.{Vec, Result, Ok, Err, MatchResult, string_bytes}
use Rattle.std.specs.Result.{IsErrAnd}
use Rattle.std.specs.declared.string.String.{String}
use Rattle.std.specs.Str.{IsUtf8}
use Rattle.simplecss.specs.Components.{Component}
use Rattle.simplecss.specs.SelectorLists.{list_of}
use Rattle.simplecss.specs.Statements.{StyleRule}
use Rattle.simplecss.specs.ThisEdition.{this_edition}
use Rattle.css_elements.specs.Rows.{Row}
use Rattle.cssq.specs.SelectorRuns.{selector_in}
use Rattle.call_answers.specs.declared.answer.CallError.{CallError}
use Rattle.call_answers.specs.declared.answer.CallError.TheVariants.{Refused, Tree, Memory, TooManyDeclarations, NotUtf8, AnswerTooLong, TooManyLayers}
use Rattle.call_answers.specs.Outcomes.{outcome_of, numbers_outcome}
use Rattle.call_answers.specs.declared.pages.LineContent.TheVariants.{Numbers, Selected}
use Rattle.call_answers.specs.Calls.{FailsOnPage, HasTexts, IsReadPage, Passed, passed_tree, IsPageCall, IsPortSelectCall, IsPortMatchSelectorsCall, AreSelectorsIn, HasNoSelector, HasBadEnds, IsBrokenUtf8, FailsFor, FailsLonger}
use Rattle.call_answers.specs.AnswerLines.{AreLinesOf}
use Rattle.call_answers.proofs.Limits.{fails_within, within_wider, longer_wider}

-- the lines that are due, or why there are none
pub page_due : {Z : Type 0} (IsAnswer : List StyleRule → List Row → Option (List ℕ) → Type 0)
    (buffer ends : List ℕ) (limit : ℕ) (passed : Passed) (rules : List StyleRule) (rows : List Row)
    → IsReadPage buffer ends limit passed rules rows → (same : List StyleRule) → same ≡ rules
    → (r : Result (String Z) CallError)
    → MatchResult r (λ text. IsAnswer same rows (Some (string_bytes text)))
    (FailsLonger (IsAnswer same rows None))
    → IsPageCall IsAnswer buffer ends limit passed (outcome_of r)
page_due IsAnswer buffer ends limit passed rules rows read same is (Ok text) due =
    (rules, rows, read, subst (λ rules. IsAnswer rules rows (Some (string_bytes text))) is due)
page_due IsAnswer buffer ends limit passed rules rows read same is (Err failure) due =
    longer_wider _ _ _ _ (λ longer.
    (rules, rows, read, subst (λ rules. IsAnswer rules rows None) is longer)) failure due

-- why texts or a tree are none
pub page_failed : {Z : Type 0} (IsAnswer : List StyleRule → List Row → Option (List ℕ) → Type 0)
    (buffer ends : List ℕ) (limit : ℕ) (passed : Passed) (r : Result (String Z) CallError)
    (failure : CallError) → IsErrAnd r (λ reported. reported ≡ failure)
    → FailsOnPage buffer ends limit passed ⊥ failure
    → IsPageCall IsAnswer buffer ends limit passed (outcome_of r)
page_failed IsAnswer buffer ends limit passed (Ok text) failure is due = absurd is
page_failed IsAnswer buffer ends limit passed (Err reported) failure is due =
    subst (λ f. IsPageCall IsAnswer buffer ends limit passed (Err f)) (sym is)
    (within_wider (λ bad. bad) (λ fault is. is) (λ broken. broken) (λ over. over) (λ is. absurd is)
    failure due)

-- the lines that are due for a list of selectors, or why there are none
pub select_due : {Z : Type 0} (most : ℕ) (text : List ℕ) (passed : Passed)
    (selectors : List (List Component)) (rows : List Row)
    → IsUtf8 text → list_of this_edition text ≡ Some selectors → IsUtf8 passed.strings
    → passed_tree passed ≡ Ok rows
    → (matched : List (List Component)) → matched ≡ selectors
    → (r : Result (String Z) CallError)
    → MatchResult r (λ text. AreLinesOf most Selected matched rows (Some (string_bytes text)))
    (FailsLonger (AreLinesOf most Selected matched rows None))
    → IsPortSelectCall most text passed (outcome_of r)
select_due most text passed selectors rows utf8 is strings tree matched are (Ok lines) due = (
  selectors,
  rows,
  utf8,
  is,
  strings,
  tree,
  subst (λ ss. AreLinesOf most Selected ss rows (Some (string_bytes lines))) are due,
)
select_due most text passed selectors rows utf8 is strings tree matched are (Err failure) due =
    longer_wider _ _ _ _ (λ longer. (
      selectors,
      rows,
      utf8,
      is,
      strings,
      tree,
      subst (λ ss. AreLinesOf most Selected ss rows None) are longer,
    )) failure due

-- the lines that are due for selectors, or why there are none
pub match_due : {Z : Type 0} (most : ℕ) (buffer ends : List ℕ) (passed : Passed)
    (texts : List (List ℕ)) (rows : List Row) → HasTexts buffer ends texts
    → (selectors : List (List Component)) → AreSelectorsIn selector_in texts selectors
    → IsUtf8 passed.strings → passed_tree passed ≡ Ok rows
    → (matched : List (List Component)) → matched ≡ selectors
    → (r : Result (String Z) CallError)
    → MatchResult r (λ text. AreLinesOf most Numbers matched rows (Some (string_bytes text)))
    (FailsLonger (AreLinesOf most Numbers matched rows None))
    → IsPortMatchSelectorsCall most buffer ends passed (outcome_of r)
match_due most buffer ends passed texts rows has selectors read utf8 tree matched are (Ok lines) due = (
  texts,
  selectors,
  rows,
  has,
  read,
  utf8,
  tree,
  subst (λ ss. AreLinesOf most Numbers ss rows (Some (string_bytes lines))) are due,
)
match_due most buffer ends passed texts rows has selectors read utf8 tree matched are (Err failure) due =
    longer_wider _ _ _ _ (λ longer. (
      texts,
      selectors,
      rows,
      has,
      read,
      utf8,
      tree,
      subst (λ ss. AreLinesOf most Numbers ss rows None) are longer,
    )) failure due

-- why the texts of selectors are none
pub texts_failed : (most : ℕ) (buffer ends : List ℕ) (passed : Passed) (failure : CallError)
    → FailsFor (HasBadEnds buffer ends) (λ fault. ⊥) (IsBrokenUtf8 buffer ends) failure
    → IsPortMatchSelectorsCall most buffer ends passed (Err failure)
texts_failed most buffer ends passed failure h =
    within_wider (λ bad. inl bad) (λ fault is. absurd is) (λ broken. inl broken) (λ is. absurd is)
    (λ is. absurd is) failure
    (fails_within (HasBadEnds buffer ends) (λ fault. ⊥) (IsBrokenUtf8 buffer ends) ⊥ ⊥ failure h)

-- why the texts are no selectors
pub selectors_failed : (most : ℕ) (buffer ends : List ℕ) (passed : Passed) (texts : List (List ℕ))
    → HasTexts buffer ends texts → (failure : CallError)
    → FailsFor (HasNoSelector selector_in texts) (λ fault. ⊥) ⊥ failure
    → IsPortMatchSelectorsCall most buffer ends passed (Err failure)
selectors_failed most buffer ends passed texts has failure h =
    within_wider (λ none. inr (texts, has, none)) (λ fault is. absurd is) (λ is. absurd is)
    (λ is. absurd is) (λ is. absurd is) failure
    (fails_within (HasNoSelector selector_in texts) (λ fault. ⊥) ⊥ ⊥ ⊥ failure h)

-- why the tree is none
pub tree_failed : (most : ℕ) (buffer ends : List ℕ) (passed : Passed) (failure : CallError)
    → FailsFor ⊥ (λ fault. passed_tree passed ≡ Err fault) (¬ (IsUtf8 passed.strings)) failure
    → IsPortMatchSelectorsCall most buffer ends passed (Err failure)
tree_failed most buffer ends passed failure h =
    within_wider (λ is. absurd is) (λ fault is. is) (λ broken. inr broken) (λ is. absurd is)
    (λ is. absurd is) failure
    (fails_within ⊥ (λ fault. passed_tree passed ≡ Err fault) (¬ (IsUtf8 passed.strings)) ⊥ ⊥
    failure h)

-- a failure that is handed on
pub failed : {Z : Type 0} (most : ℕ) (buffer ends : List ℕ) (passed : Passed)
    (r : Result (String Z) CallError)
    (failure : CallError) → IsErrAnd r (λ reported. reported ≡ failure)
    → IsPortMatchSelectorsCall most buffer ends passed (Err failure)
    → IsPortMatchSelectorsCall most buffer ends passed (outcome_of r)
failed most buffer ends passed (Ok text) failure is due = absurd is
failed most buffer ends passed (Err reported) failure is due =
    subst (λ f. IsPortMatchSelectorsCall most buffer ends passed (Err f)) (sym is) due
