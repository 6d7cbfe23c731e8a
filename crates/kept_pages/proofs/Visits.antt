-- What is there answers.
-- Serves `KeptPage::select` and `PageHandle::select`.
use Rattle.std.proofs.Common.{◌≡◌, ℕ, Vec, Option, None, Some, subst, ap, sym, ◌∙◌}
use Rattle.std.specs.Prelude.{Result}
use Rattle.call_answers.specs.Outcomes.{numbers_outcome}
use Rattle.call_answers.specs.declared.answer.CallError.{CallError}
use Rattle.page_calls.specs.declared.modern.document_kind.DocumentKind.{DocumentKind}
use Rattle.kept_pages.specs.Objects.{IsOpen, kept_source}
use Rattle.kept_pages.specs.Pages.{IsSelected, IsSelectedOn, PageText, Question}
use Rattle.kept_pages.specs.Sources.{PageSource, made_of}
use Rattle.kept_pages.specs.Visits.{AnswersAs, HoldsPage, IsSelectedIfOpen}
use Rattle.kept_pages.specs.declared.kept.Kept.{Kept}

-- the page of a tree answers as what is asked of the tree
answered : {Z : Type 0} (asked : Question) (source : PageSource) (o : Option PageText)
    (answer : Option (Result (Vec ℕ Z) CallError)) (x : Result (Vec ℕ Z) CallError) → HoldsPage source o
    → AnswersAs asked o answer → answer ≡ Some x → IsSelected asked source (numbers_outcome x)
answered asked source None answer x holds answers e = absurd holds
answered asked source (Some page) None x holds answers e = absurd answers
answered asked source (Some page) (Some y) x holds answers e =
    (let same : y ≡ x = cc in (
      holds.0,
      holds.2,
      subst (λ r. IsSelectedOn asked r (numbers_outcome x)) holds.3
          (subst (λ r. IsSelectedOn asked page (numbers_outcome r)) same answers),
    ))

pub page-asked : {Z : Type 0} (asked : Question) (kind : DocumentKind) (source : PageSource) (o : Option Kept) (kept : Kept)
    (answer : Option (Result (Vec ℕ Z) CallError)) (x : Result (Vec ℕ Z) CallError) → o ≡ Some kept
    → kept_source kind o ≡ source → IsOpen kind o → AnswersAs asked kept.value answer → answer ≡ Some x
    → IsSelected asked source (numbers_outcome x)
page-asked asked kind source o kept answer x is is_source holds answers e =
    subst (λ s. IsSelected asked s (numbers_outcome x)) (ap (kept_source kind) (sym is) ∙ is_source)
    (answered asked (made_of kind kept.read_of) kept.value answer x (subst (IsOpen kind) is holds) answers e)

pub asked-if-open : {Z : Type 0} (asked : Question) (o : Option PageSource) (source : PageSource)
    (x : Result (Vec ℕ Z) CallError) → o ≡ Some source → IsSelected asked source (numbers_outcome x)
    → IsSelectedIfOpen asked o (Some x)
asked-if-open asked None source x e answers = absurd (cc)
asked-if-open asked (Some other) source x e answers =
    (let same : source ≡ other = cc in subst (λ s. IsSelected asked s (numbers_outcome x)) same answers)
