-- What the calls on pages that are kept must write, and when they fail.
use Rattle.std.specs.Prelude.{◌≡◌, ℕ, List, Option, None, Some, Err}
use Rattle.call_answers.specs.Answers.{IsAnswered, IsFaultSet, status_of}
use Rattle.call_answers.specs.Calls.{Passed}
use Rattle.call_answers.specs.declared.answer.CallError.{CallError}
use Rattle.call_answers.specs.declared.answer.TreeFault.{TreeFault}
use Rattle.page_calls.specs.declared.modern.document_kind.DocumentKind.{DocumentKind}
use Rattle.kept_pages.specs.Pages.{IsNoPage, IsSelected, Question}
use Rattle.kept_pages.specs.Sources.{PageSource, page_source}

-- the page is there, or the status and the fault say why there is none
abbrev pub IsMadeOf : PageSource → (status : ℕ) → Option PageSource → (old new : TreeFault) → Type 0
IsMadeOf source status None old new =
    (error : CallError) × IsNoPage source error × (status ≡ status_of error) × IsFaultSet (Err error) old new
IsMadeOf source status (Some kept) old new = (status ≡ 0) × (kept ≡ source) × (new ≡ old)

-- the same of a tree whose document reads selectors in a way, if there is one: else the tree is refused
abbrev pub IsMade : Option DocumentKind → Passed → (status : ℕ) → Option PageSource → (old new : TreeFault) → Type 0
IsMade None passed status kept old new = (status ≡ 1) × (kept ≡ None) × (new ≡ old)
IsMade (Some kind) passed status kept old new = IsMadeOf (page_source kind passed) status kept old new

-- The page is answered of; or there is none: the status is 8, the buffer is unchanged, and the length is 0.
abbrev pub AnswersOfPage : Question → Option PageSource → (status : ℕ) → (old new : List ℕ) → (len : ℕ) → Type 0
AnswersOfPage asked None status old new len = (status ≡ 8) × (new ≡ old) × (len ≡ 0)
AnswersOfPage asked (Some source) status old new len = IsAnswered (IsSelected asked source) status old new len
