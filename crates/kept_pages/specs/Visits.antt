-- What the visits of a copy of a tree and its page do.
use Rattle.std.specs.Prelude.{ℕ, Vec, Option, None, Some, ◌≡◌, Result, Ok, Err}
use Rattle.call_answers.specs.Outcomes.{numbers_outcome}
use Rattle.call_answers.specs.declared.answer.CallError.{CallError}
use Rattle.kept_pages.specs.Pages.{IsNoPage, IsPageOf, IsSelected, IsSelectedOn, PageText, Question}
use Rattle.kept_pages.specs.Sources.{PageSource}

-- the page is that of the tree
abbrev pub HoldsPage : PageSource → Option PageText → Type 0
HoldsPage source None = ⊥
HoldsPage source (Some page) = IsPageOf source page

-- the tree was read, or it has no page, or an allocation failed
abbrev pub IsRead : PageSource → Option PageText → Result (Unit {0}) CallError → Type 0
IsRead source page (Ok _) = HoldsPage source page
IsRead source page (Err error) = (page ≡ None) × IsNoPage source error

-- what is there answers
abbrev pub AnswersAs : {Z : Type 0} → Question → Option PageText → Option (Result (Vec ℕ Z) CallError) → Type 0
AnswersAs asked None None = Unit {0}
AnswersAs asked None (Some answer) = ⊥
AnswersAs asked (Some page) None = ⊥
AnswersAs asked (Some page) (Some answer) = IsSelectedOn asked page (numbers_outcome answer)

-- a page answers, and where there is none there is no answer
abbrev pub IsSelectedIfOpen : {Z : Type 0} → Question → Option PageSource → Option (Result (Vec ℕ Z) CallError) → Type 0
IsSelectedIfOpen asked None None = Unit {0}
IsSelectedIfOpen asked None (Some answer) = ⊥
IsSelectedIfOpen asked (Some source) None = ⊥
IsSelectedIfOpen asked (Some source) (Some answer) = IsSelected asked source (numbers_outcome answer)
