-- What the calls on style sheets that are kept must write, and when they fail.
use Rattle.std.specs.Prelude.{◌≡◌, ℕ, List, Option, None, Some, Result}
use Rattle.std.specs.Str.{IsUtf8}
use Rattle.call_answers.specs.Answers.{IsAnswered, status_of}
use Rattle.call_answers.specs.Calls.{FailsFor}
use Rattle.call_answers.specs.declared.answer.CallError.{CallError}
use Rattle.kept_sheets.specs.Sheets.{AreNumbersOf, IsTextOf}
use Rattle.kept_sheets.specs.declared.questions.SheetNumbers.{SheetNumbers}
use Rattle.kept_sheets.specs.declared.questions.SheetText.{SheetText}

-- the sheet is there, or the text is not UTF-8, or an allocation failed
abbrev pub IsMade : List ℕ → (status : ℕ) → Option (List ℕ) → Type 0
IsMade text status None =
    (error : CallError) × FailsFor ⊥ (λ fault. ⊥) (¬ (IsUtf8 text)) error × (status ≡ status_of error)
IsMade text status (Some kept) = (status ≡ 0) × (kept ≡ text) × IsUtf8 text

-- The sheet is asked; or there is none: the status is 8, the buffer is unchanged, and the length is 0.
abbrev pub AnswersOfSheet : (List ℕ → Result (List ℕ) CallError → Type 0) → Option (List ℕ) → (status : ℕ)
    → (old new : List ℕ) → (len : ℕ) → Type 0
AnswersOfSheet IsOutcome None status old new len = (status ≡ 8) × (new ≡ old) × (len ≡ 0)
AnswersOfSheet IsOutcome (Some text) status old new len = IsAnswered (IsOutcome text) status old new len

-- the same of numbers that are asked for, if they are: else the question is refused
abbrev pub AnswersInNumbers : Option SheetNumbers → (most : ℕ) → Option (List ℕ) → (status : ℕ) → (old new : List ℕ)
    → (len : ℕ) → Type 0
AnswersInNumbers None most sheet status old new len = (status ≡ 1) × (new ≡ old) × (len ≡ 0)
AnswersInNumbers (Some asked) most sheet status old new len =
    AnswersOfSheet (AreNumbersOf asked most) sheet status old new len

-- and of a text
abbrev pub AnswersInText : Option SheetText → Option (List ℕ) → (status : ℕ) → (old new : List ℕ) → (len : ℕ) → Type 0
AnswersInText None sheet status old new len = (status ≡ 1) × (new ≡ old) × (len ≡ 0)
AnswersInText (Some asked) sheet status old new len = AnswersOfSheet (IsTextOf asked) sheet status old new len
