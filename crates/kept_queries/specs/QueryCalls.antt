-- What the calls on queries that are kept must write, and when they fail.
use Rattle.std.specs.Prelude.{◌≡◌, ℕ, List, Option, None, Some, Result, Err}
use Rattle.call_answers.specs.Answers.{IsAnswered, IsFaultSet, status_of}
use Rattle.call_answers.specs.declared.answer.CallError.{CallError}
use Rattle.call_answers.specs.declared.answer.TreeFault.{TreeFault}
use Rattle.kept_queries.specs.Queries.{AreNumbersAsked, IsNoQuery, QueryText}
use Rattle.kept_queries.specs.Sources.{QuerySource}
use Rattle.kept_queries.specs.Visits.{IsAnsweredBy}
use Rattle.kept_queries.specs.declared.read_query.NumbersAsked.{NumbersAsked}

-- the query is there, or the status and the fault say why there is none
abbrev pub IsMadeOf : QuerySource → (status : ℕ) → Option QuerySource → (old new : TreeFault) → Type 0
IsMadeOf source status None old new =
    (error : CallError) × IsNoQuery source error × (status ≡ status_of error) × IsFaultSet (Err error) old new
IsMadeOf source status (Some kept) old new = (status ≡ 0) × (kept ≡ source) × (new ≡ old)

-- the same where there is something to make it of: else the grammar is refused
abbrev pub IsMade : Option QuerySource → (status : ℕ) → Option QuerySource → (old new : TreeFault) → Type 0
IsMade None status kept old new = (status ≡ 1) × (kept ≡ None) × (new ≡ old)
IsMade (Some source) status kept old new = IsMadeOf source status kept old new

-- The query is asked; or there is none: the status is 8, the buffer is unchanged, and the length is 0.
abbrev pub AnswersOfQuery : (QueryText → Result (List ℕ) CallError → Type 0) → Option QuerySource → (status : ℕ)
    → (old new : List ℕ) → (len : ℕ) → Type 0
AnswersOfQuery IsOutcome None status old new len = (status ≡ 8) × (new ≡ old) × (len ≡ 0)
AnswersOfQuery IsOutcome (Some source) status old new len =
    IsAnswered (IsAnsweredBy IsOutcome source) status old new len

-- the same of numbers that are asked for, if they are: else the question is refused
abbrev pub AnswersInNumbers : Option NumbersAsked → Option QuerySource → (status : ℕ) → (old new : List ℕ) → (len : ℕ)
    → Type 0
AnswersInNumbers None query status old new len = (status ≡ 1) × (new ≡ old) × (len ≡ 0)
AnswersInNumbers (Some asked) query status old new len =
    AnswersOfQuery (AreNumbersAsked asked) query status old new len
