-- What the visits of a copy and of the query that was read of it do.
use Rattle.std.specs.Prelude.{Option, None, Some, ◌≡◌, Result, Ok, Err}
use Rattle.call_answers.specs.declared.answer.CallError.{CallError}
use Rattle.kept_queries.specs.Queries.{IsNoQuery, IsQueryOf, QueryText}
use Rattle.kept_queries.specs.Sources.{QuerySource}

-- the query is that of what it is made of
abbrev pub HoldsQuery : QuerySource → Option QueryText → Type 0
HoldsQuery source None = ⊥
HoldsQuery source (Some query) = IsQueryOf source query

-- it was read, or there is no query, or an allocation failed
abbrev pub IsRead : QuerySource → Option QueryText → Result (Unit {0}) CallError → Type 0
IsRead source query (Ok _) = HoldsQuery source query
IsRead source query (Err error) = (query ≡ None) × IsNoQuery source error

-- what is there answers
abbrev pub AnswersAs : {A : Type 0} → (QueryText → A → Type 0) → Option QueryText → Option A → Type 0
AnswersAs IsAnswer None None = Unit {0}
AnswersAs IsAnswer None (Some _) = ⊥
AnswersAs IsAnswer (Some query) None = ⊥
AnswersAs IsAnswer (Some query) (Some answer) = IsAnswer query answer

-- the answer is one of the query of what it is made of
abbrev pub IsAnsweredBy : {A : Type 0} → (QueryText → A → Type 0) → QuerySource → A → Type 0
IsAnsweredBy IsAnswer source answer = (query : QueryText) × IsQueryOf source query × IsAnswer query answer

-- a query answers, and where there is none there is no answer
abbrev pub IsAnsweredIfOpen : {A : Type 0} → (QueryText → A → Type 0) → Option QuerySource → Option A → Type 0
IsAnsweredIfOpen IsAnswer None None = Unit {0}
IsAnsweredIfOpen IsAnswer None (Some answer) = ⊥
IsAnsweredIfOpen IsAnswer (Some source) None = ⊥
IsAnsweredIfOpen IsAnswer (Some source) (Some answer) = IsAnsweredBy IsAnswer source answer
