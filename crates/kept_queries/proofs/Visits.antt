-- What is there answers.
-- Serves `KeptQuery::{new, ask}` and `QueryHandle::ask`.
use Rattle.std.proofs.Common.{◌≡◌, Option, None, Some, subst, ap, sym, ◌∙◌}
use Rattle.std.specs.Prelude.{Result, Ok, Err}
use Rattle.call_answers.specs.declared.answer.CallError.{CallError}
use Rattle.kept_queries.specs.Objects.{IsOpen, kept_source}
use Rattle.kept_queries.specs.Queries.{IsNoQuery, QueryText}
use Rattle.kept_queries.specs.Sources.{QuerySource, made_of}
use Rattle.kept_queries.specs.Visits.{AnswersAs, HoldsQuery, IsAnsweredBy, IsAnsweredIfOpen, IsRead}
use Rattle.kept_queries.specs.declared.kept.Kept.{Kept}

answered : {A : Type 0} (IsAnswer : QueryText → A → Type 0) (source : QuerySource) (o : Option QueryText)
    (answer : Option A) (x : A) → HoldsQuery source o → AnswersAs IsAnswer o answer → answer ≡ Some x
    → IsAnsweredBy IsAnswer source x
answered IsAnswer source None answer x holds answers e = absurd holds
answered IsAnswer source (Some query) None x holds answers e = absurd answers
answered IsAnswer source (Some query) (Some y) x holds answers e =
    (let same : y ≡ x = cc in (query, holds, subst (IsAnswer query) same answers))

pub asked : {A : Type 0} (IsAnswer : QueryText → A → Type 0) (source : QuerySource) (o : Option Kept) (kept : Kept)
    (answer : Option A) (x : A) → o ≡ Some kept → kept_source o ≡ source → IsOpen o
    → AnswersAs IsAnswer kept.value answer → answer ≡ Some x → IsAnsweredBy IsAnswer source x
asked IsAnswer source o kept answer x is is_source holds answers e =
    subst (λ s. IsAnsweredBy IsAnswer s x) (ap kept_source (sym is) ∙ is_source)
    (answered IsAnswer (made_of kept.read_of) kept.value answer x (subst IsOpen is holds) answers e)

pub asked_if_open : {A : Type 0} (IsAnswer : QueryText → A → Type 0) (o : Option QuerySource) (source : QuerySource)
    (x : A) → o ≡ Some source → IsAnsweredBy IsAnswer source x → IsAnsweredIfOpen IsAnswer o (Some x)
asked_if_open IsAnswer None source x e answers = absurd (cc)
asked_if_open IsAnswer (Some other) source x e answers =
    (let same : source ≡ other = cc in subst (λ s. IsAnsweredBy IsAnswer s x) same answers)

-- why a copy has no query is why there is none of what was copied
pub unread : (copied source : QuerySource) (query : Option QueryText) (answer : Result (Unit {0}) CallError)
    (error : CallError) → IsRead copied query answer → answer ≡ Err error → copied ≡ source → IsNoQuery source error
unread copied source query (Ok done) error is e same = absurd (cc)
unread copied source query (Err found) error is e same =
    (let found_is : found ≡ error = cc in
    subst (λ s. IsNoQuery s error) same (subst (IsNoQuery copied) found_is is.1))
