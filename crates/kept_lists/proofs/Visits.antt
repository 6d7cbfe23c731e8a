-- What is there answers.
-- Serves `KeptList::ask` and `ListHandle::ask`.
use Rattle.std.proofs.Common.{◌≡◌, ℕ, List, Option, None, Some, string_bytes, subst, ap, sym, ◌∙◌}
use Rattle.handles.specs.Text.{Text}
use Rattle.kept_lists.specs.Lists.{ListSource}
use Rattle.kept_lists.specs.Objects.{IsOpen, kept_source}
use Rattle.kept_lists.specs.Visits.{AnswersAs, HoldsList, IsAnswered, IsAnsweredIfOpen, source_of}
use Rattle.kept_lists.specs.declared.kept.Kept.{Kept}
use Rattle.kept_lists.specs.declared.read_list.ListGrammar.{ListGrammar}
use Rattle.kept_lists.specs.declared.read_list.ReadList.{ReadList}

answered : {A : Type 0} (IsAnswer : List ℕ → ReadList → A → Type 0) (source : ListSource) (o : Option ReadList)
    (answer : Option A) (x : A) → HoldsList source o → AnswersAs (IsAnswer source.text) o answer → answer ≡ Some x
    → IsAnswered IsAnswer source x
answered IsAnswer source None answer x holds answers e = absurd holds
answered IsAnswer source (Some list) None x holds answers e = absurd answers
answered IsAnswer source (Some list) (Some y) x holds answers e =
    (let same : y ≡ x = cc in (list, holds, subst (IsAnswer source.text list) same answers))

pub asked : {A : Type 0} (IsAnswer : List ℕ → ReadList → A → Type 0) (grammar : ListGrammar) (source : ListSource)
    (o : Option Kept) (kept : Kept) (answer : Option A) (x : A) → o ≡ Some kept → kept_source grammar o ≡ source
    → IsOpen grammar o → AnswersAs (IsAnswer (string_bytes kept.read_of)) kept.value answer → answer ≡ Some x
    → IsAnswered IsAnswer source x
asked IsAnswer grammar source o kept answer x is is_source holds answers e =
    subst (λ s. IsAnswered IsAnswer s x) (ap (kept_source grammar) (sym is) ∙ is_source)
    (answered IsAnswer (source_of grammar kept.read_of) kept.value answer x (subst (IsOpen grammar) is holds) answers e)

pub asked_if_open : {A : Type 0} (IsAnswer : List ℕ → ReadList → A → Type 0) (o : Option ListSource) (source : ListSource)
    (x : A) → o ≡ Some source → IsAnswered IsAnswer source x → IsAnsweredIfOpen IsAnswer o (Some x)
asked_if_open IsAnswer None source x e answers = absurd (cc)
asked_if_open IsAnswer (Some other) source x e answers =
    (let same : source ≡ other = cc in subst (λ s. IsAnswered IsAnswer s x) same answers)
