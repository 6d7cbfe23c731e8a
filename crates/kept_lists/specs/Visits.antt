-- What the visits of a text and its selectors do.
use Rattle.std.specs.Prelude.{ℕ, List, Option, None, Some, ◌≡◌, Result, Ok, Err, string_bytes}
use Rattle.handles.specs.Text.{Text}
use Rattle.kept_lists.specs.Lists.{ListSource, IsNoList, list_made_of, made_of, selectors_in}
use Rattle.kept_lists.specs.declared.read_list.ListGrammar.{ListGrammar}
use Rattle.kept_lists.specs.declared.read_list.ReadList.{ReadList}
use Rattle.kept_lists.specs.declared.read_list.ListError.{ListError}

-- what a list of this text is made of
abbrev pub source_of : ListGrammar → Text → ListSource
source_of grammar text = made_of grammar (string_bytes text)

-- the selectors are those of the text
abbrev pub HoldsList : ListSource → Option ReadList → Type 0
HoldsList source None = ⊥
HoldsList source (Some list) = list_made_of source ≡ Some (selectors_in list)

-- the text was read, or it is no list, or an allocation failed
abbrev pub IsRead : ListSource → Option ReadList → Result (Unit {0}) ListError → Type 0
IsRead source list (Ok _) = HoldsList source list
IsRead source list (Err error) = (list ≡ None) × IsNoList source error

-- what is there answers
abbrev pub AnswersAs : {A : Type 0} → (ReadList → A → Type 0) → Option ReadList → Option A → Type 0
AnswersAs IsAnswer None None = Unit {0}
AnswersAs IsAnswer None (Some _) = ⊥
AnswersAs IsAnswer (Some list) None = ⊥
AnswersAs IsAnswer (Some list) (Some answer) = IsAnswer list answer

-- the answer is one of the selectors of the text that a list is made of
abbrev pub IsAnswered : {A : Type 0} → (List ℕ → ReadList → A → Type 0) → ListSource → A → Type 0
IsAnswered IsAnswer source answer =
    (list : ReadList) × (list_made_of source ≡ Some (selectors_in list)) × IsAnswer source.text list answer

-- a list answers, and where there is none there is no answer
abbrev pub IsAnsweredIfOpen : {A : Type 0} → (List ℕ → ReadList → A → Type 0) → Option ListSource → Option A
    → Type 0
IsAnsweredIfOpen IsAnswer None None = Unit {0}
IsAnsweredIfOpen IsAnswer None (Some answer) = ⊥
IsAnsweredIfOpen IsAnswer (Some source) None = ⊥
IsAnsweredIfOpen IsAnswer (Some source) (Some answer) = IsAnswered IsAnswer source answer
