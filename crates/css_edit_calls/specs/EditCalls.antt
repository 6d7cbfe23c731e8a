-- What the call that edits a sheet answers.
use Rattle.std.specs.Prelude.{◌≡◌, ℕ, List, [], ◌∷◌, map}
use Rattle.std.specs.List.{flat_map}
use Rattle.std.specs.Str.{IsUtf8}
use Rattle.call_answers.specs.Calls.{HasTexts}
use Rattle.css_edits.specs.Editing.{IsEdited}
use Rattle.css_edits.specs.declared.edits.Change.{Change}
use Rattle.css_edits.specs.declared.edits.Change.TheVariants.{Prelude, Value, Block, Statements, Contents}
use Rattle.css_edits.specs.declared.edits.Edit.{Edit}

-- the number of a change
abbrev pub number_of : Change → ℕ
number_of Prelude = 1
number_of Value = 2
number_of Block = 3
number_of Statements = 4
number_of Contents = 5

-- three numbers of an edit: what it takes the place of, and where that begins and ends
abbrev pub numbers_of : Edit → List ℕ
numbers_of e = number_of e.change ∷ e.from ∷ e.to ∷ []

abbrev pub text_of : Edit → List ℕ
text_of e = e.text.now

-- These numbers and texts are those of edits.
pub record ArePassed (numbers : List ℕ) (texts : List (List ℕ)) (edits : List Edit) : Type 0 where
  pub rows : flat_map numbers_of edits ≡ numbers
  pub strings : map text_of edits ≡ texts

-- A text is a sheet with the edits that these numbers and strings stand for.
pub record IsEditedBy (sheet numbers strings ends text : List ℕ) : Type 0 where
  pub edits : List Edit
  pub texts : List (List ℕ)
  pub is_text : IsUtf8 sheet
  pub has_texts : HasTexts strings ends texts
  pub passed : ArePassed numbers texts edits
  pub edited : IsEdited sheet edits text
