-- What the call that edits a page answers.
use Rattle.std.specs.Prelude.{◌≡◌, ℕ, List, [], ◌∷◌, ◌++◌, ◌⊎◌}
use Rattle.html_edits.specs.Editing.{IsEdited}
use Rattle.html_edits.specs.declared.edits.Edit.{Edit}
use Rattle.html_edits.specs.declared.edits.Language.{Language}

-- a mark of the order of bytes (U+FEFF)
abbrev pub mark : List ℕ
mark = 239 ∷ 187 ∷ 191 ∷ []

-- a page with some edits
abbrev pub HasEdits : Language → (page text : List ℕ) → Type 0
HasEdits language page text = (edits : List Edit) × IsEdited language page edits text

-- A page with some edits, after a mark of the order of bytes if it has one, or all of it.
abbrev pub IsPageEdited : Language → (page text : List ℕ) → Type 0
IsPageEdited language page text =
    HasEdits language page text
    ⊎ ((inner : List ℕ) × (rest : List ℕ) × (page ≡ mark ++ rest) × (text ≡ mark ++ inner)
    × HasEdits language rest inner)
