-- What a page with style sheets in its attributes is.
use Rattle.std.specs.Prelude.{◌≡◌, ℕ, List, codes}
use Rattle.std.specs.List.{All}
use Rattle.html_edits.specs.Editing.{IsEdited}
use Rattle.html_edits.specs.declared.edits.Change.{Change}
use Rattle.html_edits.specs.declared.edits.Edit.{Edit}
use Rattle.html_edits.specs.declared.edits.Edit.TheVariants.{Tag, Text, PutIn, TakeOut, Replace, TakeOutInstruction}
use Rattle.html_edits.specs.declared.edits.Language.TheVariants.{Html}

-- a change of the attribute `style`
abbrev pub IsStyleChange : Change → Type 0
IsStyleChange c = c.name.now ≡ codes "style"

-- The edit changes the `style` attribute of a start tag, replaces the text of a `style` element, puts in such an
-- element, or takes out the element of a sheet.
abbrev pub IsOfStyle : Edit → Type 0
IsOfStyle (Tag k changes) = All IsStyleChange changes.now
IsOfStyle (Text k end text) = Unit {0}
IsOfStyle (PutIn at prefix text) = Unit {0}
IsOfStyle (TakeOut k end) = Unit {0}
IsOfStyle (Replace k end text) = ⊥
IsOfStyle (TakeOutInstruction from end) = ⊥

-- A text is a page with such edits: every other byte is there, in order, and it is read as the same tree.
abbrev pub IsStyled : (page text : List ℕ) → Type 0
IsStyled page text =
    (edits : List Edit) × All IsOfStyle edits × IsEdited Html page edits text
