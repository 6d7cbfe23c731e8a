-- What a run over the texts of a sheet must write.
use Rattle.std.specs.Prelude.{◌≡◌, ℕ, List, [], ◌∷◌, ◌++◌, Result, Ok}
use Rattle.simplecss.specs.AsciiBytes.{newline}
use Rattle.simplecss.specs.ThisEdition.{this_edition}
use Rattle.simplecss.specs.Statements.{StyleRule}
use Rattle.simplecss.specs.Sheets.{sheet}
use Rattle.simplecss.specs.Printing.{sheet_text}
use Rattle.cssq.specs.declared.runs.RunFault.{RunFault}

-- the printed sheet, and a newline if it has a rule
abbrev pub sheet_output : List StyleRule → List ℕ
sheet_output [] = []
sheet_output (rule ∷ rules) = sheet_text (rule ∷ rules) ++ newline ∷ []

-- the output of a sheet with these rules
abbrev pub IsSheetText : List StyleRule → Result (List ℕ) RunFault → Type 0
IsSheetText rules due = due ≡ Ok (sheet_output rules)

-- the sheet of all texts, read in order
abbrev pub IsSheetRun : List (List ℕ) → Result (List ℕ) RunFault → Type 0
IsSheetRun texts due = due ≡ Ok (sheet_output (sheet this_edition texts))
