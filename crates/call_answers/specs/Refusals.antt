-- Where the first error of a text is, and why.
use Rattle.std.specs.Prelude.{ℕ, List, [], ◌∷◌, decimal, Result, Ok, Err}
use Rattle.std.specs.List.{join_with_byte}
use Rattle.simplecss.specs.AsciiBytes.{space}
use Rattle.simplecss.specs.Components.{Component}
use Rattle.simplecss.specs.SelectorLists.{ListFault}
use Rattle.simplecss.specs.Words.{why_text}
use Rattle.css_text.specs.declared.TextPos.{TextPos}

-- the row and the column of a position, and what is wrong there, with a space between them
abbrev pub position_text : TextPos → List ℕ → List ℕ
position_text pos reason =
    join_with_byte space (decimal pos.row ∷ decimal pos.col ∷ reason ∷ [])

-- where a text is no list of selectors of the port, and why
abbrev pub fault_text : ListFault → List ℕ
fault_text fault = position_text fault.pos (why_text fault.why)

-- the same of a text that was read as a list, or nothing where it is one
abbrev pub read_text : Result (List (List Component)) ListFault → List ℕ
read_text (Ok selectors) = []
read_text (Err fault) = fault_text fault
