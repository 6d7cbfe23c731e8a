-- What a run over a sheet, a tree and a name must write.
use Rattle.std.specs.Prelude.{◌≡◌, ℕ, ◌+◌, length, Bool, true, false, List, [], ◌∷◌, ◌++◌, decimal, codes, Option, None, Some, Result, Ok, Err}
use Rattle.simplecss.specs.AsciiBytes.{newline, space, colon}
use Rattle.simplecss.specs.ThisEdition.{this_edition}
use Rattle.simplecss.specs.Declarations.{StyleDeclaration}
use Rattle.simplecss.specs.Statements.{StyleRule}
use Rattle.simplecss.specs.Sheets.{sheet}
use Rattle.cssq.specs.declared.runs.RunFault.{RunFault}
use Rattle.cssq.specs.declared.runs.RunFault.TheVariants.{Refused, Tree, Memory, Output}
use Rattle.cssq_tree.specs.TreeText.{Row, tree_of}
use Rattle.cssq_tree.specs.PageNodes.{spot, page_tree}
use Rattle.cssq.specs.MatchRuns.{AreLines}
use Rattle.cssq.specs.Winners.{Wins, IsStated}

-- what follows a value
abbrev pub mark : Bool → List ℕ
mark true = codes " !important"
mark false = []

-- a space, the value, and the mark of an important one; nothing if none wins
abbrev pub winner_text : Option StyleDeclaration → List ℕ
winner_text None = []
winner_text (Some p) = space ∷ (p.value ++ mark p.important)

-- an element's number, a colon, what wins there, and a newline
abbrev pub style_line : ℕ → Option StyleDeclaration → List ℕ
style_line number winner = decimal number ++ (colon ∷ (winner_text winner ++ newline ∷ []))

-- the line of the element at an index
abbrev pub IsStyleLineOf : List ℕ → List StyleRule → List Row → ℕ → List ℕ → Type 0
IsStyleLineOf name rules rows index line =
    (winner : Option StyleDeclaration)
    × Wins (IsStated page_tree (spot rows index) rules) name winner
    × (line ≡ style_line (index + 1) winner)

-- the lines of all elements, in order
abbrev pub IsStyleText : List ℕ → List StyleRule → List Row → List ℕ → Type 0
IsStyleText name rules rows = AreLines (IsStyleLineOf name rules rows) (length rows)

-- the lines for the rules, the tree and the name, or the tree's fault
abbrev pub IsStyleOutput : List StyleRule → List ℕ → List ℕ → Result (List ℕ) RunFault → Type 0
IsStyleOutput rules tree name (Ok lines) =
    (rows : List Row) × (tree_of tree ≡ Ok rows) × IsStyleText name rules rows lines
IsStyleOutput rules tree name (Err (Tree fault)) = tree_of tree ≡ Err fault
IsStyleOutput rules tree name (Err Refused) = ⊥
IsStyleOutput rules tree name (Err Memory) = ⊥
IsStyleOutput rules tree name (Err Output) = ⊥

-- the same of the rules of a sheet's text
abbrev pub IsStyleRun : List ℕ → List ℕ → List ℕ → Result (List ℕ) RunFault → Type 0
IsStyleRun text = IsStyleOutput (sheet this_edition (text ∷ []))
