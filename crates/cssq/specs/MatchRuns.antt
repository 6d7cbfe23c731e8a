-- Which rules of a sheet match an element, and what a run over a sheet and a tree must write.
use Rattle.std.specs.Prelude.{◌≡◌, ℕ, ◌+◌, ◌↔◌, length, Bool, true, List, [], ◌∷◌, ◌++◌, decimal, Result, Ok, Err}
use Rattle.std.specs.List.{AllZip, items_where_true, range_with_len, flat_map, concat}
use Rattle.simplecss.specs.AsciiBytes.{newline, space, colon}
use Rattle.simplecss.specs.ThisEdition.{this_edition}
use Rattle.simplecss.specs.Statements.{StyleRule}
use Rattle.simplecss.specs.Sheets.{sheet}
use Rattle.simplecss.specs.Placements.{HasPlacement}
use Rattle.cssq.specs.declared.runs.RunFault.{RunFault}
use Rattle.cssq.specs.declared.runs.RunFault.TheVariants.{Refused, Tree, Memory, Output}
use Rattle.cssq_tree.specs.TreeText.{Row, tree_of}
use Rattle.cssq_tree.specs.PageNodes.{Spot, spot, page_tree}

-- the rule's selector has a placement on the element
abbrev pub Takes : StyleRule → Spot → Type 0
Takes rule element = HasPlacement page_tree rule.components element

-- for each rule, whether it matches the element
abbrev pub AreAnswers : List Bool → List StyleRule → Spot → Type 0
AreAnswers answers rules element =
    AllZip (λ answer rule. (answer ≡ true) ↔ Takes rule element) answers rules

-- the numbers of the rules that match; the first rule has the number 1
abbrev pub numbers_of : List Bool → List ℕ
numbers_of answers = items_where_true answers (range_with_len 1 (length answers))

-- the numbers, a space before each
abbrev pub numbers_text : List ℕ → List ℕ
numbers_text numbers = flat_map (λ n. space ∷ decimal n) numbers

-- an element's number, a colon, numbers of rules with a space before each, and a newline
abbrev pub numbers_line : ℕ → List ℕ → List ℕ
numbers_line number numbers = decimal number ++ (colon ∷ (numbers_text numbers ++ newline ∷ []))

-- the line of the element at an index
abbrev pub IsLineOf : List StyleRule → List Row → ℕ → List ℕ → Type 0
IsLineOf rules rows index line =
    (answers : List Bool) × AreAnswers answers rules (spot rows index)
    × (line ≡ numbers_line (index + 1) (numbers_of answers))

-- the text is a line for each index below the count, in order
abbrev pub AreLines : (ℕ → List ℕ → Type 0) → ℕ → List ℕ → Type 0
AreLines IsLine count text =
    (lines : List (List ℕ)) × AllZip IsLine (range_with_len 0 count) lines × (text ≡ concat lines)

-- the lines of all elements, in order
abbrev pub IsMatchText : List StyleRule → List Row → List ℕ → Type 0
IsMatchText rules rows = AreLines (IsLineOf rules rows) (length rows)

-- the lines for the rules and the tree, or the tree's fault
abbrev pub IsMatchOutput : List StyleRule → List ℕ → Result (List ℕ) RunFault → Type 0
IsMatchOutput rules tree (Ok lines) =
    (rows : List Row) × (tree_of tree ≡ Ok rows) × IsMatchText rules rows lines
IsMatchOutput rules tree (Err (Tree fault)) = tree_of tree ≡ Err fault
IsMatchOutput rules tree (Err Refused) = ⊥
IsMatchOutput rules tree (Err Memory) = ⊥
IsMatchOutput rules tree (Err Output) = ⊥

-- the same of the rules of a sheet's text
abbrev pub IsMatchRun : List ℕ → List ℕ → Result (List ℕ) RunFault → Type 0
IsMatchRun text = IsMatchOutput (sheet this_edition (text ∷ []))
