-- The lines of a run over a page: the rules that match each element, or what wins on it.
use Rattle.std.specs.Prelude.{◌≡◌, ℕ, List, ◌++◌, length, Result}
use Rattle.simplecss.specs.Statements.{StyleRule}
use Rattle.cssq.specs.declared.runs.LineContent.{LineContent}
use Rattle.cssq.specs.declared.runs.LineContent.TheVariants.{Rules, Winner}
use Rattle.cssq.specs.declared.runs.RunFault.{RunFault}
use Rattle.cssq_tree.specs.TreeText.{Row}
use Rattle.cssq.specs.MatchRuns.{AreLines, IsLineOf, IsMatchOutput}
use Rattle.cssq.specs.StyleRuns.{IsStyleLineOf, IsStyleOutput}

-- the line of the element at an index
abbrev pub IsElementLine : LineContent → List StyleRule → List Row → ℕ → List ℕ → Type 0
IsElementLine Rules = IsLineOf
IsElementLine (Winner name) = IsStyleLineOf name.now

-- the line of the element at an index was appended to a text
abbrev pub AppendsElementLine : LineContent → List StyleRule → List Row → ℕ → List ℕ → List ℕ
    → Type 0
AppendsElementLine content rules rows index old new =
    (line : List ℕ) × IsElementLine content rules rows index line × (new ≡ old ++ line)

-- the lines of all elements, in order
abbrev pub AreElementLines : LineContent → List StyleRule → List Row → List ℕ → Type 0
AreElementLines content rules rows = AreLines (IsElementLine content rules rows) (length rows)

-- what must be written of the rules and the tree, or the tree's fault
abbrev pub IsPageOutput : LineContent → List StyleRule → List ℕ → Result (List ℕ) RunFault → Type 0
IsPageOutput Rules rules tree = IsMatchOutput rules tree
IsPageOutput (Winner name) rules tree = IsStyleOutput rules tree name.now
