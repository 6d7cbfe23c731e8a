-- What is written of the elements of a tree, a line for each.
use Rattle.std.specs.Prelude.{◌≡◌, ℕ, ◌+◌, ◌<◌, ◌≤◌, List, [], ◌∷◌, ◌++◌, length, map, decimal, Option, None, Some}
use Rattle.simplecss.specs.AsciiBytes.{newline}
use Rattle.simplecss.specs.Components.{Component}
use Rattle.simplecss.specs.Declarations.{StyleDeclaration}
use Rattle.simplecss.specs.ListTrees.{spot}
use Rattle.simplecss.specs.Matching.{AreMatches}
use Rattle.simplecss.specs.Statements.{StyleRule}
use Rattle.simplecss_tree.specs.TreeNodes.{element_tree}
use Rattle.css_elements.specs.Rows.{Row}
use Rattle.cssq.specs.MatchRuns.{AreLines, numbers_line}
use Rattle.cssq.specs.StyleRuns.{style_line}
use Rattle.cssq.specs.Winners.{IsStated, Wins, WinsForItsName, ListsInOrder}
use Rattle.call_answers.specs.PortTexts.{counted_texts}
use Rattle.call_answers.specs.declared.pages.LineContent.{LineContent}
use Rattle.call_answers.specs.declared.pages.LineContent.TheVariants.{Numbers, Selected}
use Rattle.call_answers.specs.declared.pages.WonContent.{WonContent}
use Rattle.call_answers.specs.declared.pages.WonContent.TheVariants.{Named, All}

-- A line for each index below the count, where these have at most this number of bytes. Else there is
-- no answer: already the lines of the first indices have more.
abbrev pub AreLinesWithin : (most : ℕ) → (ℕ → List ℕ → Type 0) → (count : ℕ) → Option (List ℕ)
    → Type 0
AreLinesWithin most IsLine count (Some bytes) = AreLines IsLine count bytes × (length bytes ≤ most)
AreLinesWithin most IsLine count None =
    (first : ℕ) × (bytes : List ℕ) × (first ≤ count) × AreLines IsLine first bytes
    × (most < length bytes)

-- the selectors of rules
abbrev pub selectors_of : List StyleRule → List (List Component)
selectors_of rules = map (λ rule. rule.components) rules

-- an element's number, where a selector matches it
abbrev pub selected_line : ℕ → List ℕ → List ℕ
selected_line number [] = []
selected_line number (index ∷ indices) = decimal number ++ newline ∷ []

-- the line of an element of this number, which the selectors with these indices match
abbrev pub indices_line : LineContent → ℕ → List ℕ → List ℕ
indices_line Numbers number indices = numbers_line number (map (λ index. index + 1) indices)
indices_line Selected number indices = selected_line number indices

-- the line of the element at an index, by the indices of the selectors that match it, in order
abbrev pub IsLineOf : LineContent → List (List Component) → List Row → ℕ → List ℕ → Type 0
IsLineOf content selectors rows index line =
    (indices : List ℕ) × AreMatches element_tree (spot rows index) selectors indices
    × (line ≡ indices_line content (index + 1) indices)

-- the lines of all elements, in order
abbrev pub AreLinesOf : (most : ℕ) → LineContent → List (List Component) → List Row
    → Option (List ℕ) → Type 0
AreLinesOf most content selectors rows =
    AreLinesWithin most (IsLineOf content selectors rows) (length rows)

-- the lines of the numbers of the rules that match each element
abbrev pub AreMatchLines : (most : ℕ) → List StyleRule → List Row → Option (List ℕ) → Type 0
AreMatchLines most rules = AreLinesOf most Numbers (selectors_of rules)

-- the line of what wins for a name on the element at an index
abbrev pub IsWinnerLine : List ℕ → List StyleRule → List Row → ℕ → List ℕ → Type 0
IsWinnerLine name rules rows index line =
    (winner : Option StyleDeclaration)
    × Wins (IsStated element_tree (spot rows index) rules) name winner
    × (line ≡ style_line (index + 1) winner)

-- the lines of all elements, in order
abbrev pub AreWinnerLines : (most : ℕ) → List ℕ → List StyleRule → List Row → Option (List ℕ)
    → Type 0
AreWinnerLines most name rules rows =
    AreLinesWithin most (IsWinnerLine name rules rows) (length rows)

-- how many declarations win on the element at an index, and these: for each name what wins for it, in
-- the order of rules and of declarations in them
abbrev pub IsWinnersLine : List StyleRule → List Row → ℕ → List ℕ → Type 0
IsWinnersLine rules rows index text =
    (winners : List StyleDeclaration)
    × ListsInOrder (WinsForItsName element_tree (spot rows index) rules) winners
    × (text ≡ counted_texts winners)

-- the lines of all elements, in order
abbrev pub AreWinnersLines : (most : ℕ) → List StyleRule → List Row → Option (List ℕ) → Type 0
AreWinnersLines most rules rows = AreLinesWithin most (IsWinnersLine rules rows) (length rows)

-- the line of what wins on the element at an index: for one name, or of all
abbrev pub IsWonLine : WonContent → List StyleRule → List Row → ℕ → List ℕ → Type 0
IsWonLine (Named name) rules rows = IsWinnerLine name.now rules rows
IsWonLine All rules rows = IsWinnersLine rules rows

-- the lines of all elements, in order
abbrev pub AreWonLines : (most : ℕ) → WonContent → List StyleRule → List Row → Option (List ℕ)
    → Type 0
AreWonLines most content rules rows =
    AreLinesWithin most (IsWonLine content rules rows) (length rows)
