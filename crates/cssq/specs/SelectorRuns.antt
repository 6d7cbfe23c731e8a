-- What a run over the text of a selector must write.
use Rattle.std.specs.Prelude.{◌≡◌, ℕ, List, [], ◌∷◌, ◌++◌, Option, None, Some, Result, Ok, Err, decimal, map}
use Rattle.std.specs.List.{join_with_byte}
use Rattle.simplecss.specs.AsciiBytes.{tab, newline, comma}
use Rattle.simplecss.specs.Components.{Component}
use Rattle.simplecss.specs.Selectors.{reads}
use Rattle.simplecss.specs.ThisEdition.{this_edition}
use Rattle.simplecss.specs.Specificity.{specificity}
use Rattle.simplecss.specs.Printing.{selector_text}
use Rattle.cssq.specs.declared.runs.RunFault.{RunFault}
use Rattle.cssq.specs.declared.runs.RunFault.TheVariants.{Refused}

-- the selector of a text, or none if it is refused
abbrev pub selector_in : List ℕ → Option (List Component)
selector_in text = (reads this_edition text).0

-- the printed selector, a TAB, its specificity as three numbers with commas between them, and a
-- newline
abbrev pub selector_line : List Component → List ℕ
selector_line selector =
    selector_text selector
    ++ (tab ∷ join_with_byte comma (map decimal (specificity selector)) ++ newline ∷ [])

-- the line of a selector, or the fault if there is none
abbrev pub line_or_refused : Option (List Component) → Result (List ℕ) RunFault
line_or_refused None = Err Refused
line_or_refused (Some selector) = Ok (selector_line selector)

-- the line of the text's selector, or the refusal
abbrev pub IsSelectorRun : List ℕ → Result (List ℕ) RunFault → Type 0
IsSelectorRun text due = due ≡ line_or_refused (selector_in text)
