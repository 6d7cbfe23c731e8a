-- What is asked by the grammar of the port, and when it fails.
use Rattle.std.specs.Prelude.{◌≡◌, ℕ, ◌==◌, if◌then◌else◌, List, Option, None, Some, Result, Err}
use Rattle.call_answers.specs.Calls.{Passed, IsSheetCall, IsPrinted, AreRuleTexts, IsSkippedCall, IsMatchCall, IsStylesCall, IsPortSelectCall}
use Rattle.call_answers.specs.declared.answer.CallError.{CallError}
use Rattle.call_answers.specs.declared.answer.CallError.TheVariants.{Refused}
use Rattle.port_calls.specs.declared.port.PortQuestion.{PortQuestion}
use Rattle.port_calls.specs.declared.port.PortQuestion.TheVariants.{Sheet, Rules, Skipped, Matches, Styles, Selected}

-- what is asked by a number
abbrev pub question_of : (asked : ℕ) → Option PortQuestion
question_of asked =
    if asked == 0 then Some Sheet
    else (if asked == 1 then Some Rules
    else (if asked == 2 then Some Skipped
    else (if asked == 3 then Some Matches
    else (if asked == 4 then Some Styles
    else (if asked == 5 then Some Selected
    else None)))))

-- What is written of the sheet of the texts of a buffer, of the buffer as one text, or of a tree: of its elements in at
-- most this number of bytes. Where nothing is asked the call is refused.
abbrev pub IsPortCall : Option PortQuestion → (most : ℕ) → List ℕ → List ℕ → (limit : ℕ) → Passed
    → Result (List ℕ) CallError → Type 0
IsPortCall None most buffer ends limit passed outcome = outcome ≡ Err Refused
IsPortCall (Some Sheet) most buffer ends limit passed outcome = IsSheetCall IsPrinted buffer ends limit outcome
IsPortCall (Some Rules) most buffer ends limit passed outcome = IsSheetCall AreRuleTexts buffer ends limit outcome
IsPortCall (Some Skipped) most buffer ends limit passed outcome = IsSkippedCall buffer outcome
IsPortCall (Some Matches) most buffer ends limit passed outcome = IsMatchCall most buffer ends limit passed outcome
IsPortCall (Some Styles) most buffer ends limit passed outcome = IsStylesCall most buffer ends limit passed outcome
IsPortCall (Some Selected) most buffer ends limit passed outcome = IsPortSelectCall most buffer passed outcome
