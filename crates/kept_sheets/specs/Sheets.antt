-- What is written of a style sheet.
use Rattle.std.specs.Prelude.{◌≡◌, ◌<◌, ◌≤◌, ℕ, List, length, Result, Ok, Err}
use Rattle.std.specs.List.{flat_map}
use Rattle.css_sheet.specs.Imports.{sheet_imports}
use Rattle.css_sheet.specs.PrintedSheets.{IsPrinted}
use Rattle.css_sheet.specs.Said.{says}
use Rattle.call_answers.specs.Calls.{FailsLonger}
use Rattle.call_answers.specs.SheetNumbers.{sheet_numbers}
use Rattle.call_answers.specs.declared.answer.CallError.{CallError}
use Rattle.call_answers.specs.declared.answer.CallError.TheVariants.{Memory}
use Rattle.sheet_calls.specs.ContentNumbers.{contents_numbers}
use Rattle.sheet_calls.specs.ImportLines.{import_lines}
use Rattle.kept_sheets.specs.declared.questions.SheetNumbers.{SheetNumbers}
use Rattle.kept_sheets.specs.declared.questions.SheetNumbers.TheVariants.{Statements, Contents}
use Rattle.kept_sheets.specs.declared.questions.SheetText.{SheetText}
use Rattle.kept_sheets.specs.declared.questions.SheetText.TheVariants.{Printed, Imports}

-- the numbers of the statements of a text, or of what is in its style rules
abbrev pub numbers_due : SheetNumbers → List ℕ → List ℕ
numbers_due Statements text = sheet_numbers text
numbers_due Contents text = contents_numbers text

-- those that are asked for, at most so many, or why there are none
abbrev pub AreNumbersOf : SheetNumbers → (most : ℕ) → List ℕ → Result (List ℕ) CallError → Type 0
AreNumbersOf asked most text (Ok numbers) = (numbers ≡ numbers_due asked text) × (length numbers ≤ most)
AreNumbersOf asked most text (Err failure) = FailsLonger (most < length (numbers_due asked text)) failure

-- the printed text, which says the same; or the lines of the imports that are in force
abbrev pub IsTextDue : SheetText → List ℕ → List ℕ → Type 0
IsTextDue (Printed layout) text printed = IsPrinted layout text printed × (says printed ≡ says text)
IsTextDue Imports text lines = lines ≡ flat_map import_lines (sheet_imports text)

-- what is asked for, if no allocation fails
abbrev pub IsTextOf : SheetText → List ℕ → Result (List ℕ) CallError → Type 0
IsTextOf asked text (Ok bytes) = IsTextDue asked text bytes
IsTextOf asked text (Err failure) = failure ≡ Memory
