-- What is asked of a style sheet, by its number.
use Rattle.std.specs.Prelude.{ℕ, ◌==◌, if◌then◌else◌, Option, None, Some}
use Rattle.css_sheet.specs.declared.printing.Layout.TheVariants.{Short, Lines}
use Rattle.kept_sheets.specs.declared.questions.SheetNumbers.{SheetNumbers}
use Rattle.kept_sheets.specs.declared.questions.SheetNumbers.TheVariants.{Statements, Contents}
use Rattle.kept_sheets.specs.declared.questions.SheetText.{SheetText}
use Rattle.kept_sheets.specs.declared.questions.SheetText.TheVariants.{Printed, Imports}

-- in numbers: 0 is the statements, 1 what is in style rules
abbrev pub numbers_asked : ℕ → Option SheetNumbers
numbers_asked asked = if asked == 0 then Some Statements else (if asked == 1 then Some Contents else None)

-- as a text: 0 and 1 are the printed sheet, short and in lines, and 2 is the imports
abbrev pub text_asked : ℕ → Option SheetText
text_asked asked =
    if asked == 0 then Some (Printed Short)
    else (if asked == 1 then Some (Printed Lines)
    else (if asked == 2 then Some Imports
    else None))
