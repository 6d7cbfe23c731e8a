use Rattle.std.proofs.Common.{◌≡◌, ◌++◌, length}
use Rattle.page_sheets.specs.Sheets.{rows_of}
use Rattle.page_sheets.proofs.sheets.push_rows.Given as goal

abbrev pub invariant-sheets : goal.invariant-sheets
invariant-sheets l = l.out.items ++ rows_of l.rest ≡ l.initial.out.items ++ rows_of l.sheets

abbrev pub decreases-sheets : goal.decreases-sheets
decreases-sheets l = length l.rest
