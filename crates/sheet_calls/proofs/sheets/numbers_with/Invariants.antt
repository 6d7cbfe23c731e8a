use Rattle.std.proofs.Common.{◌≡◌, ◌≤◌, ◌++◌, length}
use Rattle.std.specs.List.{flat_map}
use Rattle.css_sheet.specs.ReaderViews.{to_come}
use Rattle.css_sheet.specs.SheetItems.{sheet_items}
use Rattle.css_selector_text.specs.NameViews.{names_of}
use Rattle.call_answers.specs.SheetNumbers.{statement_numbers}
use Rattle.sheet_calls.proofs.sheets.numbers_with.Given as goal

-- The numbers of the statements so far, and of those that are still to come; there are few enough so far.
abbrev pub invariant-items : goal.invariant-items
invariant-items l =
    (l.out.items ++ flat_map (statement_numbers (names_of l.names)) (to_come l.reader)
    ≡ flat_map (statement_numbers (names_of l.names)) (sheet_items l.text))
    × (length l.out.items ≤ l.most)

abbrev pub decreases-items : goal.decreases-items
decreases-items l = length (to_come l.reader)
