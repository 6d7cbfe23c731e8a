use Rattle.std.proofs.Common.{◌≡◌, ◌≤◌, ◌+◌, true, length, count_by}
use Rattle.css_syntax.specs.DeclarationLists.{ListText, items}
use Rattle.css_syntax.specs.ListReaders.{items_to_come}
use Rattle.css_sheet.specs.SheetOrder.{is_declared}
use Rattle.css_sheet.proofs.gathering.count_declarations.Given as goal

-- Those so far and those that are still to come are all, and no more than the text has bytes.
abbrev pub invariant-items : goal.invariant-items
invariant-items l =
    (l.count + count_by (λ (part : ListText). is_declared part.item) (items_to_come l.declarations)
    ≡ count_by (λ (part : ListText). is_declared part.item) (items true l.block))
    × (l.count + length (items_to_come l.declarations) ≤ length l.block)

abbrev pub decreases-items : goal.decreases-items
decreases-items l = length (items_to_come l.declarations)
