use Rattle.std.proofs.Common.{◌≡◌, ◌≤◌, ◌+◌, ◌++◌, length, map}
use Rattle.css_sheet.specs.Pieces.{piece_of}
use Rattle.css_sheet.specs.PrintedSheets.{pieces_text, text_from}
use Rattle.css_sheet.proofs.printing.print_pieces.Given as goal

-- The text so far, and that of the rest, is all; and no more rules are open than there were pieces.
abbrev pub invariant-pieces : goal.invariant-pieces
invariant-pieces l =
    (l.out.items ++ text_from l.layout l.depth (piece_of l.last) (map piece_of l.rest)
    ≡ pieces_text l.layout (map piece_of l.pieces))
    × (l.depth + length l.rest ≤ length l.pieces)

abbrev pub decreases-pieces : goal.decreases-pieces
decreases-pieces l = length l.rest
