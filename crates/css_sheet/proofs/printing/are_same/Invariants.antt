use Rattle.std.proofs.Common.{◌≡◌, length, map}
use Rattle.css_sheet.specs.Pieces.{piece_of}
use Rattle.css_sheet.proofs.printing.are_same.Given as goal

-- The rests are the same just if all are.
abbrev pub invariant-pieces : goal.invariant-pieces
invariant-pieces l =
    (map piece_of l.rest ≡ map piece_of l.left → map piece_of l.pieces ≡ map piece_of l.others)
    × (map piece_of l.pieces ≡ map piece_of l.others → map piece_of l.rest ≡ map piece_of l.left)

abbrev pub decreases-pieces : goal.decreases-pieces
decreases-pieces l = length l.rest
