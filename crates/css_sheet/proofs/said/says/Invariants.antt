use Rattle.std.proofs.Common.{◌≡◌, ◌++◌, length, map}
use Rattle.std.specs.List.{flat_map}
use Rattle.css_sheet.specs.Pieces.{piece_of}
use Rattle.css_sheet.specs.Said.{part_pieces, said_parts}
use Rattle.css_sheet.specs.ContentViews.{part_of}
use Rattle.css_sheet.proofs.said.says.Given as goal

-- what the parts so far say, and those of the rest
abbrev pub invariant-parts : goal.invariant-parts
invariant-parts l =
    map piece_of l.pieces.items ++ flat_map part_pieces (map part_of l.rest)
    ≡ flat_map part_pieces (said_parts l.text)

abbrev pub decreases-parts : goal.decreases-parts
decreases-parts l = length l.rest
