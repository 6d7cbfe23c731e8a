use Rattle.std.proofs.Common.{◌≡◌, ◌++◌, true, length, map}
use Rattle.std.specs.List.{flat_map}
use Rattle.css_syntax.specs.DeclarationLists.{items}
use Rattle.css_syntax.specs.ListReaders.{items_to_come}
use Rattle.css_sheet.specs.Pieces.{piece_of}
use Rattle.css_sheet.specs.Said.{listed_pieces}
use Rattle.css_sheet.proofs.said.push_stated.Given as goal

-- what the items so far say, and those that are to come
abbrev pub invariant-items : goal.invariant-items
invariant-items l =
    map piece_of l.out.items ++ flat_map listed_pieces (items_to_come l.list)
    ≡ map piece_of l.initial.out.items ++ flat_map listed_pieces (items true l.text)

abbrev pub decreases-items : goal.decreases-items
decreases-items l = length (items_to_come l.list)
