use Rattle.std.proofs.Common.{◌≡◌, [], length, map}
use Rattle.css_sheet.specs.Said.{with_parts}
use Rattle.css_sheet.specs.ContentViews.{part_of}
use Rattle.css_sheet.proofs.said.without_empty.Given as goal

-- the parts so far that are kept, and then the rest
abbrev pub invariant-parts : goal.invariant-parts
invariant-parts l =
    with_parts l.left (map part_of l.kept.items) (map part_of l.rest)
    ≡ with_parts l.fronts [] (map part_of l.parts)

abbrev pub decreases-parts : goal.decreases-parts
decreases-parts l = length l.rest
