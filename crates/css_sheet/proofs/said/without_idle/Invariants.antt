use Rattle.std.proofs.Common.{◌≡◌, ◌++◌, length, map}
use Rattle.css_sheet.specs.Said.{without_idle}
use Rattle.css_sheet.specs.ContentViews.{part_of}
use Rattle.css_sheet.proofs.said.without_idle.Given as goal

-- the parts so far that are kept, and those of the rest
abbrev pub invariant-parts : goal.invariant-parts
invariant-parts l =
    map part_of l.kept.items ++ without_idle l.is_front (map part_of l.rest)
    ≡ without_idle l.front (map part_of l.parts)

abbrev pub decreases-parts : goal.decreases-parts
decreases-parts l = length l.rest
