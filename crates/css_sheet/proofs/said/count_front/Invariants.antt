use Rattle.std.proofs.Common.{◌≡◌, ◌≤◌, ◌+◌, length, map}
use Rattle.css_sheet.specs.Said.{front_count}
use Rattle.css_sheet.specs.ContentViews.{part_of}
use Rattle.css_sheet.proofs.said.count_front.Given as goal

-- Those so far and those of the rest are all, and no more than there are parts.
abbrev pub invariant-parts : goal.invariant-parts
invariant-parts l =
    (l.count + front_count (map part_of l.rest) ≡ front_count (map part_of l.parts))
    × (l.count + length l.rest ≤ length l.parts)

abbrev pub decreases-parts : goal.decreases-parts
decreases-parts l = length l.rest
