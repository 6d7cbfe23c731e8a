use Rattle.std.proofs.Common.{◌≡◌, ◌++◌, map}
use Rattle.css_sheet.specs.Said.{ends_of}
use Rattle.css_sheet.specs.ContentViews.{part_of}
use Rattle.css_sheet.proofs.said.push_ends.Given as goal

-- the ends so far, and those that are left
abbrev pub invariant-ends : goal.invariant-ends
invariant-ends l =
    map part_of l.parts.items ++ ends_of l.left ≡ map part_of l.initial.parts.items ++ ends_of l.depth

abbrev pub decreases-ends : goal.decreases-ends
decreases-ends l = l.left
