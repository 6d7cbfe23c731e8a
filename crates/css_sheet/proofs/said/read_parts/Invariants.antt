use Rattle.std.proofs.Common.{◌≡◌, ◌≤◌, ◌++◌, length, map}
use Rattle.css_sheet.specs.ContentViews.{content_of, part_of}
use Rattle.css_sheet.specs.Said.{ended, whole_parts}
use Rattle.css_sheet.specs.SheetContents.{ContentText}
use Rattle.css_sheet.proofs.said.read_parts.Given as goal

-- The parts so far, and the rest with the ends of all rules, are all; and no more rules are open than there were
-- parts.
abbrev pub invariant-parts : goal.invariant-parts
invariant-parts l =
    (map part_of l.parts.items
    ++ ended l.depth (map (λ (found : ContentText). found.part) (map (content_of (length l.text)) l.rest))
    ≡ whole_parts l.text)
    × (l.depth ≤ length l.parts.items)

abbrev pub decreases-parts : goal.decreases-parts
decreases-parts l = length l.rest
