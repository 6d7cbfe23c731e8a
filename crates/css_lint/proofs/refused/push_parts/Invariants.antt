use Rattle.std.proofs.Common.{◌≡◌, ◌++◌, length, map}
use Rattle.std.specs.List.{flat_map}
use Rattle.css_sheet.specs.ContentViews.{content_of}
use Rattle.css_lint.specs.Places.{place_of}
use Rattle.css_lint.specs.Refused.{refused_content}
use Rattle.css_lint.proofs.refused.push_parts.Given as goal

-- those so far, and those of the rest
abbrev pub invariant-parts : goal.invariant-parts
invariant-parts l =
    map place_of l.found.items ++ flat_map (refused_content l.values.in_quirks) (map (content_of l.size) l.left)
    ≡ map place_of l.initial.found.items ++ flat_map (refused_content l.values.in_quirks) (map (content_of l.size) l.parts)

abbrev pub decreases-parts : goal.decreases-parts
decreases-parts l = length l.left
