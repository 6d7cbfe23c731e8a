use Rattle.std.proofs.Common.{◌≡◌, ◌++◌, length, map}
use Rattle.std.specs.List.{flat_map}
use Rattle.css_lint.specs.InBlocks.{keyframe_places}
use Rattle.css_lint.specs.Places.{place_of}
use Rattle.css_lint.specs.PlacedViews.{rule_at}
use Rattle.css_lint.proofs.in_blocks.push_keyframes.Given as goal

-- what is found so far, and of the rest
abbrev pub invariant-rules : goal.invariant-rules
invariant-rules l =
    map place_of l.found.items ++ flat_map keyframe_places (map rule_at l.left)
    ≡ map place_of l.initial.found.items ++ flat_map keyframe_places (map rule_at l.rules)

abbrev pub decreases-rules : goal.decreases-rules
decreases-rules l = length l.left
