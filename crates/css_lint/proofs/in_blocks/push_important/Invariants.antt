use Rattle.std.proofs.Common.{◌≡◌, ◌++◌, length, map}
use Rattle.css_lint.specs.InBlocks.{important_sets}
use Rattle.css_lint.specs.Places.{place_of}
use Rattle.css_lint.specs.PlacedViews.{set_of}
use Rattle.css_lint.proofs.in_blocks.push_important.Given as goal

-- what is found so far, and of the rest
abbrev pub invariant-sets : goal.invariant-sets
invariant-sets l =
    map place_of l.found.items ++ important_sets (map set_of l.left)
    ≡ map place_of l.initial.found.items ++ important_sets (map set_of l.sets)

abbrev pub decreases-sets : goal.decreases-sets
decreases-sets l = length l.left
