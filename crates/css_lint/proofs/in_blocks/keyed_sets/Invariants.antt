use Rattle.std.proofs.Common.{◌≡◌, ◌++◌, length, map}
use Rattle.std.specs.List.{flat_map}
use Rattle.css_lint.specs.InBlocks.{keyed_set}
use Rattle.css_lint.specs.PlacedViews.{set_of}
use Rattle.css_lint.specs.Keys.{keyed_of}
use Rattle.css_lint.proofs.in_blocks.keyed_sets.Given as goal

-- the declarations so far, and the rest
abbrev pub invariant-sets : goal.invariant-sets
invariant-sets l =
    map keyed_of l.all.items ++ flat_map keyed_set (map set_of l.left)
    ≡ flat_map keyed_set (map set_of l.sets)

abbrev pub decreases-sets : goal.decreases-sets
decreases-sets l = length l.left
