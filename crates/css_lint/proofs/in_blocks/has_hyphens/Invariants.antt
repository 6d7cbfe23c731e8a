use Rattle.std.proofs.Common.{◌≡◌, length}
use Rattle.css_lint.specs.InBlocks.{has_hyphens}
use Rattle.css_lint.proofs.in_blocks.has_hyphens.Given as goal

-- if there are any, they are in the rest
abbrev pub invariant-bytes : goal.invariant-bytes
invariant-bytes l = has_hyphens l.left ≡ has_hyphens l.text

abbrev pub decreases-bytes : goal.decreases-bytes
decreases-bytes l = length l.left
