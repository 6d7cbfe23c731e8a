use Rattle.std.proofs.Common.{◌≡◌, length}
use Rattle.css_conditions.specs.Calculations.{parted_from}
use Rattle.css_conditions.proofs.calculations.is_parted.Given as goal

abbrev pub invariant-comments : goal.invariant-comments
invariant-comments l = parted_from l.left l.rest ≡ parted_from (length l.bytes) l.bytes

abbrev pub decreases-comments : goal.decreases-comments
decreases-comments l = l.left
