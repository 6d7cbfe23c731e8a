use Rattle.std.proofs.Common.{◌≡◌, length}
use Rattle.css_selectors.specs.internal.WordStarts.{after_space}
use Rattle.css_selectors.proofs.attributes.after_space.Given as goal

abbrev pub invariant-bytes : goal.invariant-bytes
invariant-bytes l = after_space l.rest ≡ after_space l.value

abbrev pub decreases-bytes : goal.decreases-bytes
decreases-bytes l = length l.rest
