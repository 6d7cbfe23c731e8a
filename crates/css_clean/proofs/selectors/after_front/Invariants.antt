use Rattle.std.proofs.Common.{◌≡◌, length}
use Rattle.css_clean.specs.Selectors.{after_front}
use Rattle.css_clean.proofs.selectors.after_front.Given as goal

-- What is left of both decides.
abbrev pub invariant-bytes : goal.invariant-bytes
invariant-bytes l = after_front l.front l.text ≡ after_front l.left l.rest

abbrev pub decreases-bytes : goal.decreases-bytes
decreases-bytes l = length l.left
