use Rattle.std.proofs.Common.{◌≡◌, length}
use Rattle.css_clean.specs.Selectors.{is_selector_safe}
use Rattle.css_clean.proofs.selectors.is_selector_safe.Given as goal

-- What is left decides.
abbrev pub invariant-bytes : goal.invariant-bytes
invariant-bytes l = is_selector_safe l.bytes ≡ is_selector_safe l.left

abbrev pub decreases-bytes : goal.decreases-bytes
decreases-bytes l = length l.left
