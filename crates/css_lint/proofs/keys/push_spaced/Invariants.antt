use Rattle.std.proofs.Common.{◌≡◌, ◌++◌, length}
use Rattle.css_lint.specs.Keys.{spaced, spaced_after}
use Rattle.css_lint.proofs.keys.push_spaced.Given as goal

-- what is written so far, and what is written of the rest
abbrev pub invariant-bytes : goal.invariant-bytes
invariant-bytes l =
    l.out.items ++ spaced_after l.is_after l.left ≡ l.initial.out.items ++ spaced l.text

abbrev pub decreases-bytes : goal.decreases-bytes
decreases-bytes l = length l.left
