use Rattle.std.proofs.Common.{◌≡◌, ◌++◌, length}
use Rattle.css_lint.proofs.keys.push_bytes.Given as goal

-- what is written so far, and the rest
abbrev pub invariant-bytes : goal.invariant-bytes
invariant-bytes l = l.out.items ++ l.left ≡ l.initial.out.items ++ l.text

abbrev pub decreases-bytes : goal.decreases-bytes
decreases-bytes l = length l.left
