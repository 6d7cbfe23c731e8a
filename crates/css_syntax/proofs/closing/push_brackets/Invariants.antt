use Rattle.std.proofs.Common.{◌≡◌, ◌++◌, ℕ, List}
use Rattle.std.specs.String.{string_bytes}
use Rattle.css_syntax.proofs.closing.push_brackets.Given as goal

-- something was appended
abbrev pub invariant-brackets : goal.invariant-brackets
invariant-brackets l =
    (more : List ℕ) × (string_bytes l.out ≡ string_bytes l.initial.out ++ more)

abbrev pub decreases-brackets : goal.decreases-brackets
decreases-brackets l = l.depth
