use Rattle.std.proofs.Common.{◌≡◌, ◌++◌, length, map}
use Rattle.css_lint.specs.Places.{place_of}
use Rattle.lint_calls.specs.Taken.{spaced}
use Rattle.lint_calls.proofs.taken.spaced.Given as goal

-- the text so far, and what is left of it
abbrev pub invariant-parts : goal.invariant-parts
invariant-parts l =
    l.out.items ++ spaced l.text l.last (map place_of l.left) ≡ spaced l.text 0 (map place_of l.parts)

abbrev pub decreases-parts : goal.decreases-parts
decreases-parts l = length l.left
