use Rattle.std.proofs.Common.{◌≡◌, ◌++◌, length}
use Rattle.css_lint.specs.Places.{guesses_of}
use Rattle.css_lint.proofs.relations.push_guesses.Given as goal

-- the guesses so far, and those of the rest
abbrev pub invariant-others : goal.invariant-others
invariant-others l = l.found.items ++ guesses_of l.left ≡ l.initial.found.items ++ guesses_of l.others

abbrev pub decreases-others : goal.decreases-others
decreases-others l = length l.left
