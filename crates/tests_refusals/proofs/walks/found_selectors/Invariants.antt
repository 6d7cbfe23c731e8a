use Rattle.std.proofs.Common.{◌≡◌}
use Rattle.tests_refusals.proofs.walks.found_selectors.Given as goal

-- the page stays
abbrev pub invariant-loop-element : goal.invariant-loop-element
invariant-loop-element l = l.walk.page ≡ l.fn.page
