use Rattle.std.proofs.Common.{◌≡◌}
use Rattle.tests_driver.proofs.lists.write_walked.Given as goal

-- the page stays
abbrev pub invariant-loop-element : goal.invariant-loop-element
invariant-loop-element g l = l.walk.page ≡ l.fn.page
