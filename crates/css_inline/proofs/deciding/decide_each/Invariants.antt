use Rattle.std.proofs.Common.{◌≡◌}
use Rattle.css_inline.proofs.deciding.decide_each.Given as goal

-- the page stays
abbrev pub invariant-loop-index : goal.invariant-loop-index
invariant-loop-index l = l.walk.page ≡ l.fn.walk.page
