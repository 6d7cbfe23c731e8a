use Rattle.std.proofs.Common.{◌≡◌}
use Rattle.cssq_tree.specs.ParentsAndSiblings.{depths_of}
use Rattle.cssq.specs.internal.Walks.{IsWalkOf}
use Rattle.cssq.proofs.Walking.{IsOnWay, past}
use Rattle.cssq.proofs.walk.Walk.close_for.Given as goal

-- the walk is one of the page, by the same selectors, on its way to the parent
abbrev pub invariant-close : goal.invariant-close
invariant-close l = record {
  walk : IsWalkOf l.page l.self;
  path : l.self.path.selectors ≡ l.initial.self.path.selectors;
  way : IsOnWay (depths_of l.page) l.element l.parent l.self.place;
}

abbrev pub decreases-close : goal.decreases-close
decreases-close l = past l.self.place
