use Rattle.std.proofs.Common.{◌≡◌}
use Rattle.simplecss_tree.specs.Walks.{IsOpenAt}
use Rattle.css_elements.specs.Ways.{IsAbove}
use Rattle.css_elements.proofs.Walking.{past}
use Rattle.simplecss_tree.proofs.rule_walk.Opened.close_to.Given as goal

-- the walk is open, and not yet above the place
abbrev pub invariant-closes : goal.invariant-closes
invariant-closes l = record {
  opened : IsOpenAt l.tree l.self.path l.self.place;
  selectors : l.self.path.selectors ≡ l.initial.self.path.selectors;
  above : IsAbove l.tree l.fn.above l.self.place;
}

abbrev pub decreases-closes : goal.decreases-closes
decreases-closes l = past l.self.place
