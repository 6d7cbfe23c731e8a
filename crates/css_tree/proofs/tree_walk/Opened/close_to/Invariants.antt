use Rattle.std.proofs.Common.{◌≡◌}
use Rattle.css_tree.specs.Walks.{IsOpenAt}
use Rattle.css_elements.specs.Ways.{IsAbove}
use Rattle.css_elements.proofs.Walking.{past}
use Rattle.css_tree.proofs.tree_walk.Opened.close_to.Given as goal

-- the walk is open, and not yet above the place
abbrev pub invariant-closes : goal.invariant-closes
invariant-closes l = record {
  opened : IsOpenAt l.page l.self.walk l.self.place;
  selectors : l.self.walk.selectors ≡ l.initial.self.walk.selectors;
  above : IsAbove l.page.rows l.fn.above l.self.place;
}

abbrev pub decreases-closes : goal.decreases-closes
decreases-closes l = past l.self.place
