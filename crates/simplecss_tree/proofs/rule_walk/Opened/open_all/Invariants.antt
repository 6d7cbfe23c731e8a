use Rattle.std.proofs.Common.{◌≡◌, length, reverse}
use Rattle.simplecss_tree.specs.Walks.{IsOpenAt}
use Rattle.css_elements.specs.Ways.{LeadsTo}
use Rattle.simplecss_tree.proofs.rule_walk.Opened.open_all.Given as goal

-- the path is open, and the elements that are left lead to the element
abbrev pub invariant-opens : goal.invariant-opens
invariant-opens l = record {
  opened : IsOpenAt l.tree l.self.path l.self.place;
  selectors : l.self.path.selectors ≡ l.initial.self.path.selectors;
  leads : LeadsTo l.tree l.self.place (reverse l.between.items) l.fn.element;
}

abbrev pub decreases-opens : goal.decreases-opens
decreases-opens l = length l.between.items
