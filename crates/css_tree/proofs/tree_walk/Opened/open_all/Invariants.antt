use Rattle.std.proofs.Common.{◌≡◌, length, reverse}
use Rattle.css_tree.specs.Walks.{IsOpenAt}
use Rattle.css_elements.specs.Ways.{LeadsTo}
use Rattle.css_tree.proofs.tree_walk.Opened.open_all.Given as goal

-- the walk is open, and the elements that are left lead to the element
abbrev pub invariant-opens : goal.invariant-opens
invariant-opens l = record {
  opened : IsOpenAt l.page l.self.walk l.self.place;
  selectors : l.self.walk.selectors ≡ l.initial.self.walk.selectors;
  leads : LeadsTo l.page.rows l.self.place (reverse l.between.items) l.fn.element;
}

abbrev pub decreases-opens : goal.decreases-opens
decreases-opens l = length l.between.items
