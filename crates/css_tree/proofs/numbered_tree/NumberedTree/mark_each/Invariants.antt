-- The lists so far are marked, and nothing else is changed. As long as none is of `:has()` the marks inside of it
-- are those of the page.
use Rattle.std.proofs.Common.{◌≡◌, false, map, take}
use Rattle.css_selectors.specs.MarkedLists.{list_of}
use Rattle.css_tree.proofs.MarkLemmas.{AreMarkedWith}
use Rattle.css_tree.proofs.numbered_tree.NumberedTree.mark_each.Given as goal

abbrev pub invariant-loop-list : goal.invariant-loop-list
invariant-loop-list l = record {
  rows : l.self.rows ≡ l.fn.self.rows;
  given : l.self.given ≡ l.fn.self.given;
  html : l.self.is_html ≡ l.fn.self.is_html;
  marks : AreMarkedWith (map (λ answers. answers.items) l.inside.items)
      (map list_of (take l.list-index l.lists)) l.self;
  same : l.differ ≡ false → map (λ answers. answers.items) l.inside.items ≡ l.self.marks;
}
