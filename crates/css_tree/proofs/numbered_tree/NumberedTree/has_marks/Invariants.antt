-- The elements from which one of the selectors so far has a match are marked.
use Rattle.std.proofs.Common.{◌≡◌, ◌<◌, ◌↔◌, ℕ, IsTrue, length, map, take}
use Rattle.css_selector_text.specs.Components.{selectors_from}
use Rattle.css_selector_text.specs.Views.{complex_of}
use Rattle.css_tree.specs.HasSelectors.{HasAny}
use Rattle.css_tree.specs.Steps.{is_set}
use Rattle.css_tree.proofs.numbered_tree.NumberedTree.has_marks.Given as goal

abbrev pub invariant-loop-selector : goal.invariant-loop-selector
invariant-loop-selector l = record {
  marks : length l.all.items ≡ length l.self.rows;
  each : (i : ℕ) → i < length l.self.rows → IsTrue (is_set l.all.items i)
      ↔ HasAny l.self (selectors_from (map complex_of (take l.selector-index l.list))) i;
}
