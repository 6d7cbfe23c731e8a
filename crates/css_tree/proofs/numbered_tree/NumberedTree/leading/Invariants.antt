-- The elements that lead to others for the parts from the index on are marked.
use Rattle.std.proofs.Common.{◌≡◌, ◌<◌, ◌↔◌, ℕ, IsTrue, drop, length, map}
use Rattle.css_selector_text.specs.Components.{parts_from}
use Rattle.css_selector_text.specs.Views.{part_of}
use Rattle.css_tree.specs.Steps.{is_set, Leads}
use Rattle.css_tree.proofs.numbered_tree.NumberedTree.leading.Given as goal

abbrev pub invariant-loop-index : goal.invariant-loop-index
invariant-loop-index l = record {
  all : length l.marks.items ≡ length l.self.rows;
  each : (i : ℕ) → i < length l.self.rows → IsTrue (is_set l.marks.items i)
      ↔ Leads l.self (parts_from (map part_of (drop l.index l.parts))) i;
}
