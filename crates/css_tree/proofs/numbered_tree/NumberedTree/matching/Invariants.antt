-- The elements so far are answered.
use Rattle.std.proofs.Common.{◌≡◌, ◌<◌, ◌↔◌, ℕ, IsTrue, length, map}
use Rattle.css_matching.specs.ListTrees.{spot}
use Rattle.css_selector_text.specs.Components.{selectors_from}
use Rattle.css_selectors.specs.Meanings.{MatchesAny}
use Rattle.css_selector_text.specs.Views.{complex_of}
use Rattle.css_tree.specs.Pages.{page_document}
use Rattle.css_tree.specs.Steps.{is_set}
use Rattle.css_tree.proofs.numbered_tree.NumberedTree.matching.Given as goal

abbrev pub invariant-loop-index : goal.invariant-loop-index
invariant-loop-index l = record {
  all : length l.found.items ≡ l.index;
  each : (i : ℕ) → i < l.index → IsTrue (is_set l.found.items i)
      ↔ MatchesAny page_document (selectors_from (map complex_of l.list)) (spot l.self i);
}
