use Rattle.std.proofs.Common.{◌≡◌, ◌+◌, ◌≤◌, Bool, List, take}
use Rattle.std.specs.List.{items_where_true, sum_by}
use Rattle.css_index.specs.Tested.{least_tests, most_tests_at}
use Rattle.css_index.specs.internal.Candidates.{PassesAt}
use Rattle.css_index.proofs.KeptLemmas.{AreAnswers}
use Rattle.css_index.proofs.selector_walk.SelectorWalk.push_passing.Given as goal

-- those of the first that pass are kept, and the tests of the first are counted
abbrev pub invariant-loop-index : goal.invariant-loop-index
invariant-loop-index g l = record {
  kept : (bs : List Bool) × AreAnswers (PassesAt g.E.Element.document
      (g.E.Element.node l.element) l.self.selectors) bs (take l.index-index l.tried)
      × (l.indices.items ≡ items_where_true bs (take l.index-index l.tried));
  least : l.initial.tests + sum_by (least_tests l.self.selectors) (take l.index-index l.tried)
      ≤ l.tests;
  most : l.tests ≤ l.initial.tests + sum_by (most_tests_at g.E.Element.document
      (g.E.Element.node l.element) l.self.selectors) (take l.index-index l.tried);
}
