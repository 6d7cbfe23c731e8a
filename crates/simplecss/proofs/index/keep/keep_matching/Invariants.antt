use Rattle.std.proofs.Common.{◌+◌, ◌≤◌, map, take}
use Rattle.std.specs.List.{sum_by}
use Rattle.simplecss_selector.specs.Placements.{HasPlacement}
use Rattle.simplecss.specs.Matching.{most_tests}
use Rattle.simplecss.specs.internal.OnlyKeys.{unless_needless}
use Rattle.simplecss.specs.SelectorIndices.{selector_at}
use Rattle.simplecss.proofs.Keeping.{Keeps}
use Rattle.simplecss.proofs.index.keep.keep_matching.Given as goal

-- of the first indices those that match are kept, and each that needs it was tested
abbrev pub invariant-indices : goal.invariant-indices
invariant-indices g l = record {
  keeps : Keeps (λ index. HasPlacement g.E.Element.tree
      (selector_at (map g.T.HasSelector.selector_in l.rules) index) (g.E.Element.node l.element))
      l.initial.indices l.indices l.kept l.i;
  least : l.initial.tests + sum_by (λ index. unless_needless l.is_exact (λ selector. 1)
      (selector_at (map g.T.HasSelector.selector_in l.rules) index)) (take l.i l.initial.indices)
      ≤ l.tests;
  tested : l.tests
      ≤ l.initial.tests + sum_by (λ index. unless_needless l.is_exact
      (most_tests g.E.Element.tree (g.E.Element.node l.element))
      (selector_at (map g.T.HasSelector.selector_in l.rules) index)) (take l.i l.initial.indices);
}
