use Rattle.std.proofs.Common.{◌≡◌, ◌++◌, map, take}
use Rattle.simplecss.specs.internal.Chains.{selectors_of, AreChained}
use Rattle.simplecss.specs.internal.NeededKeys.{AreNeeded, AreOnly}
use Rattle.simplecss.proofs.index.rule_index.push_links.Given as goal

-- the links of the first rules are there
abbrev pub invariant-loop-rule : goal.invariant-loop-rule
invariant-loop-rule g l = record {
  chained : AreChained l.lasts l.links.items;
  needed : AreNeeded l.needed l.links.items;
  only : AreOnly l.links.items;
  selectors : selectors_of l.links.items ≡ selectors_of l.initial.links.items
      ++ map g.T.HasSelector.selector_in (take l.rule-index l.rules);
}
