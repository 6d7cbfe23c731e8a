use Rattle.std.proofs.Common.{◌≡◌, map}
use Rattle.simplecss_tree.specs.Walks.{IsAlong}
use Rattle.tests_refusals.proofs.walks.found_rules.Given as goal

-- the walk is along the tree, by the rules
abbrev pub invariant-loop-element : goal.invariant-loop-element
invariant-loop-element l = record {
  along : IsAlong l.tree l.walk;
  selectors : l.walk.selectors ≡ map (λ rule. rule.selector) l.rules;
}
