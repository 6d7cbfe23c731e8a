use Rattle.std.proofs.Common.{◌≡◌, map, take}
use Rattle.css_index.proofs.selector_index.selectors_of.Given as goal

-- the selectors of the rules so far
abbrev pub invariant-loop-rule : goal.invariant-loop-rule
invariant-loop-rule g l =
    map (λ s. s.now) l.selectors.items ≡ map g.T.HasSelector.selector_in (take l.rule-index l.rules)
