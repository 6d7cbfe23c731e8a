use Rattle.std.proofs.Common.{◌≡◌, map, take}
use Rattle.css_index.proofs.selector_index.kept_of.Given as goal

-- what is kept of the selectors so far
abbrev pub invariant-loop-selector : goal.invariant-loop-selector
invariant-loop-selector l =
    map (λ rule. rule.selector.now) l.rules.items
    ≡ map (λ s. s.now) (take l.selector-index l.selectors)
