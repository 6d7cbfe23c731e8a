use Rattle.std.proofs.Common.{◌≡◌, map, take, Some}
use Rattle.cssq.specs.SelectorRuns.{selector_in}
use Rattle.port_calls.proofs.port.read_selectors.Given as goal

-- the selectors of the texts so far
abbrev pub invariant-loop-text : goal.invariant-loop-text
invariant-loop-text l =
    map selector_in (map (λ text. text.now) (take l.text-index l.texts))
    ≡ map Some l.selectors.items
