use Rattle.std.proofs.Common.{◌≡◌, map, take}
use Rattle.call_answers.specs.Elements.{has_bit}
use Rattle.page_calls.proofs.named_states.elements_in.Given as goal

-- what is found of the elements so far
abbrev pub invariant-loop-element : goal.invariant-loop-element
invariant-loop-element l =
    l.found.items
    ≡ map (λ element. has_bit element.states l.power) (take l.element-index l.elements)
