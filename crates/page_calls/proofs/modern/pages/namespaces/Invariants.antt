use Rattle.std.proofs.Common.{◌≡◌, map, take}
use Rattle.page_calls.proofs.modern.pages.namespaces.Given as goal

-- the numbers of the elements so far
abbrev pub invariant-loop-element : goal.invariant-loop-element
invariant-loop-element l =
    l.found.items ≡ map (λ element. element.namespace) (take l.element-index l.elements)
