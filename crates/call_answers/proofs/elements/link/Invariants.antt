use Rattle.std.proofs.Common.{◌≡◌, drop, length, map}
use Rattle.call_answers.proofs.Building.{LinkedSoFar}
use Rattle.call_answers.proofs.elements.link.Given as goal

-- the tree of the first elements
abbrev pub invariant-loop-element : goal.invariant-loop-element
invariant-loop-element l =
    LinkedSoFar (record { strings = map (λ string. string.now) l.strings; are_all = l.are_all })
    l.elements (drop l.element-index l.elements) l.tree l.path.items l.next
    × (length l.tree ≡ l.element-index)
