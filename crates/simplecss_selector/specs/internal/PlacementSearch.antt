-- What the search for a placement has established at each node, from the last component to the
-- first.
use Rattle.std.specs.Prelude.{◌≡◌, List, [], ◌∷◌, Option, Some, None}
use Rattle.simplecss_grammar.specs.Components.{Component, Combinator}
use Rattle.simplecss_grammar.specs.Components.Combinator.{none, descendant, child, adjacent}
use Rattle.simplecss_selector.specs.Trees.{Tree}
use Rattle.simplecss_selector.specs.Placements.{IsAncestor, Meets, Relates}

-- the first node is the second or an ancestor of it
pub data IsAtOrAbove {Node : Type 0} (tree : Tree Node) : Node → Node → Type 0 where
  here : {n : Node} → IsAtOrAbove tree n n
  above : {m p n : Node} → tree.parent n ≡ Some p → IsAtOrAbove tree m p → IsAtOrAbove tree m n

-- every ancestor of the first node is one of the second
abbrev pub IsWithin : {Node : Type 0} → Tree Node → Node → Node → Type 0
IsWithin {Node} tree m n = (a : Node) → IsAncestor tree a m → IsAncestor tree a n

-- the fact, if there is a component
abbrev pub IfMore : List Component → Type 0 → Type 0
IfMore [] P = Unit {0}
IfMore (c ∷ cs) P = P

-- these components, the last of them first, can be placed with that last one on the node
abbrev pub Reaches : {Node : Type 0} → Tree Node → List Component → Node → Type 0
Reaches tree [] n = ⊥
Reaches {Node} tree (c ∷ cs) n =
    Meets tree n c.compound
    × IfMore cs ((m : Node) × Relates tree c.combinator m n × Reaches tree cs m)

-- they can be placed with that last one at or above the node
abbrev pub CanPlace : {Node : Type 0} → Tree Node → List Component → Node → Type 0
CanPlace {Node} tree cs n = (m : Node) × IsAtOrAbove tree m n × Reaches tree cs m

-- the node to which a child or adjacent combinator leads back
abbrev pub step_from : {Node : Type 0} → Tree Node → Combinator → Node → Option Node
step_from tree none n = None
step_from tree descendant n = None
step_from tree child n = tree.parent n
step_from tree adjacent n = tree.previous_sibling n
