-- When a selector matches: each component has a node of its own.
use Rattle.std.specs.Prelude.{◌≡◌, ℕ, ◌+◌, List, [], ◌∷◌, Option, Some, None, All, IsTrue, max, Bool, true, false, if◌then◌else◌}
use Rattle.simplecss_grammar.specs.Components.{Component, Compound, Subselector, Combinator}
use Rattle.simplecss_grammar.specs.Components.Subselector.{attribute, pseudo_class}
use Rattle.simplecss_grammar.specs.Components.Combinator.{none, descendant, child, adjacent}
use Rattle.simplecss_selector.specs.Trees.{Tree}

-- the first node is the parent of the second, or an ancestor of that parent
pub data IsAncestor {Node : Type 0} (tree : Tree Node) : Node → Node → Type 0 where
  is_parent : {m n : Node} → tree.parent n ≡ Some m → IsAncestor tree m n
  is_further : {m p n : Node} → tree.parent n ≡ Some p → IsAncestor tree m p → IsAncestor tree m n

-- the node has the type name, or no name is required
abbrev pub HasName : {Node : Type 0} → Tree Node → Node → Option (List ℕ) → Type 0
HasName tree n None = Unit {0}
HasName tree n (Some name) = IsTrue (tree.is_named n name)

-- the node has an attribute with the name whose value satisfies the operator, or is in the
-- pseudo-class
abbrev pub Holds : {Node : Type 0} → Tree Node → Node → Subselector → Type 0
Holds tree n (attribute name operator) = IsTrue (tree.has_attribute n name operator)
Holds tree n (pseudo_class class) = IsTrue (tree.is_in_pseudo_class n class)

-- the node has the type name, if there is one, and satisfies every subselector
abbrev pub Meets : {Node : Type 0} → Tree Node → Node → Compound → Type 0
Meets tree n compound = HasName tree n compound.name × All (Holds tree n) compound.subselectors

-- the first node has the relation of the combinator to the second
abbrev pub Relates : {Node : Type 0} → Tree Node → Combinator → Node → Node → Type 0
Relates tree none m n = ⊥
Relates tree descendant m n = IsAncestor tree m n
Relates tree child m n = tree.parent n ≡ Some m
Relates tree adjacent m n = tree.previous_sibling n ≡ Some m

-- nodes that continue a placement from one node: each meets its component and is related to the
-- node before it, and the last is `end`
abbrev pub ContinuesPlacement : {Node : Type 0} → Tree Node → Node → List Component → List Node
    → Node → Type 0
ContinuesPlacement tree before [] [] end = before ≡ end
ContinuesPlacement tree before [] (n ∷ ns) end = ⊥
ContinuesPlacement tree before (c ∷ cs) [] end = ⊥
ContinuesPlacement tree before (c ∷ cs) (n ∷ ns) end =
    Relates tree c.combinator before n × Meets tree n c.compound
    × ContinuesPlacement tree n cs ns end

-- one node for each component, each meeting it and related to the node before it, the last being
-- `end`
abbrev pub IsPlacement : {Node : Type 0} → Tree Node → List Component → List Node → Node → Type 0
IsPlacement tree [] nodes end = ⊥
IsPlacement tree (c ∷ cs) [] end = ⊥
IsPlacement tree (c ∷ cs) (n ∷ ns) end =
    Meets tree n c.compound × ContinuesPlacement tree n cs ns end

-- there is a placement: some nodes, one for each component, of which the last is `end`
abbrev pub HasPlacement : {Node : Type 0} → Tree Node → List Component → Node → Type 0
HasPlacement {Node} tree components end =
    (nodes : List Node) × IsPlacement tree components nodes end

-- whether the combinator leads back to at most one node: to the parent, or to the previous sibling
abbrev pub is_step : Combinator → Bool
is_step none = false
is_step descendant = false
is_step child = true
is_step adjacent = true

-- whether a child or an adjacent combinator joins a component to the one before it
abbrev pub is_joined : Component → Bool
is_joined c = is_step c.combinator

-- the number of components at the start that are each joined to the one before
abbrev pub joined_length : List Component → ℕ
joined_length [] = 0
joined_length (c ∷ cs) = if is_joined c then joined_length cs + 1 else 0

-- the number of components in the longest stretch: components joined by child and adjacent
-- combinators
abbrev pub longest_stretch : List Component → ℕ
longest_stretch [] = 0
longest_stretch (c ∷ cs) = max (joined_length cs + 1) (longest_stretch cs)
