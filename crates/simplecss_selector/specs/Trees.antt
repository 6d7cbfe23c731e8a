-- What elements denote: nodes of a tree, and the answers of each.
use Rattle.std.specs.Prelude.{◌≡◌, ℕ, ◌+◌, List, Bool, Option, MatchOption, IfSome}
use Rattle.simplecss_grammar.specs.Components.{Operator, KnownPseudoClass}

-- A tree: for each node the parent and the previous sibling, if there are any, the number of its
-- ancestors, and its answers to a type name, to an attribute's name with an operator, and to a
-- pseudo-class.
pub record Tree (Node : Type 0) : Type 0 where
  pub parent : Node → Option Node
  pub previous_sibling : Node → Option Node
  pub depth : Node → ℕ
  pub is_named : Node → List ℕ → Bool
  pub has_attribute : Node → List ℕ → Operator → Bool
  pub is_in_pseudo_class : Node → KnownPseudoClass → Bool

-- a node has depth 0 exactly if it has no parent, and else one more than its parent
abbrev pub DepthCountsAncestors : {Node : Type 0} → Tree Node → Type 0
DepthCountsAncestors {Node} tree =
    (n : Node)
    → MatchOption (tree.parent n) (tree.depth n ≡ 0) (λ p. tree.depth n ≡ tree.depth p + 1)

-- a previous sibling has the same parent
abbrev pub SiblingsShareParent : {Node : Type 0} → Tree Node → Type 0
SiblingsShareParent {Node} tree =
    (n : Node) → IfSome (tree.previous_sibling n) (λ s. tree.parent s ≡ tree.parent n)
