-- Trees whose nodes are kept in a list, each after its parent. For elements in a list with the
-- indices of their parents and previous siblings, the two laws of `Element` are those of the trees
-- of lists of the crate `css_matching`. They are in this folder since the trait `Element` requires
-- the laws: an impl names them, so they belong to what is stated.
use Rattle.std.specs.Prelude.{ℕ, Bool, List, Option}
use Rattle.css_matching.specs.ListTrees.{ListOf as Relations, list_tree as tree_of, list_counts_ancestors as counts_of, list_shares_parents as shares_of}
use Rattle.simplecss_grammar.specs.Components.{Operator, KnownPseudoClass}
use Rattle.simplecss_selector.specs.Trees.{Tree, DepthCountsAncestors, SiblingsShareParent}
pub use Rattle.css_matching.specs.ListTrees.{parent_by, sibling_by, with_those_after, ancestors, ancestors_step, spot}

-- What a list says of an index: its parent and its previous sibling, if it names any, and the
-- answers to a type name, to an attribute's name with an operator, and to a pseudo-class.
pub record ListOf (Rows : Type 0) : Type 0 where
  pub parent : Rows → ℕ → Option ℕ
  pub previous_sibling : Rows → ℕ → Option ℕ
  pub is_named : Rows → ℕ → List ℕ → Bool
  pub has_attribute : Rows → ℕ → List ℕ → Operator → Bool
  pub is_in_pseudo_class : Rows → ℕ → KnownPseudoClass → Bool

-- the parents and the previous siblings
abbrev pub relations : {Rows : Type 0} → ListOf Rows → Relations Rows
relations list = record { parent = list.parent; previous_sibling = list.previous_sibling }

-- the parent of an index in a list
abbrev pub parent_index : {Rows : Type 0} → ListOf Rows → Rows → ℕ → Option ℕ
parent_index list rows i = parent_by (list.parent rows) i

-- the previous sibling of an index in a list
abbrev pub sibling_index : {Rows : Type 0} → ListOf Rows → Rows → ℕ → Option ℕ
sibling_index list rows i = sibling_by (list.parent rows) (list.previous_sibling rows) i

-- The tree of all lists of a kind: a node is a list and an index in it.
abbrev pub list_tree : {Rows : Type 0} → ListOf Rows → Tree (Rows × ℕ)
list_tree list = record {
  parent = (tree_of (relations list)).parent;
  previous_sibling = (tree_of (relations list)).previous_sibling;
  depth = (tree_of (relations list)).depth;
  is_named = λ n. list.is_named n.0 n.1;
  has_attribute = λ n. list.has_attribute n.0 n.1;
  is_in_pseudo_class = λ n. list.is_in_pseudo_class n.0 n.1;
}

module _ {Rows : Type 0} (list : ListOf Rows) where
  -- The depth in a tree of lists counts the ancestors.
  pub list_counts_ancestors : DepthCountsAncestors (list_tree list)
  list_counts_ancestors = counts_of (relations list)

  -- A previous sibling in a tree of lists has the same parent.
  pub list_shares_parents : SiblingsShareParent (list_tree list)
  list_shares_parents = shares_of (relations list)
