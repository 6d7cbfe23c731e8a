-- Ancestors, and what a step up keeps of them.
-- Serves `Selector::{matches, matches_counted}`, `laws::same_meanings_law` and `laws::key_law`.
use Rattle.std.proofs.Common.{◌≡◌, Option, Some, None, sym, ◌∙◌, ◌⊎◌, inl, inr, subst, IsTrue}
use Rattle.std.proofs.lemmas.Bool.{false≢true}
use Rattle.simplecss_grammar.specs.Components.{Combinator}
use Rattle.simplecss_grammar.specs.Components.Combinator.{none, descendant, child, adjacent}
use Rattle.simplecss_selector.specs.Trees.{Tree, SiblingsShareParent}
use Rattle.simplecss_selector.specs.Placements.{IsAncestor, Relates, is_step}
use Rattle.simplecss_selector.specs.Placements.IsAncestor.{is_parent, is_further}
use Rattle.simplecss_selector.specs.internal.PlacementSearch.{IsAtOrAbove, IsWithin}
use Rattle.simplecss_selector.specs.internal.PlacementSearch.IsAtOrAbove.{here, above}

pub same_some : {A : Type 0} {x y : A} → Some x ≡ Some y → x ≡ y
same_some e = cc

pub no_some : {A : Type 0} {x : A} {o : Option A} → o ≡ None → o ≡ Some x → ⊥
no_some e f = cc

-- an ancestor of an ancestor is an ancestor
pub ancestor_trans : {Node : Type 0} (tree : Tree Node) {a m n : Node} → IsAncestor tree a m
    → IsAncestor tree m n → IsAncestor tree a n
ancestor_trans tree p (is_parent e) = is_further e p
ancestor_trans tree p (is_further e q) = is_further e (ancestor_trans tree p q)

-- an ancestor is the parent or one of the parent's
pub ancestor_split : {Node : Type 0} (tree : Tree Node) {a p n : Node} → tree.parent n ≡ Some p
    → IsAncestor tree a n → (a ≡ p) ⊎ IsAncestor tree a p
ancestor_split tree e (is_parent f) = inl (same_some (sym f ∙ e))
ancestor_split tree {a} e (is_further f q) =
    inr (subst (IsAncestor tree a) (same_some (sym f ∙ e)) q)

-- nodes with the same parent have the same ancestors
pub ancestor_shared : {Node : Type 0} (tree : Tree Node) {a m n : Node}
    → tree.parent m ≡ tree.parent n → IsAncestor tree a m → IsAncestor tree a n
ancestor_shared tree e (is_parent f) = is_parent (sym e ∙ f)
ancestor_shared tree e (is_further f q) = is_further (sym e ∙ f) q

-- nothing is above a node with no parent
pub no_ancestor : {Node : Type 0} (tree : Tree Node) {a n : Node} → tree.parent n ≡ None
    → IsAncestor tree a n → ⊥
no_ancestor tree e (is_parent f) = no_some e f
no_ancestor tree e (is_further f q) = no_some e f

at_equal : {Node : Type 0} (tree : Tree Node) {a p : Node} → a ≡ p → IsAtOrAbove tree a p
at_equal tree {a} e = subst (IsAtOrAbove tree a) e here

at_equal_above : {Node : Type 0} (tree : Tree Node) {a m n : Node} → m ≡ n → IsAncestor tree a m
    → IsAncestor tree a n
at_equal_above tree {a} e h = subst (IsAncestor tree a) e h

pub at_or_above_from : {Node : Type 0} (tree : Tree Node) {a p n : Node} → tree.parent n ≡ Some p
    → IsAncestor tree a n → IsAtOrAbove tree a p
at_or_above_from tree {a} e h =
    elim (ancestor_split tree e h) [ inl s ↦ at_equal tree s | inr q ↦ ancestor_at_or_above tree q ]
  where
    ancestor_at_or_above : {Node : Type 0} (tree : Tree Node) {a n : Node} → IsAncestor tree a n
        → IsAtOrAbove tree a n
    ancestor_at_or_above tree (is_parent f) = above f here
    ancestor_at_or_above tree (is_further f q) = above f (ancestor_at_or_above tree q)

-- what is at or above a node's parent is an ancestor
pub ancestor_from : {Node : Type 0} (tree : Tree Node) {a p n : Node} → tree.parent n ≡ Some p
    → IsAtOrAbove tree a p → IsAncestor tree a n
ancestor_from tree e here = is_parent e
ancestor_from tree e (above f q) = is_further e (ancestor_from tree f q)

pub within_above : {Node : Type 0} (tree : Tree Node) {m n : Node} → IsAtOrAbove tree m n
    → IsWithin tree m n
within_above tree here a h = h
within_above tree (above e q) a h = is_further e (within_above tree q a h)

pub sibling_parent : {Node : Type 0} (tree : Tree Node) → SiblingsShareParent tree → {s n : Node}
    → tree.previous_sibling n ≡ Some s → tree.parent s ≡ tree.parent n
sibling_parent tree shared {s} {n} e = let h = shared n in rw e at h

-- one child or adjacent step from each of two nodes keeps the ancestors of the one within those of
-- the other
pub within_step : {Node : Type 0} (tree : Tree Node) → SiblingsShareParent tree
    → (c : Combinator) {m n m' n' : Node} → IsTrue (is_step c) → IsWithin tree m n
    → Relates tree c m' m → Relates tree c n' n → IsWithin tree m' n'
within_step tree shared none s w r r' a h = absurd r
within_step tree shared descendant s w r r' a h = absurd (false≢true s)
within_step tree shared child {m' = m'} {n' = n'} s w r r' a h =
    elim (ancestor_split tree r' (w m' (is_parent r)))
    [ inl e ↦ at_equal_above tree e h | inr q ↦ ancestor_trans tree h q ]
within_step tree shared adjacent {m} {n} {m'} {n'} s w r r' a h =
    ancestor_shared tree (sym (sibling_parent tree shared r'))
    (w a (ancestor_shared tree (sibling_parent tree shared r) h))
