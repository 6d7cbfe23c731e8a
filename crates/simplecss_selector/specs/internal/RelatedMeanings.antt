-- Relations of nodes of two trees that no selector distinguishes.
use Rattle.std.specs.Prelude.{◌≡◌, ℕ, List}
use Rattle.simplecss_grammar.specs.Components.{Operator, KnownPseudoClass}
use Rattle.simplecss_selector.specs.Meanings.{AreNoneOrRelated}
use Rattle.simplecss_selector.specs.Trees.{Tree}

-- A relation between the nodes of two trees that keeps everything a selector can test: related
-- nodes return the same answers, and their parents and their previous siblings, if there are any,
-- are related. It says nothing of nodes that are not related: so descendants and later siblings may
-- differ.
pub record RelatesMeanings {M N : Type 0} (tree : Tree M) (other : Tree N)
    (related : M → N → Type 0) : Type 0 where
  pub parents : (m : M) (n : N) → related m n
      → AreNoneOrRelated related (tree.parent m) (other.parent n)
  pub siblings : (m : M) (n : N) → related m n
      → AreNoneOrRelated related (tree.previous_sibling m) (other.previous_sibling n)
  pub names : (m : M) (n : N) → related m n → (name : List ℕ)
      → tree.is_named m name ≡ other.is_named n name
  pub attributes : (m : M) (n : N) → related m n → (name : List ℕ) (operator : Operator)
      → tree.has_attribute m name operator ≡ other.has_attribute n name operator
  pub pseudo_classes : (m : M) (n : N) → related m n → (class : KnownPseudoClass)
      → tree.is_in_pseudo_class m class ≡ other.is_in_pseudo_class n class
