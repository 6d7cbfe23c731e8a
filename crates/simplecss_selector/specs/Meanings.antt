-- Nodes of two trees that no selector distinguishes.
use Rattle.std.specs.Prelude.{◌≡◌, ℕ, zero, suc, List, Option, Some, None}
use Rattle.std.specs.Option.{option_map}
use Rattle.simplecss_grammar.specs.Components.{Operator, KnownPseudoClass}
use Rattle.simplecss_selector.specs.Trees.{Tree}

-- there is neither, or there are both and they are related
abbrev pub AreNoneOrRelated : {M N : Type 0} → (M → N → Type 0) → Option M → Option N → Type 0
AreNoneOrRelated related None None = Unit {0}
AreNoneOrRelated related None (Some n) = ⊥
AreNoneOrRelated related (Some m) None = ⊥
AreNoneOrRelated related (Some m) (Some n) = related m n

-- nodes of two trees return the same answers
pub record AnswerAlike {M N : Type 0} (tree : Tree M) (other : Tree N) (m : M) (n : N) : Type 0 where
  pub names : (name : List ℕ) → tree.is_named m name ≡ other.is_named n name
  pub attributes : (name : List ℕ) (operator : Operator)
      → tree.has_attribute m name operator ≡ other.has_attribute n name operator
  pub pseudo_classes : (class : KnownPseudoClass)
      → tree.is_in_pseudo_class m class ≡ other.is_in_pseudo_class n class

-- the same of all nodes that this number of steps to a parent or a previous sibling lead to, where
-- either both nodes have one or neither has
abbrev pub AreAlikeWithin : {M N : Type 0} → Tree M → Tree N → ℕ → M → N → Type 0
AreAlikeWithin tree other zero m n = AnswerAlike tree other m n
AreAlikeWithin tree other (suc steps) m n =
    AnswerAlike tree other m n
    × AreNoneOrRelated (AreAlikeWithin tree other steps) (tree.parent m) (other.parent n)
    × AreNoneOrRelated (AreAlikeWithin tree other steps) (tree.previous_sibling m)
    (other.previous_sibling n)

-- the same of any number of steps
abbrev pub AreAlike : {M N : Type 0} → Tree M → Tree N → M → N → Type 0
AreAlike tree other m n = (steps : ℕ) → AreAlikeWithin tree other steps m n

-- A map from the nodes of one tree to those of another that keeps everything a selector can test:
-- the image of a node has the images of its parent and of its previous sibling as its own, and
-- returns the same answers.
pub record KeepsMeanings {M N : Type 0} (tree : Tree M) (other : Tree N)
    (image : M → N) : Type 0 where
  pub parents : (n : M) → other.parent (image n) ≡ option_map image (tree.parent n)
  pub siblings : (n : M)
      → other.previous_sibling (image n) ≡ option_map image (tree.previous_sibling n)
  pub names : (n : M) (name : List ℕ) → other.is_named (image n) name ≡ tree.is_named n name
  pub attributes : (n : M) (name : List ℕ) (operator : Operator)
      → other.has_attribute (image n) name operator ≡ tree.has_attribute n name operator
  pub pseudo_classes : (n : M) (class : KnownPseudoClass)
      → other.is_in_pseudo_class (image n) class ≡ tree.is_in_pseudo_class n class
