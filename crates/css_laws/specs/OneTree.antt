-- One element, as selectors of CSS 2.1 and modern selectors see it, and when it is the same to both.
use Rattle.std.specs.Prelude.{◌≡◌, ◌≢◌, ◌==◌, ℕ, zero, suc, false, List, [], All, Option, IfSome}
use Rattle.std.specs.Option.{option_map_or}
use Rattle.css_text.specs.AsciiBytes.{space}
use Rattle.css_text.specs.Characters.{is_space}
use Rattle.simplecss_grammar.specs.Components.{Operator, Subselector, Component}
use Rattle.simplecss_grammar.specs.Components.Operator.{exists, equals, has_word, begins_with}
use Rattle.simplecss_grammar.specs.Components.Subselector.{attribute, pseudo_class}
use Rattle.simplecss_selector.specs.Meanings.{AreNoneOrRelated}
use Rattle.simplecss_selector.specs.Operators.{is_satisfied}
use Rattle.simplecss_selector.specs.Trees.{Tree}
use Rattle.css_selectors.specs.Documents.{Document}
use Rattle.css_selectors.specs.Meanings.{holds}
use Rattle.css_laws.specs.Converted.{pseudo_class_of}

-- no byte of a value is white space other than U+0020
abbrev pub HasOnlySpaces : List ℕ → Type 0
HasOnlySpaces value = All (λ b. is_space b ≡ (b == space)) value

-- What a test of an attribute needs of the attribute's value, if there is one, to mean the same to both.
-- With `~=` the word must not be empty, and the value must have no white space other than U+0020. The other
-- tests need nothing.
abbrev pub SuitsOperator : Option (List ℕ) → Operator → Type 0
SuitsOperator value exists = Unit {0}
SuitsOperator value (equals text) = Unit {0}
SuitsOperator value (has_word word) = (word ≢ []) × IfSome value HasOnlySpaces
SuitsOperator value (begins_with start) = Unit {0}

-- the subselector means the same on the two nodes: a pseudo-class has both or neither
abbrev pub MeansTheSame : {M N : Type 0} → Document M → Tree N → M → N → Subselector → Type 0
MeansTheSame document tree m n (attribute name operator) =
    SuitsOperator (document.attribute m name) operator
MeansTheSame document tree m n (pseudo_class class) =
    tree.is_in_pseudo_class n class ≡ holds document m (pseudo_class_of class)

-- The two nodes have the same name and the same values of attributes, and every subselector of the
-- components means the same on them.
pub record AnswerAlike {M N : Type 0} (document : Document M) (tree : Tree N)
    (components : List Component) (m : M) (n : N) : Type 0 where
  pub names : (name : List ℕ) → tree.is_named n name ≡ document.is_named m name
  pub attributes : (name : List ℕ) (operator : Operator)
      → tree.has_attribute n name operator
      ≡ option_map_or (is_satisfied operator) (document.attribute m name) false
  pub meanings : All (λ c. All (MeansTheSame document tree m n) c.compound.subselectors) components

-- the same of all nodes that this number of steps to a parent or a previous sibling lead to, where
-- either both nodes have one or neither has
abbrev pub AreOneWithin : {M N : Type 0} → Document M → Tree N → List Component → ℕ → M → N → Type 0
AreOneWithin document tree components zero m n = AnswerAlike document tree components m n
AreOneWithin document tree components (suc steps) m n =
    AnswerAlike document tree components m n
    × AreNoneOrRelated (AreOneWithin document tree components steps) (document.parent m) (tree.parent n)
    × AreNoneOrRelated (AreOneWithin document tree components steps) (document.previous_sibling m)
    (tree.previous_sibling n)

-- The node of a document and the node of a tree are one element, as far as a selector of these components
-- can ask: both answer alike, and so do their ancestors and the earlier siblings of these.
abbrev pub AreOne : {M N : Type 0} → Document M → Tree N → List Component → M → N → Type 0
AreOne document tree components m n = (steps : ℕ) → AreOneWithin document tree components steps m n
