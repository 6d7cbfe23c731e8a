-- Equality of selectors, by their components.
use Rattle.std.specs.Prelude.{ℕ, List, [], Bool, false, ◌&&◌, ◌==◌}
use Rattle.std.specs.Cmp.Lexicographic.{pointwise}
use Rattle.std.specs.Option.{option_eq}
use Rattle.css_text.specs.Bytes.{text_eq}
use Rattle.simplecss_grammar.specs.Components.{Operator, KnownPseudoClass, Subselector, Combinator, Component}
use Rattle.simplecss_grammar.specs.Components.Operator.{exists, equals, has_word, begins_with}
use Rattle.simplecss_grammar.specs.PseudoClasses.{pseudo_class_name, pseudo_class_argument}
use Rattle.simplecss_grammar.specs.Components.Subselector.{attribute, pseudo_class}
use Rattle.simplecss_grammar.specs.Components.Combinator.{none, descendant, child, adjacent}

-- the kind of a value, and its text if it has one
abbrev pub operator_key : Operator → ℕ × List ℕ
operator_key exists = (0, [])
operator_key (equals value) = (1, value)
operator_key (has_word value) = (2, value)
operator_key (begins_with value) = (3, value)

-- the name of a pseudo-class, and its argument
abbrev pub pseudo_class_key : KnownPseudoClass → List ℕ × List ℕ
pseudo_class_key class = (pseudo_class_name class, pseudo_class_argument class)

abbrev pub combinator_key : Combinator → ℕ
combinator_key none = 0
combinator_key descendant = 1
combinator_key child = 2
combinator_key adjacent = 3

-- the same kind and the same text
abbrev pub key_eq : ℕ × List ℕ → ℕ × List ℕ → Bool
key_eq a b = (a.0 == b.0) && text_eq a.1 b.1

abbrev pub operator_eq : Operator → Operator → Bool
operator_eq a b = key_eq (operator_key a) (operator_key b)

-- the same name and the same argument
abbrev pub text_key_eq : List ℕ × List ℕ → List ℕ × List ℕ → Bool
text_key_eq a b = text_eq a.0 b.0 && text_eq a.1 b.1

abbrev pub pseudo_class_eq : KnownPseudoClass → KnownPseudoClass → Bool
pseudo_class_eq a b = text_key_eq (pseudo_class_key a) (pseudo_class_key b)

abbrev pub combinator_eq : Combinator → Combinator → Bool
combinator_eq a b = combinator_key a == combinator_key b

abbrev pub subselector_eq : Subselector → Subselector → Bool
subselector_eq (attribute name operator) (attribute other_name other_operator) =
    text_eq name other_name && operator_eq operator other_operator
subselector_eq (pseudo_class class) (pseudo_class other_class) = pseudo_class_eq class other_class
subselector_eq (attribute name operator) (pseudo_class class) = false
subselector_eq (pseudo_class class) (attribute name operator) = false

-- the same combinator, the same type name or none, and the same subselectors in the same order
abbrev pub component_eq : Component → Component → Bool
component_eq a b =
    combinator_eq a.combinator b.combinator
    && (option_eq text_eq a.compound.name b.compound.name
    && pointwise subselector_eq a.compound.subselectors b.compound.subselectors)

abbrev pub selector_eq : List Component → List Component → Bool
selector_eq = pointwise component_eq
