-- The modern selector that means what a selector of CSS 2.1 does.
use Rattle.std.specs.Prelude.{ℕ, false, List, [], ◌∷◌, map, Option, None, Some}
use Rattle.css_matching.specs.declared.Combinator.{Combinator as ModernCombinator}
use Rattle.css_matching.specs.declared.Combinator.TheVariants.{Descendant, Child, Adjacent}
use Rattle.css_selector_text.specs.Components.{Simple, Part, Selector}
use Rattle.css_selector_text.specs.Components.Comparison.{equals as is_text, has_word as has_this_word, has_subtag}
use Rattle.css_selector_text.specs.Components.Condition.{simple}
use Rattle.css_selector_text.specs.Components.Simple.{universal, type_name, has_attribute, attribute as compared, structure, language, state}
use Rattle.css_selector_text.specs.Components.Structure.{first_child as is_first_child}
use Rattle.simplecss_grammar.specs.Components.{Operator, KnownPseudoClass, Subselector, Combinator, Component}
use Rattle.simplecss_grammar.specs.Components.Combinator.{none, descendant, child, adjacent}
use Rattle.simplecss_grammar.specs.Components.KnownPseudoClass.{first_child, link, visited, hover, active, focus, lang}
use Rattle.simplecss_grammar.specs.Components.Operator.{exists, equals, has_word, begins_with}
use Rattle.simplecss_grammar.specs.Components.Subselector.{attribute, pseudo_class}
use Rattle.simplecss_grammar.specs.PseudoClasses.{pseudo_class_name}

-- A combinator is the one of the same sign. Before the first component there is none, and what a modern
-- selector has before its first part says nothing.
abbrev pub combinator_of : Combinator → ModernCombinator
combinator_of none = Descendant
combinator_of descendant = Descendant
combinator_of child = Child
combinator_of adjacent = Adjacent

-- a type name, or `*`
abbrev pub type_of : Option (List ℕ) → Simple
type_of None = universal
type_of (Some name) = type_name name

-- `[name]`, `[name=text]`, `[name~=word]` and `[name|=start]`, whose case counts; so `#a` is `[id=a]`, and
-- `.a` is `[class~=a]`
abbrev pub attribute_of : List ℕ → Operator → Simple
attribute_of name exists = has_attribute name
attribute_of name (equals text) = compared name is_text text false
attribute_of name (has_word word) = compared name has_this_word word false
attribute_of name (begins_with start) = compared name has_subtag start false

-- `:first-child`, `:lang()` with the one range that is its language, as it is written, and the states by
-- their names
abbrev pub pseudo_class_of : KnownPseudoClass → Simple
pseudo_class_of first_child = structure is_first_child
pseudo_class_of link = state (pseudo_class_name link)
pseudo_class_of visited = state (pseudo_class_name visited)
pseudo_class_of hover = state (pseudo_class_name hover)
pseudo_class_of active = state (pseudo_class_name active)
pseudo_class_of focus = state (pseudo_class_name focus)
pseudo_class_of (lang tag) = language (tag ∷ [])

abbrev pub simple_of : Subselector → Simple
simple_of (attribute name operator) = attribute_of name operator
simple_of (pseudo_class class) = pseudo_class_of class

-- the type and the other conditions of a component, joined by its combinator
abbrev pub part_of : Component → Part
part_of c = record {
  combinator = combinator_of c.combinator;
  conditions = simple (type_of c.compound.name)
      ∷ map (λ s. simple (simple_of s)) c.compound.subselectors;
}

-- the selector with these parts, which has no pseudo-element
abbrev pub converted : List Component → Selector
converted components = record { parts = map part_of components; pseudo_element = None }
