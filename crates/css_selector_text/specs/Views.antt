-- What contracts see of the parts of a selector: their kinds, and the bytes of their names.
use Rattle.std.specs.Prelude.{ℕ, List, Option, map}
use Rattle.std.specs.Option.{option_map}
use Rattle.std.specs.Cow.{cow_str_bytes}
use Rattle.css_selector_text.specs.declared.components.Comparison.{Comparison as ComparisonOf}
use Rattle.css_selector_text.specs.declared.components.Comparison.TheVariants.{Equals, HasWord, HasSubtag, Starts, Ends, Contains}
use Rattle.css_selector_text.specs.declared.components.Signed.{Signed as SignedOf}
use Rattle.css_selector_text.specs.declared.components.Progression.{Progression as ProgressionOf}
use Rattle.css_selector_text.specs.declared.components.Structure.{Structure as StructureOf}
use Rattle.css_selector_text.specs.declared.components.Structure.TheVariants.{Root, Scope, Empty, FirstChild, LastChild, OnlyChild, FirstOfType, LastOfType, OnlyOfType, NthChild, NthLastChild, NthOfType, NthLastOfType}
use Rattle.css_selector_text.specs.declared.components.ListTest.{ListTest as ListTestOf}
use Rattle.css_selector_text.specs.declared.components.ListTest.TheVariants.{Has, NthChild as NthChildList, NthLastChild as NthLastChildList}
use Rattle.css_selector_text.specs.declared.components.Simple.{Simple as SimpleOf}
use Rattle.css_selector_text.specs.declared.components.Simple.TheVariants.{Universal, TypeName, Id, Class, HasAttribute, Attribute, Structure as StructureIs, Language, State, Function, Element, Nesting as NestingIs, Namespaced as NamespacedIs}
use Rattle.css_selector_text.specs.declared.components.Namespace.{Namespace as NamespaceOf}
use Rattle.css_selector_text.specs.declared.components.Namespace.TheVariants.{Absent, Any, Prefix, Default}
use Rattle.css_selector_text.specs.declared.components.Local.{Local as LocalOf}
use Rattle.css_selector_text.specs.declared.components.Local.TheVariants.{Universal as AnyType, TypeName as AType, HasAttribute as SomeAttribute, Attribute as AnAttribute, Implied}
use Rattle.css_selector_text.specs.declared.components.Complex.{Complex, out-Complex}
use Rattle.css_selector_text.specs.declared.components.Condition.{Condition as ConditionOf, fold-Condition}
use Rattle.css_selector_text.specs.declared.components.Condition.TheOpen.{Condition-F, Complex-F, Part-F}
use Rattle.css_selector_text.specs.declared.components.Part.{Part as PartOf}
use Rattle.css_selector_text.specs.declared.components.ElementName.{ElementName}
use Rattle.css_selector_text.specs.declared.components.PseudoElement.{PseudoElement as PseudoElementOf}
use Rattle.css_selector_text.specs.Components.{Comparison, Signed, Progression, Structure, Namespace, Local, Simple, ListTest, Condition, selectors_from, Part, PseudoElement}
use Rattle.css_selector_text.specs.Components.Comparison.{equals, has_word, has_subtag, starts, ends, contains}
use Rattle.css_selector_text.specs.Components.ListTest.{has, nth_child as nth_child_list, nth_last_child as nth_last_child_list}
use Rattle.css_selector_text.specs.Components.Structure.{root, scope, empty, first_child, last_child, only_child, first_of_type, last_of_type, only_of_type, nth_child, nth_last_child, nth_of_type, nth_last_of_type}
use Rattle.css_selector_text.specs.Components.Namespace.{absent, any_namespace, of_prefix, default}
use Rattle.css_selector_text.specs.Components.Local.{any_type, a_type, some_attribute, an_attribute, implied}
use Rattle.css_selector_text.specs.Components.Simple.{universal, type_name, id, class, has_attribute, attribute, structure, language, state, function, named_element, nesting, namespaced}
use Rattle.css_selector_text.specs.Components.Condition.{simple, negation, any_of, where_any, tested}

abbrev pub comparison_of : ComparisonOf → Comparison
comparison_of Equals = equals
comparison_of HasWord = has_word
comparison_of HasSubtag = has_subtag
comparison_of Starts = starts
comparison_of Ends = ends
comparison_of Contains = contains

abbrev pub signed_of : SignedOf → Signed
signed_of s = record { is_negative = s.is_negative; size = s.size }

abbrev pub progression_of : ProgressionOf → Progression
progression_of p = record { step = signed_of p.step; offset = signed_of p.offset }

abbrev pub structure_of : StructureOf → Structure
structure_of Root = root
structure_of Scope = scope
structure_of Empty = empty
structure_of FirstChild = first_child
structure_of LastChild = last_child
structure_of OnlyChild = only_child
structure_of FirstOfType = first_of_type
structure_of LastOfType = last_of_type
structure_of OnlyOfType = only_of_type
structure_of (NthChild p) = nth_child (progression_of p)
structure_of (NthLastChild p) = nth_last_child (progression_of p)
structure_of (NthOfType p) = nth_of_type (progression_of p)
structure_of (NthLastOfType p) = nth_last_of_type (progression_of p)

abbrev pub namespace_of : NamespaceOf → Namespace
namespace_of Absent = absent
namespace_of Any = any_namespace
namespace_of (Prefix prefix number) = of_prefix (cow_str_bytes prefix) number
namespace_of (Default number) = default number

abbrev pub local_of : LocalOf → Local
local_of AnyType = any_type
local_of (AType name) = a_type (cow_str_bytes name)
local_of (SomeAttribute name) = some_attribute (cow_str_bytes name)
local_of (AnAttribute test) =
    an_attribute (cow_str_bytes test.name) (comparison_of test.comparison) (cow_str_bytes test.text)
    test.ignores_case
local_of Implied = implied

abbrev pub simple_of : SimpleOf → Simple
simple_of Universal = universal
simple_of (TypeName name) = type_name (cow_str_bytes name)
simple_of (Id name) = id (cow_str_bytes name)
simple_of (Class name) = class (cow_str_bytes name)
simple_of (HasAttribute name) = has_attribute (cow_str_bytes name)
simple_of (Attribute test) =
    attribute (cow_str_bytes test.name) (comparison_of test.comparison) (cow_str_bytes test.text)
    test.ignores_case
simple_of (StructureIs s) = structure (structure_of s)
simple_of (Language ranges) = language (map cow_str_bytes ranges.items)
simple_of (State name) = state (cow_str_bytes name)
simple_of (Function call) = function (cow_str_bytes call.name) (cow_str_bytes call.argument)
simple_of (Element e) = named_element (cow_str_bytes e.name) (option_map cow_str_bytes e.argument)
simple_of (NestingIs n) = nesting n
simple_of (NamespacedIs n) = namespaced (namespace_of n.namespace) (local_of n.local)

abbrev pub list_test_of : ListTestOf → ListTest
list_test_of Has = has
list_test_of (NthChildList p) = nth_child_list (progression_of p)
list_test_of (NthLastChildList p) = nth_last_child_list (progression_of p)

-- one level, with what is within its lists already seen as the definitions see it
abbrev pub condition_step : Condition-F Condition (List Part) Part → Condition
condition_step (Condition-F.Simple s) = simple (simple_of s)
condition_step (Condition-F.Not selectors) = negation (selectors_from selectors.items)
condition_step (Condition-F.Is selectors) = any_of (selectors_from selectors.items)
condition_step (Condition-F.Where selectors) = where_any (selectors_from selectors.items)
condition_step (Condition-F.Tested test selectors) =
    tested (list_test_of test) (selectors_from selectors.items)

abbrev pub complex_step : Complex-F Condition (List Part) Part → List Part
complex_step s = s.parts.items

abbrev pub part_step : Part-F Condition (List Part) Part → Part
part_step p = record { combinator = p.combinator; conditions = p.conditions.items }

abbrev pub condition_of : ConditionOf → Condition
condition_of = fold-Condition Condition (List Part) Part condition_step complex_step part_step

abbrev pub part_of : PartOf → Part
part_of p = record { combinator = p.combinator; conditions = map condition_of p.conditions.items }

abbrev pub complex_of : Complex → List Part
complex_of s = map part_of (out-Complex s).parts.items

-- its name and its argument
abbrev pub element_name_of : ElementName → List ℕ × Option (List ℕ)
element_name_of e = (cow_str_bytes e.name, option_map cow_str_bytes e.argument)

abbrev pub pseudo_element_of : PseudoElementOf → PseudoElement
pseudo_element_of e = record {
  name = cow_str_bytes e.element.name;
  argument = option_map cow_str_bytes e.element.argument;
  after = map condition_of e.after.items;
}
