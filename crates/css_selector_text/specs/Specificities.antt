-- Specificity (section 9; Selectors 4, section 17, for lists). Each count stops at 4,294,967,295.
use Rattle.std.specs.Prelude.{ℕ, ◌+◌, Bool, ◌&&◌, ◌||◌, ◌==◌, nat_lt, min, if◌then◌else◌, Option, None, Some}
use Rattle.css_selector_text.specs.Components.{Local, Simple, ListTest, Condition, Conditions, Parts, Selectors, conditions_from, parts_from, PseudoElement, Selector}
use Rattle.css_selector_text.specs.Components.ListTest.{has, nth_child, nth_last_child}
use Rattle.css_selector_text.specs.Components.Local.{any_type, a_type, some_attribute, an_attribute, implied}
use Rattle.css_selector_text.specs.Components.Simple.{universal, type_name, id, class, has_attribute, attribute, structure, language, state, function, named_element, nesting, namespaced}
use Rattle.css_selector_text.specs.Components.Condition.{simple, negation, any_of, where_any, tested}
use Rattle.css_selector_text.specs.Components.Conditions.{end_of_compound, with_condition}
use Rattle.css_selector_text.specs.Components.Parts.{end_of_selector, with_part}
use Rattle.css_selector_text.specs.Components.Selectors.{end_of_list, with_selector}

-- the numbers of ids, of classes, attributes and pseudo-classes, and of type names and pseudo-elements
pub record Counts : Type 0 where
  pub ids : ℕ
  pub classes : ℕ
  pub names : ℕ

abbrev pub nothing : Counts
nothing = record { ids = 0; classes = 0; names = 0 }

abbrev pub one_id : Counts
one_id = record { ids = 1; classes = 0; names = 0 }

abbrev pub one_class : Counts
one_class = record { ids = 0; classes = 1; names = 0 }

abbrev pub one_name : Counts
one_name = record { ids = 0; classes = 0; names = 1 }

-- a sum that stops at the greatest `u32`
abbrev pub sum_up_to : ℕ → ℕ → ℕ
sum_up_to a b = min (a + b) 4294967295

abbrev pub plus : Counts → Counts → Counts
plus a b = record {
  ids = sum_up_to a.ids b.ids;
  classes = sum_up_to a.classes b.classes;
  names = sum_up_to a.names b.names;
}

-- the first is less: ids decide, then classes, then names
abbrev pub is_less : Counts → Counts → Bool
is_less a b =
    nat_lt a.ids b.ids
    || (a.ids == b.ids && (nat_lt a.classes b.classes
    || (a.classes == b.classes && nat_lt a.names b.names)))

abbrev pub greater : Counts → Counts → Counts
greater a b = if is_less a b then b else a

-- what is in a namespace counts as without one
abbrev pub of_local : Local → Counts
of_local any_type = nothing
of_local (a_type name) = one_name
of_local (some_attribute name) = one_class
of_local (an_attribute name comparison text ignores) = one_class
of_local implied = nothing

abbrev pub of_simple : Simple → Counts
of_simple universal = nothing
of_simple (type_name name) = one_name
of_simple (id text) = one_id
of_simple (class word) = one_class
of_simple (has_attribute name) = one_class
of_simple (attribute name comparison text ignores) = one_class
of_simple (structure s) = one_class
of_simple (language ranges) = one_class
of_simple (state name) = one_class
of_simple (function name argument) = one_class
of_simple (named_element name argument) = one_name
of_simple (nesting list) = record {
  ids = list.specificity.ids;
  classes = list.specificity.classes;
  names = list.specificity.names;
}
of_simple (namespaced namespace local) = of_local local

-- a pseudo-class with a list of which the greatest counts so much
abbrev pub of_test : ListTest → Counts → Counts
of_test has most = most
of_test (nth_child p) most = plus one_class most
of_test (nth_last_child p) most = plus one_class most

abbrev mutual
  -- `:not()`, `:is()` and `:has()` count as the greatest of their lists, `:where()` counts nothing, and
  -- a list after `An+B` counts besides the pseudo-class
  pub of_condition : Condition → Counts
  of_condition (simple s) = of_simple s
  of_condition (negation selectors) = greatest nothing selectors
  of_condition (any_of selectors) = greatest nothing selectors
  of_condition (where_any selectors) = nothing
  of_condition (tested test selectors) = of_test test (greatest nothing selectors)

  -- what is counted so far, and the conditions of a compound selector
  pub of_compound : Counts → Conditions → Counts
  of_compound so_far end_of_compound = so_far
  of_compound so_far (with_condition c conditions) =
      of_compound (plus so_far (of_condition c)) conditions

  -- and the compound selectors of a complex selector
  pub of_parts : Counts → Parts → Counts
  of_parts so_far end_of_selector = so_far
  of_parts so_far (with_part k c parts) = of_parts (of_compound so_far c) parts

  -- the greatest of a list, and of what is greatest so far
  pub greatest : Counts → Selectors → Counts
  greatest so_far end_of_list = so_far
  greatest so_far (with_selector s selectors) =
      greatest (greater so_far (of_parts nothing s)) selectors

-- a pseudo-element with what follows it
abbrev pub of_pseudo_element : Option PseudoElement → Counts
of_pseudo_element None = nothing
of_pseudo_element (Some e) = of_compound one_name (conditions_from e.after)

abbrev pub specificity : Selector → Counts
specificity s = plus (of_parts nothing (parts_from s.parts)) (of_pseudo_element s.pseudo_element)
