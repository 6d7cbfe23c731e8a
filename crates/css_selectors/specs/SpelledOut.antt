-- Selectors with another condition in place of each `&`, as `:is()` of the list that it stands for.
use Rattle.std.specs.Prelude.{map}
use Rattle.std.specs.Option.{option_map}
use Rattle.css_selector_text.specs.declared.components.Nesting.{Nesting}
use Rattle.css_selector_text.specs.Components.{Simple, Condition, Conditions, Parts, Selectors, Part, PseudoElement, Selector}
use Rattle.css_selector_text.specs.Components.Simple.{nesting}
use Rattle.css_selector_text.specs.Components.Condition.{simple, negation, any_of, where_any, tested}
use Rattle.css_selector_text.specs.Components.Conditions.{end_of_compound, with_condition}
use Rattle.css_selector_text.specs.Components.Parts.{end_of_selector, with_part}
use Rattle.css_selector_text.specs.Components.Selectors.{end_of_list, with_selector}

abbrev pub spelled_simple : (Nesting → Condition) → Simple → Condition
spelled_simple spell (nesting list) = spell list
spelled_simple spell s = simple s

abbrev mutual
  pub spelled_condition : (Nesting → Condition) → Condition → Condition
  spelled_condition spell (simple s) = spelled_simple spell s
  spelled_condition spell (negation selectors) = negation (spelled_list spell selectors)
  spelled_condition spell (any_of selectors) = any_of (spelled_list spell selectors)
  spelled_condition spell (where_any selectors) = where_any (spelled_list spell selectors)
  spelled_condition spell (tested test selectors) = tested test (spelled_list spell selectors)

  -- a compound selector in a list
  pub spelled_compound : (Nesting → Condition) → Conditions → Conditions
  spelled_compound spell end_of_compound = end_of_compound
  spelled_compound spell (with_condition c conditions) =
      with_condition (spelled_condition spell c) (spelled_compound spell conditions)

  -- a complex selector in a list
  pub spelled_complex : (Nesting → Condition) → Parts → Parts
  spelled_complex spell end_of_selector = end_of_selector
  spelled_complex spell (with_part k c parts) =
      with_part k (spelled_compound spell c) (spelled_complex spell parts)

  -- the lists of `:not()` and the like
  pub spelled_list : (Nesting → Condition) → Selectors → Selectors
  spelled_list spell end_of_list = end_of_list
  spelled_list spell (with_selector s selectors) =
      with_selector (spelled_complex spell s) (spelled_list spell selectors)

abbrev pub spelled_part : (Nesting → Condition) → Part → Part
spelled_part spell p = record {
  combinator = p.combinator;
  conditions = map (spelled_condition spell) p.conditions;
}

abbrev pub spelled_element : (Nesting → Condition) → PseudoElement → PseudoElement
spelled_element spell e = record {
  name = e.name;
  argument = e.argument;
  after = map (spelled_condition spell) e.after;
}

-- the selector with what `spell` says of its list in place of each `&`
abbrev pub spelled_by : (Nesting → Condition) → Selector → Selector
spelled_by spell s = record {
  parts = map (spelled_part spell) s.parts;
  pseudo_element = option_map (spelled_element spell) s.pseudo_element;
}

-- `:is()` of the one list for which each `&` stands
abbrev pub as_list : Selectors → Nesting → Condition
as_list all list = any_of all

-- the selector with `:is()` of a list in place of each `&`
abbrev pub spelled_selector : Selectors → Selector → Selector
spelled_selector all s = spelled_by (as_list all) s
