-- Selectors of which each simple selector is another.
use Rattle.std.specs.Prelude.{map}
use Rattle.std.specs.Option.{option_map}
use Rattle.css_selector_text.specs.Components.{Simple, Condition, Conditions, Parts, Selectors, Part, PseudoElement, Selector}
use Rattle.css_selector_text.specs.Components.Condition.{simple, negation, any_of, where_any, tested}
use Rattle.css_selector_text.specs.Components.Conditions.{end_of_compound, with_condition}
use Rattle.css_selector_text.specs.Components.Parts.{end_of_selector, with_part}
use Rattle.css_selector_text.specs.Components.Selectors.{end_of_list, with_selector}

abbrev mutual
  pub condition_with : (Simple → Simple) → Condition → Condition
  condition_with change (simple s) = simple (change s)
  condition_with change (negation selectors) = negation (selectors_with change selectors)
  condition_with change (any_of selectors) = any_of (selectors_with change selectors)
  condition_with change (where_any selectors) = where_any (selectors_with change selectors)
  condition_with change (tested test selectors) =
      tested test (selectors_with change selectors)

  -- a compound selector in a list
  pub compound_with : (Simple → Simple) → Conditions → Conditions
  compound_with change end_of_compound = end_of_compound
  compound_with change (with_condition c conditions) =
      with_condition (condition_with change c) (compound_with change conditions)

  -- a complex selector in a list
  pub complex_with : (Simple → Simple) → Parts → Parts
  complex_with change end_of_selector = end_of_selector
  complex_with change (with_part k c parts) =
      with_part k (compound_with change c) (complex_with change parts)

  -- the lists of `:not()` and the like
  pub selectors_with : (Simple → Simple) → Selectors → Selectors
  selectors_with change end_of_list = end_of_list
  selectors_with change (with_selector s selectors) =
      with_selector (complex_with change s) (selectors_with change selectors)

abbrev pub part_with : (Simple → Simple) → Part → Part
part_with change p = record {
  combinator = p.combinator;
  conditions = map (condition_with change) p.conditions;
}

-- The name of a pseudo-element and its argument stay.
abbrev pub pseudo_element_with : (Simple → Simple) → PseudoElement → PseudoElement
pseudo_element_with change e = record {
  name = e.name;
  argument = e.argument;
  after = map (condition_with change) e.after;
}

abbrev pub selector_with_each : (Simple → Simple) → Selector → Selector
selector_with_each change s = record {
  parts = map (part_with change) s.parts;
  pseudo_element = option_map (pseudo_element_with change) s.pseudo_element;
}
