-- Of which lists the selectors of rules ask.
-- Serves `nested_lists_law`.
use Rattle.std.proofs.Common.{ℕ, ◌<◌, List, [], ◌∷◌, map}
use Rattle.css_selector_text.specs.declared.components.Nesting.{Nesting}
use Rattle.css_selector_text.specs.Components.{Simple, Condition, Conditions, Parts, Selectors, Part, Selector, conditions_from, parts_from}
use Rattle.css_selector_text.specs.Components.Simple.{universal, type_name, id, class, has_attribute, attribute, structure, language, state, function, named_element, nesting, namespaced}
use Rattle.css_selector_text.specs.Components.Condition.{simple, negation, any_of, where_any, tested}
use Rattle.css_selector_text.specs.Components.Conditions.{end_of_compound, with_condition}
use Rattle.css_selector_text.specs.Components.Parts.{end_of_selector, with_part}
use Rattle.css_selector_text.specs.Components.Selectors.{end_of_list, with_selector}
use Rattle.css_selector_text.specs.reading.Nested.{simple_under, selector_under}
use Rattle.css_selector_text.specs.Originating.{or_any, part_or_any, originating}
use Rattle.css_selector_text.specs.Simples.{condition_with, compound_with, complex_with, selectors_with, part_with}
use Rattle.css_tree.specs.Asked.{SimpleAsksBelow, AsksBelow, CompoundAsksBelow, PartsAskBelow, ListAsksBelow, SelectorAsksBelow}

-- ---- `&` stands for one list

module _ (list : Nesting) (n : ℕ) (below : list.number < n) where
  simple-under : (s : Simple) → SimpleAsksBelow n (simple_under list s)
  simple-under universal = tt
  simple-under (type_name name) = tt
  simple-under (id name) = tt
  simple-under (class name) = tt
  simple-under (has_attribute name) = tt
  simple-under (attribute name comparison value ignores) = tt
  simple-under (structure s) = tt
  simple-under (language ranges) = tt
  simple-under (state name) = tt
  simple-under (function name argument) = tt
  simple-under (named_element name argument) = tt
  simple-under (nesting other) = below
  simple-under (namespaced namespace local) = tt

  mutual
    condition-under : (c : Condition) → AsksBelow n (condition_with (simple_under list) c)
    condition-under (simple s) = simple-under s
    condition-under (negation selectors) = selectors-under selectors
    condition-under (any_of selectors) = selectors-under selectors
    condition-under (where_any selectors) = selectors-under selectors
    condition-under (tested test selectors) = selectors-under selectors

    compound-under : (cs : Conditions) → CompoundAsksBelow n (compound_with (simple_under list) cs)
    compound-under end_of_compound = tt
    compound-under (with_condition c cs) = (condition-under c, compound-under cs)

    complex-under : (ps : Parts) → PartsAskBelow n (complex_with (simple_under list) ps)
    complex-under end_of_selector = tt
    complex-under (with_part k c ps) = (compound-under c, complex-under ps)

    selectors-under : (ss : Selectors) → ListAsksBelow n (selectors_with (simple_under list) ss)
    selectors-under end_of_list = tt
    selectors-under (with_selector s ss) = (complex-under s, selectors-under ss)

  conditions-under : (cs : List Condition)
      → CompoundAsksBelow n (conditions_from (map (condition_with (simple_under list)) cs))
  conditions-under [] = tt
  conditions-under (c ∷ cs) = (condition-under c, conditions-under cs)

  parts-under : (ps : List Part)
      → PartsAskBelow n (parts_from (map (part_with (simple_under list)) ps))
  parts-under [] = tt
  parts-under (p ∷ ps) = (conditions-under p.conditions, parts-under ps)

  pub selector-under : (s : Selector) → SelectorAsksBelow n (selector_under list s)
  selector-under s = parts-under s.parts

-- ---- without a pseudo-element

or_any-asks : (n : ℕ) (cs : List Condition) → CompoundAsksBelow n (conditions_from cs)
    → CompoundAsksBelow n (conditions_from (or_any cs))
or_any-asks n [] h = (tt, tt)
or_any-asks n (c ∷ cs) h = h

originating_parts : (n : ℕ) (ps : List Part) → PartsAskBelow n (parts_from ps)
    → PartsAskBelow n (parts_from (map part_or_any ps))
originating_parts n [] h = tt
originating_parts n (p ∷ ps) h = (or_any-asks n p.conditions h.0, originating_parts n ps h.1)

pub originating-asks : (n : ℕ) (s : Selector) → SelectorAsksBelow n s
    → SelectorAsksBelow n (originating s)
originating-asks n s h = originating_parts n s.parts h
