-- Which selectors ask more than an element, its ancestors and their earlier siblings can answer.
use Rattle.std.specs.Prelude.{◌||◌, ◌==◌, Bool, true, false, not}
use Rattle.css_selector_text.specs.Components.{Simple, Condition, Conditions, Parts, Selectors, Selector, parts_from}
use Rattle.css_selector_text.specs.Components.Simple.{nesting}
use Rattle.css_selector_text.specs.Components.Condition.{simple, negation, any_of, where_any, tested}
use Rattle.css_selector_text.specs.Components.Conditions.{end_of_compound, with_condition}
use Rattle.css_selector_text.specs.Components.Parts.{end_of_selector, with_part}
use Rattle.css_selector_text.specs.Components.Selectors.{end_of_list, with_selector}

-- It is an `&` that denotes a list of selectors, or what stands for a pseudo-class with a list. The list of number 0 is
-- that of the scoping root, which an element knows.
abbrev pub asks_list : Simple → Bool
asks_list (nesting list) = not (list.number == 0)
asks_list s = false

abbrev mutual
  -- such a list is asked in the condition, or there is `:has()` or a list after `An+B`
  pub asks_page : Condition → Bool
  asks_page (simple s) = asks_list s
  asks_page (negation selectors) = some_ask_page false selectors
  asks_page (any_of selectors) = some_ask_page false selectors
  asks_page (where_any selectors) = some_ask_page false selectors
  asks_page (tested test selectors) = true

  -- it was so before, or is of one of the conditions
  pub compound_asks_page : Bool → Conditions → Bool
  compound_asks_page so_far end_of_compound = so_far
  compound_asks_page so_far (with_condition c conditions) = compound_asks_page (so_far || asks_page c) conditions

  -- or of one of the compound selectors
  pub parts_ask_page : Bool → Parts → Bool
  parts_ask_page so_far end_of_selector = so_far
  parts_ask_page so_far (with_part k c parts) = parts_ask_page (compound_asks_page so_far c) parts

  -- or of one of the selectors of a list
  pub some_ask_page : Bool → Selectors → Bool
  some_ask_page so_far end_of_list = so_far
  some_ask_page so_far (with_selector parts selectors) = some_ask_page (parts_ask_page so_far parts) selectors

-- The selector needs the page: one element does not answer.
abbrev pub needs_page : Selector → Bool
needs_page s = parts_ask_page false (parts_from s.parts)
