-- What `&` stands for in the rules in a style rule (CSS Nesting 1, section 3).
use Rattle.std.specs.Prelude.{ℕ, List, [], ◌∷◌, Option, Some, None}
use Rattle.std.specs.List.{filter_map}
use Rattle.css_selector_text.specs.declared.components.Nesting.{Nesting}
use Rattle.css_selector_text.specs.Components.{Selector}
use Rattle.css_selector_text.specs.Specificities.{Counts, greater, nothing, specificity, sum_up_to}
use Rattle.css_sheet.specs.RuleSelectors.{SelectorRead}

-- a pseudo-element counts as a name
abbrev pub with_element : Counts → Option (List ℕ) → Counts
with_element counts None = counts
with_element counts (Some name) =
    record { ids = counts.ids; classes = counts.classes; names = sum_up_to counts.names 1 }

abbrev pub counts_with : Option (List ℕ) → Option Selector → Counts
counts_with pseudo_element None = nothing
counts_with pseudo_element (Some s) = with_element (specificity s) pseudo_element

-- what a selector counts: nothing, if it is unsupported
abbrev pub read_counts : SelectorRead → Counts
read_counts read = counts_with read.pseudo_element read.selector

-- no pseudo-element is an element
abbrev pub if_of_elements : Option (List ℕ) → Option Selector → Option Selector
if_of_elements None selector = selector
if_of_elements (Some name) selector = None

abbrev pub element_selector : SelectorRead → Option Selector
element_selector read = if_of_elements read.pseudo_element read.selector

-- The list that `&` stands for in the rules in a rule with these selectors: those of elements that are
-- supported.
abbrev pub element_selectors : List SelectorRead → List Selector
element_selectors all = filter_map element_selector all

-- the greatest that these count, or what is counted so far
abbrev pub greatest_of : Counts → List Selector → Counts
greatest_of so_far [] = so_far
greatest_of so_far (s ∷ selectors) = greatest_of (greater so_far (specificity s)) selectors

-- What `&` counts there. As in `:is()`, selectors with a pseudo-element do not count (section 3.1).
abbrev pub nesting_counts : List SelectorRead → Counts
nesting_counts all = greatest_of nothing (element_selectors all)

-- what `&` stands for there, where that list has this number
abbrev pub list_numbered : (number : ℕ) → Counts → Nesting
list_numbered number counts = record {
  number = number;
  specificity =
      record { ids = counts.ids; classes = counts.classes; names = counts.names };
}
