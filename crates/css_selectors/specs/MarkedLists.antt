-- Lists of selectors that have a number.
use Rattle.std.specs.Prelude.{List, map}
use Rattle.css_selectors.specs.declared.marked_list.MarkedList.{MarkedList}
use Rattle.css_selectors.specs.declared.marked_list.MarkedList.TheVariants.{Matched, Tested}
use Rattle.css_selector_text.specs.Components.{ListTest, Selectors, Selector, selectors_from}
use Rattle.css_selector_text.specs.Views.{complex_of, list_test_of}

-- The elements that one of the selectors matches, which is what `&` denotes, or those of which a
-- pseudo-class with this list holds.
pub data ListText : Type 0 where
  matched : List Selector → ListText
  tested : ListTest → Selectors → ListText

abbrev pub list_of : MarkedList → ListText
list_of (Matched selectors) = matched selectors.items
list_of (Tested test selectors) =
    tested (list_test_of test) (selectors_from (map complex_of selectors.items))
