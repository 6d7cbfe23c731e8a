use Rattle.std.proofs.Common.{◌≡◌, ◌++◌, length, map}
use Rattle.std.specs.Vec.Iter.{into_iter_items}
use Rattle.css_selector_text.specs.reading.Defaults.{condition_in, parts_in, row_in}
use Rattle.css_selector_text.specs.Views.{complex_of, condition_of, part_of}
use Rattle.css_selector_text.proofs.reading.defaults.+defaults.Given as goal

-- those so far, and what is made of those that are left
abbrev pub invariant-selectors_in-loop-selector : goal.invariant-selectors_in-loop-selector
invariant-selectors_in-loop-selector l =
    map complex_of l.all.items
    ++ map (parts_in l.number l.exempting) (map complex_of (into_iter_items l.selector-iterator))
    ≡ map (parts_in l.fn.number l.fn.exempting) (map complex_of l.fn.selectors.items)

abbrev pub invariant-conditions_in-loop-condition : goal.invariant-conditions_in-loop-condition
invariant-conditions_in-loop-condition l =
    map condition_of l.all.items
    ++ map (condition_in l.number l.exempting) (map condition_of (into_iter_items l.condition-iterator))
    ≡ row_in l.fn.number l.fn.exempting l.fn.is_last (map condition_of l.fn.conditions.items)

abbrev pub invariant-parts_in-loop-part : goal.invariant-parts_in-loop-part
invariant-parts_in-loop-part l = record {
  left : l.left ≡ length (into_iter_items l.part-iterator);
  found : map part_of l.all.items
      ++ parts_in l.number l.exempting (map part_of (into_iter_items l.part-iterator))
      ≡ parts_in l.fn.number l.fn.exempting (map part_of l.fn.parts.items);
}
