use Rattle.std.proofs.Common.{◌≡◌, ◌++◌, map}
use Rattle.std.specs.Vec.Iter.{into_iter_items}
use Rattle.css_selector_text.specs.reading.Nested.{simple_under}
use Rattle.css_selector_text.specs.Simples.{condition_with, part_with}
use Rattle.css_selector_text.specs.Views.{complex_of, condition_of, part_of}
use Rattle.css_selector_text.proofs.reading.nesting.+nesting.Given as goal

-- those so far, and what is made of those that are left
abbrev pub invariant-selectors_under-loop-selector : goal.invariant-selectors_under-loop-selector
invariant-selectors_under-loop-selector l =
    map complex_of l.under.items
    ++ map (map (part_with (simple_under l.list))) (map complex_of (into_iter_items l.selector-iterator))
    ≡ map (map (part_with (simple_under l.list))) (map complex_of l.fn.selectors.items)

abbrev pub invariant-parts_under-loop-part : goal.invariant-parts_under-loop-part
invariant-parts_under-loop-part l =
    map part_of l.under.items
    ++ map (part_with (simple_under l.list)) (map part_of (into_iter_items l.part-iterator))
    ≡ map (part_with (simple_under l.list)) (map part_of l.fn.parts.items)

abbrev pub invariant-conditions_under-loop-condition : goal.invariant-conditions_under-loop-condition
invariant-conditions_under-loop-condition l =
    map condition_of l.under.items
    ++ map (condition_with (simple_under l.list)) (map condition_of (into_iter_items l.condition-iterator))
    ≡ map (condition_with (simple_under l.list)) (map condition_of l.fn.conditions.items)
