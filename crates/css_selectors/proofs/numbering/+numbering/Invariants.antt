use Rattle.std.proofs.Common.{◌≡◌, map}
use Rattle.std.specs.Vec.Iter.{into_iter_items}
use Rattle.css_selectors.specs.MarkedLists.{list_of}
use Rattle.css_selectors.specs.Numberings.{numbered_each, numbered_condition, numbered_part, numbered_parts}
use Rattle.css_selector_text.specs.Views.{complex_of, condition_of, part_of}
use Rattle.css_selectors.proofs.NumberingLemmas.{before}
use Rattle.css_selectors.proofs.numbering.+numbering.Given as goal

-- those so far, and what is made of those that are left
abbrev pub invariant-number_selectors-loop-selector : goal.invariant-number_selectors-loop-selector
invariant-number_selectors-loop-selector l =
    before (map complex_of l.numbered.items)
    (numbered_each (numbered_parts l.numbers) (map list_of l.lists.items)
    (map complex_of (into_iter_items l.selector-iterator)))
    ≡ numbered_each (numbered_parts l.numbers) (map list_of l.fn.lists.items)
    (map complex_of l.fn.selectors.items)

abbrev pub invariant-number_parts-loop-part : goal.invariant-number_parts-loop-part
invariant-number_parts-loop-part l =
    before (map part_of l.numbered.items)
    (numbered_each (numbered_part l.numbers) (map list_of l.lists.items)
    (map part_of (into_iter_items l.part-iterator)))
    ≡ numbered_each (numbered_part l.numbers) (map list_of l.fn.lists.items)
    (map part_of l.fn.parts.items)

abbrev pub invariant-number_conditions-loop-condition : goal.invariant-number_conditions-loop-condition
invariant-number_conditions-loop-condition l =
    before (map condition_of l.numbered.items)
    (numbered_each (numbered_condition l.numbers) (map list_of l.lists.items)
    (map condition_of (into_iter_items l.condition-iterator)))
    ≡ numbered_each (numbered_condition l.numbers) (map list_of l.fn.lists.items)
    (map condition_of l.fn.conditions.items)
