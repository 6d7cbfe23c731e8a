use Rattle.std.proofs.Common.{◌≡◌, drop, map}
use Rattle.css_selector_text.specs.Components.{conditions_from, parts_from, selectors_from}
use Rattle.css_selector_text.specs.Specificities.{of_compound, of_parts, greatest, nothing}
use Rattle.css_selector_text.specs.SpecificityViews.{counts_of}
use Rattle.css_selector_text.specs.Views.{complex_of, condition_of, part_of}
use Rattle.css_selector_text.proofs.specificity.+counting.Given as goal

abbrev pub invariant-with_each-loop-condition : goal.invariant-with_each-loop-condition
invariant-with_each-loop-condition l =
    of_compound (counts_of l.counted) (conditions_from (map condition_of (drop l.condition-index l.conditions)))
    ≡ of_compound (counts_of l.fn.so_far) (conditions_from (map condition_of l.conditions))

abbrev pub invariant-of_parts-loop-part : goal.invariant-of_parts-loop-part
invariant-of_parts-loop-part l =
    of_parts (counts_of l.counted) (parts_from (map part_of (drop l.part-index l.parts)))
    ≡ of_parts nothing (parts_from (map part_of l.parts))

abbrev pub invariant-greatest-loop-selector : goal.invariant-greatest-loop-selector
invariant-greatest-loop-selector l =
    greatest (counts_of l.most) (selectors_from (map complex_of (drop l.selector-index l.selectors)))
    ≡ greatest nothing (selectors_from (map complex_of l.selectors))
