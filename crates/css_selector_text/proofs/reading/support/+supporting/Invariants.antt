use Rattle.std.proofs.Common.{◌≡◌, true, drop, map}
use Rattle.css_selector_text.specs.Components.{conditions_from, parts_from, selectors_from}
use Rattle.css_selector_text.specs.reading.Supported.{have_meaning, parts_supported, are_supported}
use Rattle.css_selector_text.specs.Views.{complex_of, condition_of, part_of}
use Rattle.css_selector_text.proofs.reading.support.+supporting.Given as goal

abbrev pub invariant-have_meaning-loop-condition : goal.invariant-have_meaning-loop-condition
invariant-have_meaning-loop-condition l =
    have_meaning l.left l.all (conditions_from (map condition_of (drop l.condition-index l.conditions)))
    ≡ have_meaning l.fn.left l.fn.so_far (conditions_from (map condition_of l.conditions))

abbrev pub invariant-parts_supported-loop-part : goal.invariant-parts_supported-loop-part
invariant-parts_supported-loop-part l =
    parts_supported l.left l.all (parts_from (map part_of (drop l.part-index l.parts)))
    ≡ parts_supported l.fn.left l.fn.so_far (parts_from (map part_of l.parts))

abbrev pub invariant-are_supported-loop-selector : goal.invariant-are_supported-loop-selector
invariant-are_supported-loop-selector l =
    are_supported l.left l.all (selectors_from (map complex_of (drop l.selector-index l.selectors)))
    ≡ are_supported l.left true (selectors_from (map complex_of l.selectors))
