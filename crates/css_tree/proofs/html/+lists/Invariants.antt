use Rattle.std.proofs.Common.{◌≡◌, map, take}
use Rattle.css_selector_text.specs.Views.{complex_of, condition_of, part_of}
use Rattle.css_tree.specs.Html.{condition_in, part_in}
use Rattle.css_tree.proofs.html.+lists.Given as goal

-- those so far
abbrev pub invariant-selectors_in-loop-selector : goal.invariant-selectors_in-loop-selector
invariant-selectors_in-loop-selector l =
    map complex_of l.read.items
    ≡ map (map (part_in l.mode)) (map complex_of (take l.selector-index l.selectors))

abbrev pub invariant-parts_in-loop-part : goal.invariant-parts_in-loop-part
invariant-parts_in-loop-part l =
    map part_of l.read.items
    ≡ map (part_in l.mode) (map part_of (take l.part-index l.parts))

abbrev pub invariant-conditions_in-loop-condition : goal.invariant-conditions_in-loop-condition
invariant-conditions_in-loop-condition l =
    map condition_of l.read.items
    ≡ map (condition_in l.mode) (map condition_of (take l.condition-index l.conditions))
