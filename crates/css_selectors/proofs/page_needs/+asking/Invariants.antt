use Rattle.std.proofs.Common.{◌≡◌, false, drop, map}
use Rattle.css_selector_text.specs.Components.{conditions_from, parts_from, selectors_from}
use Rattle.css_selector_text.specs.Views.{complex_of, condition_of, part_of}
use Rattle.css_selectors.specs.PageNeeds.{compound_asks_page, parts_ask_page, some_ask_page}
use Rattle.css_selectors.proofs.page_needs.+asking.Given as goal

abbrev pub invariant-compound_asks_page-loop-condition : goal.invariant-compound_asks_page-loop-condition
invariant-compound_asks_page-loop-condition l =
    compound_asks_page l.asks (conditions_from (map condition_of (drop l.condition-index l.conditions)))
    ≡ compound_asks_page l.fn.so_far (conditions_from (map condition_of l.conditions))

abbrev pub invariant-parts_ask_page-loop-part : goal.invariant-parts_ask_page-loop-part
invariant-parts_ask_page-loop-part l =
    parts_ask_page l.asks (parts_from (map part_of (drop l.part-index l.parts)))
    ≡ parts_ask_page l.fn.so_far (parts_from (map part_of l.parts))

abbrev pub invariant-some_ask_page-loop-selector : goal.invariant-some_ask_page-loop-selector
invariant-some_ask_page-loop-selector l =
    some_ask_page l.asks (selectors_from (map complex_of (drop l.selector-index l.selectors)))
    ≡ some_ask_page false (selectors_from (map complex_of l.selectors))
