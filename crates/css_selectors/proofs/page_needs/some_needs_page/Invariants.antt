use Rattle.std.proofs.Common.{◌≡◌, length, map}
use Rattle.std.specs.List.{list_any}
use Rattle.css_selectors.specs.PageNeeds.{needs_page}
use Rattle.css_selectors.proofs.page_needs.some_needs_page.Given as goal

abbrev pub invariant-rules : goal.invariant-rules
invariant-rules g l =
    list_any needs_page (map g.T.HasSelector.selector_in l.rest)
    ≡ list_any needs_page (map g.T.HasSelector.selector_in l.rules)

abbrev pub decreases-rules : goal.decreases-rules
decreases-rules g l = length l.rest
