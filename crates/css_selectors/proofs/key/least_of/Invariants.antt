use Rattle.std.proofs.Common.{◌≡◌, ◌≤◌, length, map}
use Rattle.std.specs.Prelude.{min}
use Rattle.css_selector_text.specs.Components.{selectors_from}
use Rattle.css_selectors.specs.Keys.{selector_keys, least_rank}
use Rattle.css_selector_text.specs.Views.{complex_of}
use Rattle.css_selectors.proofs.key.least_of.Given as goal

-- the least of what was read and of what is left
abbrev pub invariant-selectors : goal.invariant-selectors
invariant-selectors l =
    (min l.least (least_rank (selector_keys (selectors_from (map complex_of l.rest))))
    ≡ least_rank (selector_keys (selectors_from (map complex_of l.selectors))))
    × (l.least ≤ 4)

abbrev pub decreases-selectors : goal.decreases-selectors
decreases-selectors l = length l.rest
