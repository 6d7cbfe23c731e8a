use Rattle.std.proofs.Common.{◌≡◌, ◌++◌, map, take}
use Rattle.css_selector_text.specs.Components.{parts_from}
use Rattle.css_selectors.specs.KeyViews.{key_of}
use Rattle.css_selectors.specs.Keys.{parts_key}
use Rattle.css_selector_text.specs.Views.{complex_of}
use Rattle.css_selectors.proofs.key.push_selectors.Given as goal

-- the keys so far
abbrev pub invariant-loop-selector : goal.invariant-loop-selector
invariant-loop-selector l =
    map key_of l.keys.items
    ≡ map key_of l.initial.keys.items
    ++ map (λ s. parts_key (parts_from (complex_of s))) (take l.selector-index l.selectors)
