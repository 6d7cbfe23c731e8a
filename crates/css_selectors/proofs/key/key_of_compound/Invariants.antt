use Rattle.std.proofs.Common.{◌≡◌, length, map}
use Rattle.css_selector_text.specs.Components.{conditions_from}
use Rattle.css_selectors.specs.KeyViews.{key_of}
use Rattle.css_selectors.specs.Keys.{best_key, compound_key}
use Rattle.css_selector_text.specs.Views.{condition_of}
use Rattle.css_selectors.proofs.key.key_of_compound.Given as goal

-- the best of what is left is the best of all
abbrev pub invariant-conditions : goal.invariant-conditions
invariant-conditions l =
    best_key (key_of l.best) (conditions_from (map condition_of l.rest))
    ≡ compound_key (conditions_from (map condition_of l.conditions))

abbrev pub decreases-conditions : goal.decreases-conditions
decreases-conditions l = length l.rest
