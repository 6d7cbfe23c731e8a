use Rattle.std.proofs.Common.{◌≡◌, [], ◌∷◌, length, map}
use Rattle.css_selectors.specs.KeyViews.{keys_of_best}
use Rattle.css_selectors.specs.Keys.{best_keys, least_rank}
use Rattle.css_selectors.specs.Keys.Key.{by_nothing}
use Rattle.css_selector_text.specs.Views.{condition_of}
use Rattle.css_selectors.proofs.key.best_condition.Given as goal

-- the best of what is left is the best of all, and the rank is that of the best so far
abbrev pub invariant-conditions : goal.invariant-conditions
invariant-conditions l =
    (best_keys (keys_of_best l.best) (map condition_of l.rest)
    ≡ best_keys (by_nothing ∷ []) (map condition_of l.conditions))
    × (l.greatest ≡ least_rank (keys_of_best l.best))

abbrev pub decreases-conditions : goal.decreases-conditions
decreases-conditions l = length l.rest
