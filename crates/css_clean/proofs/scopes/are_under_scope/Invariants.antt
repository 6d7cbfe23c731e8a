use Rattle.std.proofs.Common.{◌≡◌, length, map}
use Rattle.css_selector_text.specs.reading.ReadViews.{placed_of}
use Rattle.css_selector_text.specs.Views.{part_of}
use Rattle.css_clean.specs.Scopes.{are_under_scope}
use Rattle.css_clean.proofs.scopes.are_under_scope.Given as goal

-- What is left decides.
abbrev pub invariant-selectors : goal.invariant-selectors
invariant-selectors l =
    are_under_scope l.itself (map part_of l.scope) (map placed_of l.all)
    ≡ are_under_scope l.itself (map part_of l.scope) (map placed_of l.rest)

abbrev pub decreases-selectors : goal.decreases-selectors
decreases-selectors l = length l.rest
