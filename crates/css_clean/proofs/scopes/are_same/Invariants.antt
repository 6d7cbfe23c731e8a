use Rattle.std.proofs.Common.{◌≡◌, length, map}
use Rattle.css_selector_text.specs.Views.{condition_of}
use Rattle.css_clean.specs.Scopes.{are_same}
use Rattle.css_clean.proofs.scopes.are_same.Given as goal

-- What is left of both decides.
abbrev pub invariant-conditions : goal.invariant-conditions
invariant-conditions l =
    are_same (map condition_of l.scope) (map condition_of l.conditions)
    ≡ are_same (map condition_of l.left) (map condition_of l.rest)

abbrev pub decreases-conditions : goal.decreases-conditions
decreases-conditions l = length l.left
