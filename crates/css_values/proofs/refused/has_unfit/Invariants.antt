use Rattle.std.proofs.Common.{◌≡◌, length}
use Rattle.css_values.specs.Refused.{components, has_unfit}
use Rattle.css_values.specs.RefusedViews.{sorts_of}
use Rattle.css_values.proofs.refused.has_unfit.Given as goal

-- What is left decides.
abbrev pub invariant-tokens : goal.invariant-tokens
invariant-tokens l =
    has_unfit (sorts_of l.sorts) (components l.value) ≡ has_unfit (sorts_of l.sorts) (components l.rest)

abbrev pub decreases-tokens : goal.decreases-tokens
decreases-tokens l = length l.rest
