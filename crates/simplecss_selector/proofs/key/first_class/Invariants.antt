use Rattle.std.proofs.Common.{◌≡◌, map, drop}
use Rattle.simplecss_selector.specs.Keys.{required_class, first_required}
use Rattle.simplecss_selector.specs.internal.SelectorViews.{subselector_of}
use Rattle.simplecss_selector.proofs.key.first_class.Given as goal

-- the answer is that of what is left
abbrev pub invariant-loop-subselector : goal.invariant-loop-subselector
invariant-loop-subselector l =
    first_required required_class (map subselector_of l.subselectors)
    ≡ first_required required_class (map subselector_of (drop l.subselector-index l.subselectors))
