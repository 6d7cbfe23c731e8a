use Rattle.std.proofs.Common.{◌≡◌, Some, None, length, take}
use Rattle.std.specs.List.{All, slice_get}
use Rattle.css_styles.proofs.contest.forget.Given as goal

-- nothing is noted of the properties so far
abbrev pub invariant-loop-one : goal.invariant-loop-one
invariant-loop-one l =
    (length l.best ≡ length l.fn.best)
    × All (λ n. slice_get l.best n.property ≡ Some None) (take l.one-index l.contenders)
