use Rattle.std.proofs.Common.{◌≡◌, length, take}
use Rattle.std.specs.List.{All}
use Rattle.css_styles.specs.internal.Floors.{IsComing}
use Rattle.css_styles.proofs.floors.forget.Given as goal

-- nothing is known of the properties so far
abbrev pub invariant-loop-one : goal.invariant-loop-one
invariant-loop-one l =
    (length l.standings ≡ length l.fn.standings)
    × All (λ r. IsComing l.ranked l.standings l.ranked r.property) (take l.one-index l.ranked)
