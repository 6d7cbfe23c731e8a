use Rattle.std.proofs.Common.{◌≡◌, length, drop}
use Rattle.std.specs.List.{All}
use Rattle.css_styles.specs.internal.Floors.{IsComing}
use Rattle.css_styles.proofs.floors.find_standings.Given as goal

-- with those that are to come, it is known of each property in the end
abbrev pub invariant-loop-one : goal.invariant-loop-one
invariant-loop-one l =
    (length l.standings ≡ length l.fn.standings)
    × All (λ r. IsComing l.ranked l.standings (drop l.one-index l.ranked) r.property) l.ranked
