use Rattle.std.proofs.Common.{◌≡◌, length, take}
use Rattle.std.specs.List.{All}
use Rattle.css_styles.specs.internal.Numbered.{IsNoted}
use Rattle.css_styles.proofs.contest.note.Given as goal

-- the best of those so far is noted
abbrev pub invariant-loop-one : goal.invariant-loop-one
invariant-loop-one l =
    (length l.best ≡ length l.fn.best)
    × All (IsNoted (take l.one-index l.contenders) l.best) l.contenders
