use Rattle.std.proofs.Common.{◌≡◌, ◌++◌, map, take}
use Rattle.css_styles.specs.StyleViews.{winner_of}
use Rattle.css_styles.specs.Winners.{as_winner}
use Rattle.css_styles.specs.internal.Numbered.{numbered_of}
use Rattle.css_styles.proofs.contest.push_winners.Given as goal

-- those so far
abbrev pub invariant-loop-one : goal.invariant-loop-one
invariant-loop-one l =
    map winner_of l.found.items ≡ map winner_of l.fn.found.items
    ++ map as_winner (map numbered_of (take l.one-index l.contenders))
