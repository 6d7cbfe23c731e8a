use Rattle.std.proofs.Common.{◌≡◌, map, take}
use Rattle.css_styles.specs.internal.Floors.{ranked_of}
use Rattle.css_styles.proofs.contest.weights_of.Given as goal

-- those so far
abbrev pub invariant-loop-one : goal.invariant-loop-one
invariant-loop-one l = l.ranked.items ≡ map ranked_of (take l.one-index l.contenders)
