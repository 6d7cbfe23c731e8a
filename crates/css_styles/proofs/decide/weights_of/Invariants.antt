use Rattle.std.proofs.Common.{◌≡◌, map, take}
use Rattle.css_styles.specs.internal.Floors.{ranked_alone}
use Rattle.css_styles.proofs.decide.weights_of.Given as goal

-- those so far
abbrev pub invariant-loop-one : goal.invariant-loop-one
invariant-loop-one l = l.ranked.items ≡ map ranked_alone (take l.one-index l.rivals)
