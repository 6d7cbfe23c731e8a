use Rattle.std.proofs.Common.{◌≡◌, take, option_map}
use Rattle.std.specs.List.{list_any}
use Rattle.css_cascade.specs.Cascade.{Weighed}
use Rattle.css_cascade.specs.Rollbacks.{is_left}
use Rattle.css_cascade.specs.WeightViews.{weighed}
use Rattle.css_styles.specs.internal.Numbered.{is_reached, weight_of}
use Rattle.css_styles.proofs.settling.earliest.Given as goal

-- the earliest of those so far
abbrev pub invariant-loop-one : goal.invariant-loop-one
invariant-loop-one l = (winner : Weighed) → is_reached (option_map weighed l.first) winner
    ≡ list_any (λ n. is_left (weight_of n) winner) (take l.one-index l.contenders)
