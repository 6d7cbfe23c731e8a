use Rattle.std.proofs.Common.{◌≡◌, None, map, option_map, take}
use Rattle.css_cascade.specs.Cascade.{winner_from}
use Rattle.css_styles.specs.internal.Stepping.{contender_of, seen}
use Rattle.css_styles.proofs.decide.best_of.Given as goal

-- the best so far
abbrev pub invariant-loop-one : goal.invariant-loop-one
invariant-loop-one l =
    option_map contender_of l.best
    ≡ winner_from seen None (map contender_of (take l.one-index l.rivals))
