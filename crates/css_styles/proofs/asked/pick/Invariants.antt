use Rattle.std.proofs.Common.{◌≡◌, map, take}
use Rattle.css_styles.specs.Contenders.{of_names}
use Rattle.css_styles.specs.internal.Numbered.{numbered_of}
use Rattle.css_styles.specs.internal.Stepping.{contender_of}
use Rattle.css_styles.proofs.asked.pick.Given as goal

-- those so far that have one of the names
abbrev pub invariant-loop-one : goal.invariant-loop-one
invariant-loop-one l =
    map contender_of l.rivals.items
    ≡ of_names (map (λ name. name.now) l.names) (map numbered_of (take l.one-index l.contenders))
