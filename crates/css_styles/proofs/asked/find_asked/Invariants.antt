use Rattle.std.proofs.Common.{◌≡◌, map, option_map, take}
use Rattle.css_styles.specs.StyleViews.{names_of, winner_of}
use Rattle.css_styles.specs.internal.Numbered.{numbered_of}
use Rattle.css_styles.specs.internal.Stepping.{best_named}
use Rattle.css_styles.proofs.asked.find_asked.Given as goal

-- those of the properties so far
abbrev pub invariant-loop-names : goal.invariant-loop-names
invariant-loop-names l =
    map (option_map winner_of) l.found.items
    ≡ map (best_named (map numbered_of l.contenders)) (names_of (take l.names-index l.asked))
