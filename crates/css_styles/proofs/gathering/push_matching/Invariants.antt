use Rattle.std.proofs.Common.{◌≡◌, ◌++◌, map, take}
use Rattle.std.specs.List.{All, flat_map}
use Rattle.css_styles.specs.Contenders.{stated_at}
use Rattle.css_styles.specs.internal.Numbered.{IsNumbered, numbered_of}
use Rattle.css_styles.proofs.gathering.push_matching.Given as goal

-- those of the rules so far
abbrev pub invariant-loop-index : goal.invariant-loop-index
invariant-loop-index l =
    (map numbered_of l.contenders.items ≡ map numbered_of l.fn.contenders.items
    ++ flat_map (stated_at l.rules.rules) (take l.index-index l.indices))
    × All (IsNumbered l.rules.properties) l.contenders.items
