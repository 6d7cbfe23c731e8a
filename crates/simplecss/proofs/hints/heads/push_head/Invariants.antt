use Rattle.std.proofs.Common.{◌≡◌, ◌++◌, take}
use Rattle.std.specs.List.{flat_map}
use Rattle.simplecss.specs.Hints.{part_hints}
use Rattle.simplecss.specs.HintViews.{hints_of}
use Rattle.simplecss.specs.internal.HeadViews.{head_parts_of}
use Rattle.simplecss.proofs.hints.heads.push_head.Given as goal

-- the hints on the parts so far were added
abbrev pub invariant-loop-part : goal.invariant-loop-part
invariant-loop-part l =
    hints_of l.hints.items ≡ hints_of l.initial.hints.items
    ++ flat_map part_hints (head_parts_of (take l.part-index l.parts))
