use Rattle.std.proofs.Common.{◌≡◌, map, take}
use Rattle.std.specs.Cow.{cow_str_bytes}
use Rattle.css_tree.proofs.html.ranges_in.Given as goal

-- the ranges so far
abbrev pub invariant-loop-range : goal.invariant-loop-range
invariant-loop-range l =
    map cow_str_bytes l.same.items ≡ map cow_str_bytes (take l.range-index l.ranges)
