use Rattle.std.proofs.Common.{◌≡◌, map, take}
use Rattle.std.specs.List.{flat_map}
use Rattle.css_clean.specs.Views.{dropped_of}
use Rattle.clean_calls.specs.CleanCalls.{dropped_row}
use Rattle.clean_calls.proofs.dropping.rows.Given as goal

-- the numbers of the pieces so far
abbrev pub invariant-loop-one : goal.invariant-loop-one
invariant-loop-one l = l.out.items ≡ flat_map dropped_row (map dropped_of (take l.one-index l.all))
