use Rattle.std.proofs.Common.{◌≡◌, ◌-◌, take}
use Rattle.cssq_tree.specs.TreeText.{fields_in, has_key}
use Rattle.cssq_tree.proofs.tree.has_key.Given as goal

abbrev pub invariant-loop-i : goal.invariant-loop-i
invariant-loop-i l = has_key (take l.count (fields_in l.fields)) l.key
    ≡ has_key (take (l.count - l.i) (fields_in l.rest)) l.key
