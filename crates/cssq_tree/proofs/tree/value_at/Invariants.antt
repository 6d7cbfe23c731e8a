use Rattle.std.proofs.Common.{◌≡◌, map}
use Rattle.cssq_tree.specs.TreeText.{attribute_of, fields_in}
use Rattle.cssq_tree.specs.PageNodes.{value_in}
use Rattle.cssq_tree.proofs.Fields.{left}
use Rattle.cssq_tree.proofs.tree.value_at.Given as goal

abbrev pub invariant-loop-rest : goal.invariant-loop-rest
invariant-loop-rest l = value_in (map attribute_of (fields_in l.fields)) l.key
    ≡ value_in (map attribute_of (fields_in l.rest)) l.key

abbrev pub decreases-loop-rest : goal.decreases-loop-rest
decreases-loop-rest l = left l.rest
