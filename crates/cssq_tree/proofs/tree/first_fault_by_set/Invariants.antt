use Rattle.cssq_tree.specs.TreeText.{fields_in, fields_of}
use Rattle.cssq_tree.proofs.Fields.{left}
use Rattle.cssq_tree.proofs.KeySets.{KeysAre}
use Rattle.cssq_tree.proofs.tree.first_fault_by_set.Given as goal

abbrev pub invariant-loop-rest : goal.invariant-loop-rest
invariant-loop-rest l = KeysAre l.number (fields_of l.all) (fields_in l.rest) l.keys

abbrev pub decreases-loop-rest : goal.decreases-loop-rest
decreases-loop-rest l = left l.rest
