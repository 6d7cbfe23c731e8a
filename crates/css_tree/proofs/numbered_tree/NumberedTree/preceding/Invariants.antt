-- The elements from the index on have handed their marks back.
use Rattle.std.proofs.Common.{length}
use Rattle.css_tree.specs.Steps.{step, is_repeated}
use Rattle.css_tree.proofs.StepLemmas.{HandedFrom}
use Rattle.css_tree.proofs.numbered_tree.NumberedTree.preceding.Given as goal

abbrev pub invariant-loop-index : goal.invariant-loop-index
invariant-loop-index l =
    HandedFrom (step l.self.rows l.combinator) (is_repeated l.combinator) l.marks
    (length l.self.rows) l.found.items l.index
