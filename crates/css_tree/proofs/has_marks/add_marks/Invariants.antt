-- The elements so far have one of both marks.
use Rattle.css_tree.proofs.StepLemmas.{AddedBelow}
use Rattle.css_tree.proofs.has_marks.add_marks.Given as goal

abbrev pub invariant-loop-index : goal.invariant-loop-index
invariant-loop-index l = AddedBelow l.fn.all l.more l.all l.index
