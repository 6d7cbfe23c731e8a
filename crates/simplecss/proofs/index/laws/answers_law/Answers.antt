use Rattle.simplecss.proofs.TestedInOrder.{answers_of}
use Rattle.simplecss.proofs.index.laws.answers_law.Goals as goal

pub returns : goal.returns
returns g c = answers_of g.E.Element.tree
