use Rattle.simplecss.proofs.OpenPathLemmas.{path_left}
use Rattle.simplecss.proofs.index.laws.leave_law.Goals as goal

pub returns : goal.returns
returns g c path n at = path_left g.E.Element.tree g.E.Element.node g.E.Keyed.reported
    path.selectors n path.marks path.listed path.starts at
