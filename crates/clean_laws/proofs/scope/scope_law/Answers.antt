use Rattle.clean_laws.proofs.RuleLemmas.{under-scope}
use Rattle.clean_laws.proofs.scope.scope_law.Goals as goal

pub returns : goal.returns
returns g c = under-scope g.E.Element.document g.met.E.Element.sibling_law
