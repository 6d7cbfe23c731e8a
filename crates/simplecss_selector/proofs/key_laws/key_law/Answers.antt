use Rattle.simplecss_selector.proofs.KeyLemmas.{key_needed}
use Rattle.simplecss_selector.proofs.key_laws.key_law.Goals as goal

pub returns : goal.returns
returns g c = key_needed g.E.Element.tree
