use Rattle.simplecss_selector.proofs.AncestorKeyLemmas.{keys_needed}
use Rattle.simplecss_selector.proofs.key_laws.ancestor_keys_law.Goals as goal

pub returns : goal.returns
returns g c = keys_needed g.E.Element.tree g.met.E.Element.sibling_law
