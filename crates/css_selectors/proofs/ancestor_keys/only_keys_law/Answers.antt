use Rattle.css_selectors.proofs.AncestorKeyLemmas.{only_matches, only_exact}
use Rattle.css_selectors.proofs.ancestor_keys.only_keys_law.Goals as goal

pub returns-clause-matches : goal.returns-clause-matches
returns-clause-matches g c s n h k = only_matches g.E.Element.document n s h k

pub returns-clause-exact : goal.returns-clause-exact
returns-clause-exact g c s h = only_exact s h
