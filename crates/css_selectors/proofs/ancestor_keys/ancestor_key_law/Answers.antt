use Rattle.css_selectors.proofs.AncestorKeyLemmas.{matched_above, matched_parent}
use Rattle.css_selectors.proofs.ancestor_keys.ancestor_key_law.Goals as goal

pub returns-clause-ancestors : goal.returns-clause-ancestors
returns-clause-ancestors g c s n h key there =
    matched_above g.E.Element.document g.met.E.Element.sibling_law s n h key there

pub returns-clause-parent : goal.returns-clause-parent
returns-clause-parent g c s n h key there = matched_parent g.E.Element.document s n h key there
