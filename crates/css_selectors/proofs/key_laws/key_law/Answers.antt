use Rattle.css_selectors.proofs.KeyLemmas.{matched_has}
use Rattle.css_selectors.proofs.key_laws.key_law.Goals as goal

pub returns : goal.returns
returns g c s n h = matched_has g.E.Element.document n s h
