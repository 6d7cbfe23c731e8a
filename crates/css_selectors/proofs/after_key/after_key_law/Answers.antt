use Rattle.css_selectors.proofs.AfterKeyLemmas.{after_key_matches, matches_after_key}
use Rattle.css_selectors.proofs.after_key.after_key_law.Goals as goal

pub returns-clause-same : goal.returns-clause-same
returns-clause-same g c s n begins has = (
  after_key_matches g.E.Element.document n s begins has,
  matches_after_key g.E.Element.document n s begins,
)

pub returns-clause-weaker : goal.returns-clause-weaker
returns-clause-weaker g c s n begins m = matches_after_key g.E.Element.document n s begins m
