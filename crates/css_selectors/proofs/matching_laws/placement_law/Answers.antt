use Rattle.css_selectors.proofs.PlacementListLemmas.{matches_list}
use Rattle.css_selectors.proofs.matching_laws.placement_law.Goals as goal

pub returns : goal.returns
returns g c s n some = matches_list g.E.Element.document s n some
