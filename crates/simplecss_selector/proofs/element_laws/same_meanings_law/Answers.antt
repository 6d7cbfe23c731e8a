use Rattle.simplecss_selector.proofs.SameMeanings.{placement_image, placements_alike}
use Rattle.simplecss_selector.proofs.element_laws.same_meanings_law.Goals as goal

pub returns : goal.returns
returns g c = record {
  alike = λ cs m n h. placements_alike g.E.Element.tree g.F.Element.tree cs m n h;
  mapped = λ image keeps cs n. placement_image g.E.Element.tree g.F.Element.tree image keeps cs n;
}
