use Rattle.simplecss_selector.proofs.BucketLemmas.{near_reports}
use Rattle.simplecss_selector.proofs.key_laws.reported_near_law.Goals as goal

pub returns : goal.returns
returns g c = near_reports g.E.Element.tree g.E.Element.node g.E.Keyed.reported g.met.E.Keyed.reported_law
