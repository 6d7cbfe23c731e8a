use Rattle.simplecss_selector.proofs.BucketLemmas.{bucket_needed}
use Rattle.simplecss_selector.proofs.key_laws.bucket_law.Goals as goal

pub returns : goal.returns
returns g c = bucket_needed g.E.Element.tree
