use Rattle.simplecss.proofs.BucketIndices.{none_wanted}
use Rattle.simplecss.proofs.index.last_by_bucket.LastByBucket.new.Goals as goal

pub returns : goal.returns
returns c =
    none_wanted (record { own = c.new.result; parent = c.new-2.result; previous = c.new-3.result })
    c.new.ensures c.new-2.ensures c.new-3.ensures
