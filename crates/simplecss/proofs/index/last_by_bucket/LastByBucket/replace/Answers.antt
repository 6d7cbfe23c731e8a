use Rattle.std.proofs.Common.{sym, ◌∙◌}
use Rattle.simplecss.proofs.BucketIndices.{takes_own, takes_parent, takes_previous}
use Rattle.simplecss.proofs.index.last_by_bucket.LastByBucket.replace.Goals as goal
use Rattle.simplecss.proofs.index.last_by_bucket.LastByBucket.replace.Goals.{in-OfElement, in-OfParent, in-OfPrevious}

pub returns-clause-taken : goal.returns-clause-taken
returns-clause-taken c =
    let old = c.args.self.now in
    let index = c.args.index in
    elim c.match-bucket.branch [
      | in-OfElement w ↦ rw (w.self-is, w.in-OfElement.is) (takes_own old w.replace-known.new.self _
          index (rw (sym w.known-is ∙ c.in_ok-known.was) at w.replace-known.ensures.taken))
      | in-OfParent w ↦ rw (w.self-is, w.in-OfParent.is)
          (takes_parent old w.replace-known-in-OfParent.new.self _ index
          (rw (sym w.known-is ∙ c.in_ok-known.was) at w.replace-known-in-OfParent.ensures.taken))
      | in-OfPrevious w ↦ rw (w.self-is, w.in-OfPrevious.is)
          (takes_previous old w.replace-known-in-OfPrevious.new.self _ index
          (rw (sym w.known-is ∙ c.in_ok-known.was) at w.replace-known-in-OfPrevious.ensures.taken))
    ]
