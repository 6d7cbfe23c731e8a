use Rattle.simplecss.proofs.Following.{Follows, kept_by, end_of}
use Rattle.simplecss.proofs.index.find.push_earlier.Given as goal

-- what the chain visited and the path keeps was added
abbrev pub invariant-back : goal.invariant-back
invariant-back l =
    Follows l.rule_index (kept_by l.rule_index l.path) l.index l.initial.indices.items
    l.indices.items l.known

abbrev pub decreases-back : goal.decreases-back
decreases-back l = end_of l.known
