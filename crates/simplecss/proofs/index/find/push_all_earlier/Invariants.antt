use Rattle.std.proofs.Common.{take}
use Rattle.simplecss.specs.SelectorIndices.{Adds}
use Rattle.simplecss.proofs.Following.{After, kept_by}
use Rattle.simplecss.proofs.index.find.push_all_earlier.Given as goal

-- the chains of the first indices were added, as far as the path keeps them
abbrev pub invariant-starts : goal.invariant-starts
invariant-starts l = Adds l.initial.indices.items l.indices.items
    (After l.rule_index (kept_by l.rule_index l.path) (take l.i l.initial.indices.items))
