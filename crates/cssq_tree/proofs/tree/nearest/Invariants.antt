use Rattle.cssq_tree.specs.internal.EntryLines.{depths}
use Rattle.cssq_tree.specs.internal.LastIndices.{IsCandidate, steps_left}
use Rattle.cssq_tree.proofs.tree.nearest.Given as goal

abbrev pub invariant-loop-candidate : goal.invariant-loop-candidate
invariant-loop-candidate l = IsCandidate (depths l.lines) l.depth l.candidate

abbrev pub decreases-loop-candidate : goal.decreases-loop-candidate
decreases-loop-candidate l = steps_left l.candidate
