use Rattle.std.proofs.Common.{take}
use Rattle.simplecss.specs.DeclarationViews.{declarations_of}
use Rattle.cssq.specs.internal.RuleWinners.{HasBestIndices}
use Rattle.cssq.proofs.cascade.best_indices.Given as goal

-- the best indices among the declarations so far
abbrev pub invariant-loop-index : goal.invariant-loop-index
invariant-loop-index l = HasBestIndices l.indices (take l.index (declarations_of l.declarations))
