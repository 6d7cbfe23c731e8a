use Rattle.std.proofs.Common.{List}
use Rattle.simplecss.specs.DeclarationViews.{declarations_of}
use Rattle.simplecss.specs.Statements.{StyleRule}
use Rattle.cssq.specs.Winners.{IsStated, ListsInOrder}
use Rattle.cssq.specs.internal.RuleWinners.{HasBestIndices}
use Rattle.cssq.proofs.BestIndices.{Kept}
use Rattle.cssq.proofs.cascade.winners_of.Given as goal

-- what wins of the declarations so far
abbrev pub invariant-loop-index : goal.invariant-loop-index
invariant-loop-index g l =
    HasBestIndices l.indices (declarations_of l.stated)
    × ((element : g.E.Element.Node) (rules : List StyleRule)
    (lists : ListsInOrder (IsStated g.E.Element.tree element rules) (declarations_of l.stated))
    → ListsInOrder (Kept (IsStated g.E.Element.tree element rules)
    (declarations_of l.stated) lists l.index) (declarations_of l.all.items))
