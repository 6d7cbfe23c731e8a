use Rattle.simplecss.specs.DeclarationViews.{declarations_of}
use Rattle.simplecss.specs.RuleViews.{rules_of}
use Rattle.cssq.specs.Winners.{IsStated, ListsInOrder}
use Rattle.cssq.proofs.Listing.{Before}
use Rattle.cssq.proofs.cascade.stated_on.Given as goal

-- what the rules that were tested state
abbrev pub invariant-loop-rule : goal.invariant-loop-rule
invariant-loop-rule g l =
    ListsInOrder (Before (IsStated g.E.Element.tree (g.E.Element.node l.element) (rules_of l.rules))
    l.rule-index) (declarations_of l.all.items)
