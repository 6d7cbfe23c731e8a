use Rattle.std.proofs.Common.{◌≤◌, length, map}
use Rattle.simplecss.specs.DeclarationViews.{declarations_of}
use Rattle.simplecss.specs.RuleViews.{rules_of}
use Rattle.simplecss.specs.Matching.{AreMatches}
use Rattle.cssq.specs.Winners.{IsStated, ListsInOrder}
use Rattle.cssq.proofs.Indexed.{after}
use Rattle.cssq.proofs.Listing.{Before}
use Rattle.cssq.proofs.cascade.stated_at.Given as goal

-- what the rules up to the last index that was read state
abbrev pub invariant-loop-index : goal.invariant-loop-index
invariant-loop-index g l =
    (l.index-index ≤ length l.indices)
    × ((element : g.E.Element.Node)
    → AreMatches g.E.Element.tree element (map (λ rule. rule.selector) l.rules) l.indices
    → ListsInOrder (Before (IsStated g.E.Element.tree element (rules_of l.rules))
    (after l.indices l.index-index)) (declarations_of l.all.items))
