use Rattle.std.specs.Option.{option_map}
use Rattle.simplecss.specs.DeclarationViews.{declaration_of}
use Rattle.simplecss.specs.RuleViews.{rules_of}
use Rattle.cssq.specs.Winners.{IsStated}
use Rattle.cssq.proofs.FromLast.{KnownFrom}
use Rattle.cssq.proofs.cascade.winning.Given as goal

-- what wins among the rules that were looked at
abbrev pub invariant-loop-index : goal.invariant-loop-index
invariant-loop-index g l =
    KnownFrom (IsStated g.E.Element.tree (g.E.Element.node l.element) (rules_of l.rules)) l.name
    l.index (option_map declaration_of l.winner)
