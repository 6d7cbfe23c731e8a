use Rattle.std.proofs.Common.{length, get_or, map}
use Rattle.std.specs.Option.{option_map}
use Rattle.simplecss.specs.DeclarationViews.{declaration_of}
use Rattle.simplecss.specs.RuleViews.{rules_of}
use Rattle.simplecss.specs.Matching.{AreMatches}
use Rattle.cssq.specs.Winners.{IsStated}
use Rattle.cssq.proofs.FromLast.{KnownFrom}
use Rattle.cssq.proofs.cascade.winning_among.Given as goal

-- what wins in the rules from the last index that was looked at on
abbrev pub invariant-loop-i : goal.invariant-loop-i
invariant-loop-i g l =
    (element : g.E.Element.Node) → AreMatches g.E.Element.tree element (map (λ rule. rule.selector) l.rules) l.indices
    → KnownFrom (IsStated g.E.Element.tree element (rules_of l.rules)) l.name (get_or l.indices l.i
    (length (map (λ rule. rule.selector) l.rules))) (option_map declaration_of l.winner)
