use Rattle.std.proofs.Common.{◌-◌, Some, length, get_or, map, refl, arith}
use Rattle.simplecss.specs.DeclarationViews.{declaration_of}
use Rattle.simplecss.specs.RuleViews.{rules_of}
use Rattle.simplecss.specs.Matching.{AreMatches}
use Rattle.cssq.specs.Winners.{IsStated, Wins}
use Rattle.cssq.proofs.FromLast.{From, known_on, important_wins}
use Rattle.cssq.proofs.Among.{among_none, among_all, among_passed, among_here}
use Rattle.cssq.proofs.cascade.winning_among.Given.{Over}
use Rattle.cssq.proofs.cascade.winning_among.Goals.{In-Some}
use Rattle.cssq.proofs.cascade.winning_among.Goals as goal

pub loop-i-init : goal.loop-i-init
loop-i-init g c = λ element are.
    among_none g.E.Element.tree element c.args.rules.now c.args.indices.now are c.args.name.now

pub loop-i-preserved-in_default : goal.loop-i-preserved-in_default
loop-i-preserved-in_default g c = λ element are.
    let positive = c.loop-i-test.true in
    let within = c.loop-i.auto.i in
    among_passed g.E.Element.tree element c.args.rules.now c.args.indices.now are c.args.name.now
    c.loop-i.i (c.loop-i.i - 1) (omega arith) (omega arith) c.index-rules-indices.result
    c.index-rules-indices.is declaration_of c.is_some.result c.loop-i.winner c.is_some.ensures
    (c.loop-i.invariant element are) (c.in_default.ensures.outdone refl)

-- the contender wins in the rules from its own on
wins_from : (g : Over) (c : In-Some g) (element : g.E.Element.Node)
    → AreMatches g.E.Element.tree element (map (λ rule. rule.selector) c.args.rules.now) c.args.indices.now
    → Wins (From (IsStated g.E.Element.tree element (rules_of c.args.rules.now)) (get_or c.args.indices.now
    (c.loop-i.i - 1) (length (map (λ rule. rule.selector) c.args.rules.now)))) c.args.name.now
    (Some (declaration_of c.in-Some.found))
wins_from g c element are =
    let positive = c.loop-i-test.true in
    let within = c.loop-i.auto.i in
    among_here g.E.Element.tree element c.args.rules.now c.args.indices.now are c.args.name.now c.loop-i.i
    (c.loop-i.i - 1) (omega arith) (omega arith) c.index-rules-indices.result
    c.index-rules-indices.is declaration_of c.is_some.result c.loop-i.winner c.is_some.ensures
    (c.loop-i.invariant element are)
    (declaration_of c.in-Some.found) c.in-Some.ensures.important c.in-Some.ensures.best

pub loop-i-preserved : goal.loop-i-preserved
loop-i-preserved g c = λ element are.
    known_on _ _ _ _ (wins_from g (goal.at.loop-i-preserved g c).In-Some element are) c.if-found.false

pub returns-then-found : goal.returns-then-found
returns-then-found g c = λ element are. important_wins _ _ _ _ _ _
    (wins_from g (goal.at.returns-then-found g c).In-Some element are) c.if-found.true

pub returns : goal.returns
returns g c = λ element are.
    let first = c.loop-i-test.false in
    among_all g.E.Element.tree element c.args.rules.now c.args.indices.now are c.args.name.now c.loop-i.i
    (omega arith) _ (c.loop-i.invariant element are)
