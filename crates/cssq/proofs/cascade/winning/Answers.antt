use Rattle.std.proofs.Common.{◌≡◌, ◌+◌, ◌-◌, Some, refl, subst, arith}
use Rattle.std.specs.Option.{option_map}
use Rattle.simplecss.specs.DeclarationViews.{declaration_of}
use Rattle.simplecss.specs.RuleViews.{rule_of, rules_of}
use Rattle.cssq.specs.Winners.{IsStated, Wins}
use Rattle.cssq.proofs.FromLast.{From, KnownFrom, known_all, known_passed, known_here, known_on, important_wins, winner_found, winner_none, winner_only, rule_read}
use Rattle.cssq.proofs.cascade.winning.Given.{Over}
use Rattle.cssq.proofs.cascade.winning.Goals.{In-Some, After-loop-index}
use Rattle.cssq.proofs.cascade.winning.Goals as goal

pub loop-index-preserved-in_default : goal.loop-index-preserved-in_default
loop-index-preserved-in_default g c =
    let tree = g.E.Element.tree in
    let n = g.E.Element.node c.args.element.now in
    let rules = c.as_slice-rules.result.now in
    let k = c.loop-index.index - 1 in
    let positive = c.loop-index-test.true in
    let within = c.loop-index.auto.index in
    let next : c.loop-index.index ≡ k + 1 = omega arith in
    known_passed tree n (rules_of rules) c.args.name.now k (rule_of c.index-rules-index.result)
    (rule_read rules k c.index-rules-index.result (omega arith) c.index-rules-index.is)
    declaration_of c.is_some.result c.loop-index.winner c.is_some.ensures
    (c.in_default.ensures.passed_over refl)
    (subst (λ m. KnownFrom (IsStated tree n (rules_of rules)) c.args.name.now m
    (option_map declaration_of c.loop-index.winner)) next c.loop-index.invariant)

-- the candidate wins in the rules from its own on
wins_from : (g : Over) (c : In-Some g)
    → Wins (From (IsStated g.E.Element.tree (g.E.Element.node c.args.element.now)
    (rules_of c.as_slice-rules.result.now)) (c.loop-index.index - 1)) c.args.name.now
    (Some (declaration_of c.in-Some.best))
wins_from g c =
    let tree = g.E.Element.tree in
    let n = g.E.Element.node c.args.element.now in
    let rules = c.as_slice-rules.result.now in
    let k = c.loop-index.index - 1 in
    let positive = c.loop-index-test.true in
    let within = c.loop-index.auto.index in
    let next : c.loop-index.index ≡ k + 1 = omega arith in
    known_here tree n (rules_of rules) c.args.name.now k (rule_of c.index-rules-index.result)
    (rule_read rules k c.index-rules-index.result (omega arith) c.index-rules-index.is)
    declaration_of c.is_some.result (declaration_of c.in-Some.best) c.loop-index.winner
    c.is_some.ensures c.in-Some.ensures.important c.in-Some.ensures.found
    (subst (λ m. KnownFrom (IsStated tree n (rules_of rules)) c.args.name.now m
    (option_map declaration_of c.loop-index.winner)) next c.loop-index.invariant)

pub loop-index-preserved : goal.loop-index-preserved
loop-index-preserved g c =
    known_on _ _ _ _ (wins_from g (goal.at.loop-index-preserved g c).In-Some) c.if-best.false

pub returns-then-best : goal.returns-then-best
returns-then-best g c =
    let has = IsStated g.E.Element.tree (g.E.Element.node c.args.element.now) in
    let won = subst (λ rules. Wins (has (rules_of rules)) c.args.name.now
    (Some (declaration_of c.in-Some.best))) c.as_slice-rules.ensures.value (important_wins _ _ _ _ _
    _ (wins_from g (goal.at.returns-then-best g c).In-Some) c.if-best.true) in
    record {
      winner = won;
      none = winner_none declaration_of
          (has (rules_of c.args.sheet.now.rules.items)) c.args.name.now (Some c.in-Some.best) won;
      only = winner_only g.E.Element.tree (g.E.Element.node c.args.element.now)
          (rules_of c.args.sheet.now.rules.items) c.args.name.now declaration_of
          (Some c.in-Some.best) won;
    }

pub returns : goal.returns
returns g c =
    let has = IsStated g.E.Element.tree (g.E.Element.node c.args.element.now) in
    let first = c.loop-index-test.false in
    let known = subst (λ m. KnownFrom (has (rules_of c.as_slice-rules.result.now)) c.args.name.now m
    (option_map declaration_of c.loop-index.winner))
    (let zero : c.loop-index.index ≡ 0 = omega arith in zero) c.loop-index.invariant in
    let won = subst (λ rules. Wins (has (rules_of rules)) c.args.name.now (option_map declaration_of
    c.loop-index.winner)) c.as_slice-rules.ensures.value (known_all _ _ _ _ _ known) in
    record {
      winner = winner_found declaration_of
          (has (rules_of c.args.sheet.now.rules.items)) c.args.name.now c.loop-index.winner won;
      none = winner_none declaration_of
          (has (rules_of c.args.sheet.now.rules.items)) c.args.name.now c.loop-index.winner won;
      only = winner_only g.E.Element.tree (g.E.Element.node c.args.element.now)
          (rules_of c.args.sheet.now.rules.items) c.args.name.now declaration_of c.loop-index.winner
          won;
    }
