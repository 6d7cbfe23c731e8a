use Rattle.std.proofs.Common.{arith, subst}
use Rattle.std.specs.List.{All}
use Rattle.std.proofs.lemmas.List.{take_all}
use Rattle.css_styles.specs.internal.Floors.{IsComing}
use Rattle.css_styles.proofs.StandingLemmas.{forget-all, open-coming}
use Rattle.css_styles.proofs.floors.forget.Goals as goal

pub loop-one-preserved : goal.loop-one-preserved
loop-one-preserved c =
    let lt = c.loop-one-test.true in
    forget-all c.args.ranked.now c.loop-one.one-index _ c.loop-one.standings c.new.result _ lt
    (c.requires c.loop-one.one-index _ lt) c.loop-one.invariant.0
    (open-coming c.new.result c.new.ensures.floor c.new.ensures.unsettled) c.loop-one.invariant.1

pub returns-clause-open : goal.returns-clause-open
returns-clause-open c =
    subst (All (λ r. IsComing c.args.ranked.now c.loop-one.standings c.args.ranked.now r.property))
    (take_all c.loop-one.one-index c.args.ranked.now (omega (arith, c.loop-one-test.false)))
    c.loop-one.invariant.1
