use Rattle.css_styles.proofs.StandingLemmas.{after-all}
use Rattle.css_styles.proofs.floors.find_standings.Goals as goal

pub loop-one-preserved : goal.loop-one-preserved
loop-one-preserved c =
    let lt = c.loop-one-test.true in
    after-all c.args.ranked.now c.loop-one.one-index _ c.loop-one.standings _ c.after.result _ lt
    (c.requires c.loop-one.one-index _ lt) c.loop-one.invariant.0 c.after.ensures c.loop-one.invariant.1
