use Rattle.std.proofs.Common.{◌+◌, take, get_or}
use Rattle.std.proofs.lemmas.List.{take_more}
use Rattle.css_styles.proofs.SettledLemmas.{earliest-more}
use Rattle.css_styles.proofs.settling.earliest.Goals as goal

pub loop-one-preserved : goal.loop-one-preserved
loop-one-preserved c =
    let all = c.args.contenders.now in
    let i = c.loop-one.one-index in
    earliest-more _ (take i all) (take (i + 1) all) (get_or all i _) _ c.earlier_of.ensures
    c.loop-one.invariant (take_more all i _ c.loop-one-test.true)
