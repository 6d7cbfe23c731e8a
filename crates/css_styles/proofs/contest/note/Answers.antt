use Rattle.std.proofs.Common.{◌+◌, take, get_or}
use Rattle.std.proofs.lemmas.List.{take_more}
use Rattle.css_styles.proofs.ContestLemmas.{note-all}
use Rattle.css_styles.proofs.contest.note.Goals as goal

pub loop-one-preserved : goal.loop-one-preserved
loop-one-preserved c =
    let all = c.args.contenders.now in
    let i = c.loop-one.one-index in
    let lt = c.loop-one-test.true in
    note-all all (take i all) (take (i + 1) all) (get_or all i _) c.loop-one.best _
    c.better_of.result _ (c.requires.within i _ lt) c.loop-one.invariant.0 c.better_of.ensures
    (c.loop-one.invariant.1 i _ lt) c.loop-one.invariant.1 (take_more all i _ lt)
