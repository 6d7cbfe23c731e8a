use Rattle.std.proofs.Common.{rules, ap, ◌∙◌, subst}
use Rattle.css_selectors.specs.KeyViews.{key_of}
use Rattle.css_index.specs.internal.Filed.{HasLastKey}
use Rattle.css_index.proofs.FileLemmas.{filed_more, one_at}
use Rattle.css_index.proofs.table.file.Goals as goal

pub loop-entry-preserved : goal.loop-entry-preserved
loop-entry-preserved c =
    let buckets = c.loop-entry.buckets.items in
    let place = c.place_of-place.result in
    let filed = c.filed_after-filed.result in
    let bucket = c.index_mut.result.now in
    filed_more c.args.entries.now c.loop-entry.entry-index c.entry-item.result filed buckets place bucket
    c.push.new.self c.loop-entry.invariant c.loop-entry-test.true c.entry-item.is (search rules)
    (search rules) c.index_mut.ensures.value c.filed_after-filed.ensures.same
    (λ repeats. subst (λ xs. HasLastKey xs (key_of filed.key)) (c.deref.ensures.value
    ∙ ap (λ v. v.items) (one_at buckets place c.index.result.now bucket (search rules) c.index.ensures
    c.index_mut.ensures.value)) (c.filed_after-filed.ensures.repeats repeats))
    c.in_ok-push.ensures.items
