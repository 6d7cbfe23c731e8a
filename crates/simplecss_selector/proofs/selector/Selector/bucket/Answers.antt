use Rattle.std.proofs.Common.{sym, ◌∙◌, ap}
use Rattle.simplecss_selector.specs.Buckets.Bucket.{of_element}
use Rattle.simplecss_selector.proofs.BucketLemmas.{bucket_one, bucket_is}
use Rattle.simplecss_selector.proofs.selector.Selector.bucket.Goals as goal

pub returns-then-last-eq0 : goal.returns-then-last-eq0
returns-then-last-eq0 c =
    ap of_element c.key_at-key.ensures ∙ sym (bucket_one c.args.self.now c.last_index-last.result
    c.last_index-last.ensures c.if-last-eq0.true)

pub returns : goal.returns
returns c =
    c.bucket_by.ensures
    ∙ bucket_is c.args.self.now c.last_index-last.result _ _ _ c.last_index-last.ensures
    c.if-last-eq0.false c.key_at-key.ensures c.combinator.ensures.value c.key_at-before.ensures
