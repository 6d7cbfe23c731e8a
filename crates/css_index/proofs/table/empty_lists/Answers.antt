use Rattle.std.proofs.Common.{◌≡◌, [], length, sym, subst, arith}
use Rattle.css_index.specs.internal.Filed.{AreFiledAt}
use Rattle.css_index.proofs.FileLemmas.{filed_none}
use Rattle.css_index.proofs.table.empty_lists.Goals as goal

pub returns : goal.returns
returns c =
    let buckets = c.loop-place.buckets.items in
    let len = c.loop-place.invariant.0 in let test = c.loop-place-test.false in
    let most = c.loop-place.auto.place-end in let some = c.requires in
    let all : length buckets ≡ c.args.count = omega (arith, len, test, most) in
    filed_none buckets (omega (arith, all, some))
    (subst (λ n. AreFiledAt n [] buckets) (sym all) c.loop-place.invariant.1)
