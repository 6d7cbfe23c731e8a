use Rattle.std.proofs.lemmas.Result.{on_ok_weaker}
use Rattle.simplecss.proofs.BucketIndices.{named_added}
use Rattle.simplecss.proofs.index.find.push_named.Goals as goal

pub returns : goal.returns
returns c =
    on_ok_weaker c.push_classes.result
    (λ classes. named_added c.args.lasts.now _ _ _ _ _ _ c.in_ok-push_last.ensures
    c.in_ok-push_last-2.ensures classes)
    c.push_classes.ensures
