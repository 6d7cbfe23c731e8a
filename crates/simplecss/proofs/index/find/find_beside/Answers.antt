use Rattle.std.proofs.lemmas.Result.{on_ok_weaker}
use Rattle.simplecss.specs.internal.Recents.{adds_bucket}
use Rattle.simplecss.proofs.Candidates.{starts_led}
use Rattle.simplecss.proofs.index.find.find_beside.Goals as goal

pub returns : goal.returns
returns g c =
    on_ok_weaker c.push_beside.result
    (λ beside. (
      beside.0,
      beside.1,
      starts_led (adds_bucket beside.0) c.rule_index.inside.lasts c.rule_index.inside.links.items
          c.args.rule_index.now c.rule_index.invariant.chained c.rule_index.view_is
          c.clear.new.self.items c.push_beside.new.indices.items c.clear.ensures.items beside.2,
    ))
    c.push_beside.ensures
