use Rattle.simplecss.proofs.Following.{leads}
use Rattle.simplecss.proofs.index.rule_index.RuleIndex.earlier.Goals as goal

pub returns : goal.returns
returns c =
    leads c.self.inside.lasts c.self.inside.links.items c.args.self.now c.args.index
    c.index.result.now c.self.invariant.chained c.self.view_is c.requires c.index.ensures
