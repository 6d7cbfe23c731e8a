use Rattle.css_tree.proofs.Numbering.{kinds_more}
use Rattle.css_tree.proofs.kinds.kinds_of.Goals as goal

pub loop-index-preserved : goal.loop-index-preserved
loop-index-preserved c = (
  kinds_more c.args.tree.now c.args.namespaces.now c.loop-index.kinds.items c.push.new.self.items c.in_ok-kind.kind
      c.loop-index.index c.loop-index.invariant.0 c.in_ok-push.ensures.items
      c.in_ok-kind.ensures.0,
  c.in_ok-kind.ensures.1,
)
