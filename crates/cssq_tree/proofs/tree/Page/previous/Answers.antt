use Rattle.cssq_tree.proofs.Attributes.{previous_kept, previous_in}
use Rattle.cssq_tree.proofs.tree.Page.previous.Goals as goal

pub returns-clause-value : goal.returns-clause-value
returns-clause-value c = previous_kept c.self.inside.lines.items c.args.self.now c.args.index
    c.index.result.now c.self.view_is c.requires c.index.ensures c.self.invariant

pub returns-clause-within : goal.returns-clause-within
returns-clause-within c = previous_in c.self.inside.lines.items c.args.self.now c.args.index
    c.index.result.now c.self.view_is c.requires c.index.ensures c.self.invariant
