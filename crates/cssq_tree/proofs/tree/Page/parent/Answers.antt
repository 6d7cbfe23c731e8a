use Rattle.cssq_tree.proofs.Attributes.{parent_kept, parent_in, parent_earlier}
use Rattle.cssq_tree.proofs.tree.Page.parent.Goals as goal

pub returns-clause-value : goal.returns-clause-value
returns-clause-value c = parent_kept c.self.inside.lines.items c.args.self.now c.args.index
    c.index.result.now c.self.view_is c.requires c.index.ensures c.self.invariant

pub returns-clause-within : goal.returns-clause-within
returns-clause-within c = parent_in c.self.inside.lines.items c.args.self.now c.args.index
    c.index.result.now c.self.view_is c.requires c.index.ensures c.self.invariant

pub returns-clause-before : goal.returns-clause-before
returns-clause-before c = parent_earlier c.self.inside.lines.items c.args.self.now c.args.index
    c.index.result.now c.self.view_is c.requires c.index.ensures c.self.invariant
