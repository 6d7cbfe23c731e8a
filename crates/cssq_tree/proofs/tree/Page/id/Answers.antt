use Rattle.std.proofs.Common.{sym, ◌∙◌}
use Rattle.std.specs.Prelude.{codes}
use Rattle.cssq_tree.proofs.Attributes.{attribute_first}
use Rattle.cssq_tree.proofs.tree.Page.id.Goals as goal

pub returns : goal.returns
returns c = c.id.ensures ∙ sym (attribute_first c.self.inside.lines.items c.args.self.now
    c.args.index c.index.result.now c.self.view_is c.requires c.index.ensures (codes "id"))
