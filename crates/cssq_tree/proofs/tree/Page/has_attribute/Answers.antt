use Rattle.std.proofs.Common.{sym, ap, ◌∙◌}
use Rattle.std.specs.Prelude.{is_some}
use Rattle.cssq_tree.proofs.Attributes.{attribute_first}
use Rattle.cssq_tree.proofs.tree.Page.has_attribute.Goals as goal

pub returns : goal.returns
returns c = c.has.ensures
    ∙ ap is_some (sym (attribute_first c.self.inside.lines.items c.args.self.now c.args.index
    c.index.result.now c.self.view_is c.requires c.index.ensures c.args.key.now))
