use Rattle.std.proofs.Common.{ap, ◌∙◌}
use Rattle.css_elements.specs.TreeNodes.{attributes_at}
use Rattle.css_tree.proofs.Reporting.{name_read}
use Rattle.css_tree.proofs.node.NumberedNodeKeyed.attribute_name.Goals as goal

pub returns : goal.returns
returns c =
    name_read c.attributes-attributes.result.now
    (attributes_at c.args.self.now.0.rows c.args.self.now.1) c.args.index _
    (c.attributes-attributes.ensures ∙ ap (λ n. attributes_at n.0 n.1) c.plain.ensures
    ∙ ap (λ p. attributes_at p.0.rows p.1) c.self.view_is) c.requires
