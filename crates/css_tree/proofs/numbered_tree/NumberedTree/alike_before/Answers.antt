use Rattle.std.proofs.Common.{◌∙◌, ap, subst}
use Rattle.css_tree.specs.Keys.{AreKinds, kind}
use Rattle.css_tree.proofs.Numbering.{alike_before}
use Rattle.css_tree.proofs.numbered_tree.NumberedTree.alike_before.Goals as goal

pub returns : goal.returns
returns c =
    let rows = c.args.self.now.rows in
    let namespaces = c.args.self.now.given.namespaces in
    let are : AreKinds rows namespaces c.self.inside.kinds =
    subst (λ p. AreKinds p.rows p.given.namespaces c.self.inside.kinds) c.self.view_is
    c.self.invariant.1 in
    ap (λ s. s.count) (c.before-2.ensures.seen (kind rows namespaces c.args.index)
    (are.each c.args.index c.requires))
    ∙ alike_before rows namespaces c.self.inside.kinds are c.args.index c.requires
