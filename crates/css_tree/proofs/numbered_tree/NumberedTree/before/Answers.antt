use Rattle.std.proofs.Common.{◌∙◌, ap, subst}
use Rattle.css_tree.specs.Pages.{family}
use Rattle.css_tree.specs.Keys.{AreFamilies}
use Rattle.css_tree.proofs.Numbering.{siblings_before, last_sibling}
use Rattle.css_tree.proofs.numbered_tree.NumberedTree.before.Goals as goal

pub returns-clause-count : goal.returns-clause-count
returns-clause-count c =
    let rows = c.args.self.now.rows in
    let are : AreFamilies rows c.self.inside.families =
    subst (λ p. AreFamilies p.rows c.self.inside.families) c.self.view_is c.self.invariant.0 in
    ap (λ s. s.count) (c.before-2.ensures.seen (family rows c.args.index)
    (are.each c.args.index c.requires))
    ∙ siblings_before rows c.self.inside.families are c.args.index c.requires

pub returns-clause-last : goal.returns-clause-last
returns-clause-last c =
    let rows = c.args.self.now.rows in
    let are : AreFamilies rows c.self.inside.families =
    subst (λ p. AreFamilies p.rows c.self.inside.families) c.self.view_is c.self.invariant.0 in
    ap (λ s. s.last) (c.before-2.ensures.seen (family rows c.args.index)
    (are.each c.args.index c.requires))
    ∙ last_sibling rows c.self.inside.families are c.args.index c.requires
