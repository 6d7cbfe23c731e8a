use Rattle.std.proofs.Common.{◌∙◌, subst}
use Rattle.css_tree.specs.Pages.{family}
use Rattle.css_tree.specs.Keys.{AreFamilies}
use Rattle.css_tree.proofs.Numbering.{siblings_after}
use Rattle.css_tree.proofs.numbered_tree.NumberedTree.after.Goals as goal

pub returns : goal.returns
returns c =
    let rows = c.args.self.now.rows in
    let are : AreFamilies rows c.self.inside.families =
    subst (λ p. AreFamilies p.rows c.self.inside.families) c.self.view_is c.self.invariant.0 in
    c.after.ensures (family rows c.args.index) (are.each c.args.index c.requires)
    ∙ siblings_after rows c.self.inside.families are c.args.index c.requires
