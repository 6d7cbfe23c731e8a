use Rattle.std.proofs.Common.{◌≡◌, ◌<◌, ◌^◌, length, sym, subst, ◌∙◌, arith}
use Rattle.css_tree.specs.Pages.{family}
use Rattle.css_tree.specs.Keys.{AreFamilies}
use Rattle.css_tree.proofs.Counting.{some_same}
use Rattle.css_tree.proofs.Numbering.{family-at_most}
use Rattle.css_tree.proofs.numbered_tree.NumberedTree.family.Goals as goal

pub returns : goal.returns
returns c =
    let rows = c.args.self.now.rows in
    let are : AreFamilies rows c.self.inside.families =
    subst (λ p. AreFamilies p.rows c.self.inside.families) c.self.view_is c.self.invariant.0 in
    let is : c.number.result ≡ family rows c.args.index =
    some_same (sym c.number.ensures ∙ are.each c.args.index c.requires) in
    record {
      value = is;
      within = omega (arith, is, family-at_most rows c.args.index, c.requires);
      few = subst (λ p. length p.rows < 2 ^ 32) c.self.view_is c.self.invariant.6;
    }
