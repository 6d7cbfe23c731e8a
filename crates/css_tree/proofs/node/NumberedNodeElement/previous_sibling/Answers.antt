use Rattle.std.proofs.Common.{sym, ◌∙◌, arith}
use Rattle.css_tree.specs.Pages.{is_sibling}
use Rattle.css_tree.proofs.Counting.{last_below-before}
use Rattle.css_tree.proofs.node.NumberedNodeElement.previous_sibling.Goals as goal

pub invariant_of-result : goal.invariant_of-result
invariant_of-result c =
    let before = last_below-before (is_sibling c.self.inside.tree.now.rows c.self.inside.index)
    c.self.inside.index c.in_ok-index.index
    (sym c.before-2.ensures.last ∙ c.in_ok-index.was) in
    let within = c.self.invariant in omega (arith, before, within)
