use Rattle.std.proofs.Common.{sym, ◌∙◌}
use Rattle.simplecss.specs.OperatorViews.{pseudo_class_of}
use Rattle.simplecss_tree.specs.TreeNodes.{is_in}
use Rattle.simplecss_tree.proofs.node.NodeElement.pseudo_class_matches.Goals as goal

pub returns-in-Lang : goal.returns-in-Lang
returns-in-Lang c =
    let class = sym c.in-Lang.is in
    c.is_in_language.ensures
    ∙ (λ k. is_in (c.self.view_is k).0 (c.self.view_is k).1 (pseudo_class_of (class k)))
