use Rattle.std.proofs.Common.{ℕ, length, ap, ◌∙◌, subst}
use Rattle.std.proofs.lemmas.Result.{on_ok_weaker}
use Rattle.css_matching.specs.ListTrees.{spot}
use Rattle.css_index.specs.Tested.{AreTried}
use Rattle.css_elements.proofs.Walking.{node_is}
use Rattle.css_tree.specs.Pages.{Page, page_document}
use Rattle.css_tree.specs.Reports.{reported_of}
use Rattle.css_tree.specs.Walks.{PageWalk}
use Rattle.css_tree.proofs.tree_walk.TreeWalk.matching.Goals as goal

pub returns-clause-tests : goal.returns-clause-tests
returns-clause-tests c =
    let page = c.self.inside.page.now in
    let same =
    node_is page (length page.rows) c.args.element c.node.result c.unwrap-node.result c.unwrap-node.ensures
    c.node.ensures
    ∙ ap (λ (w : PageWalk). spot w.page c.args.element) c.self.view_is in
    on_ok_weaker c.matching.result
    (λ tried. (
      c.matching.new.tried.items,
      subst (λ (n : Page × ℕ). AreTried page_document n (reported_of n) c.open_all.new.self.walk
          c.matching.new.tried.items c.args.tests.now c.matching.new.tests) same tried,
    )) c.matching.ensures.tried
