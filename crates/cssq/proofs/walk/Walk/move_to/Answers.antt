use Rattle.std.proofs.Common.{Some, refl, sym, ◌∙◌, subst}
use Rattle.simplecss.specs.OpenPaths.{IsOpenTo}
use Rattle.cssq_tree.specs.ParentsAndSiblings.{depths_of}
use Rattle.cssq_tree.specs.PageNodes.{Spot, page_tree, reported_of}
use Rattle.cssq.proofs.Walking.{above_target, at_parent, node_is}
use Rattle.cssq.proofs.walk.Walk.move_to.Goals as goal

pub returns-clause-walk : goal.returns-clause-walk
returns-clause-walk c =
    let rows = c.args.page.now in
    let parent = c.in-Some.parent in
    let path = c.enter.new.self in
    let node = node_is rows parent c.node.result c.unwrap-node.result c.unwrap-node.ensures
    c.node.ensures in
    let place = above_target (depths_of rows) parent c.close_for.result c.close_for.new.self.place
    c.in-Some.is c.close_for.ensures.place (sym c.eq.ensures ∙ c.if-eq.false) in
    let opened = c.in_ok-enter.ensures.opened (at_parent rows c.close_for.new.self.path
    c.close_for.new.self.place c.close_for.new.self.place parent c.unwrap-node.result
    c.close_for.ensures.walk.opened refl place node) in
    record {
      within = c.in-Some.ensures.within;
      opened = subst (λ n. IsOpenTo {Node = Spot} {Self = Spot} page_tree (λ e. e) reported_of path
          (Some n)) node opened;
    }
