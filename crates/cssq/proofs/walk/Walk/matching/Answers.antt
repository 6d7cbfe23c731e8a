use Rattle.std.proofs.Common.{◌∙◌, refl, subst}
use Rattle.std.proofs.lemmas.Result.{on_ok_weaker}
use Rattle.simplecss.specs.Matching.{AreMatches}
use Rattle.cssq_tree.specs.PageNodes.{page_tree}
use Rattle.cssq.proofs.Walking.{at_parent, node_is}
use Rattle.cssq.proofs.walk.Walk.matching.Goals as goal

pub matching_exact-requires : goal.matching_exact-requires
matching_exact-requires c =
    let rows = c.args.page.now in
    let node = node_is rows c.args.element c.node.result c.unwrap-node.result c.unwrap-node.ensures
    c.node.ensures in
    let at = at_parent rows c.move_to.new.self.path c.move_to.new.self.place
    c.move_to.new.self.place c.args.element c.unwrap-node.result
    c.in_ok-move_to.ensures.walk.opened refl c.in_ok-move_to.ensures.at node in
    λ k. (
      (refl, tt),
      (c.requires.index, (c.in_ok-move_to.ensures.index ∙ c.requires.path, at)),
    )

pub returns-clause-matches : goal.returns-clause-matches
returns-clause-matches c =
    let node = node_is c.args.page.now c.args.element c.node.result c.unwrap-node.result
    c.unwrap-node.ensures c.node.ensures in
    on_ok_weaker c.matching_exact.result
    (subst (λ n. AreMatches page_tree n c.args.index.now c.matching_exact.new.indices.items) node)
    c.matching_exact.ensures.matches
