use Rattle.std.proofs.Common.{subst}
use Rattle.std.proofs.lemmas.Result.{on_ok_weaker}
use Rattle.simplecss.specs.OpenPaths.{AreOpened}
use Rattle.simplecss.specs.internal.Kept.{top_starts}
use Rattle.simplecss.specs.internal.Recents.{adds_bucket}
use Rattle.simplecss.proofs.Candidates.{starts_led}
use Rattle.simplecss.proofs.OpenPathLemmas.{parent_led, adds_slice}
use Rattle.simplecss.proofs.BucketIndices.{beside_added}
use Rattle.simplecss.proofs.index.find.find_beside_open.Goals as goal

pub returns : goal.returns
returns g c =
    let tree = g.E.Element.tree in
    let lasts = c.rule_index.inside.lasts in
    let links = c.rule_index.inside.links.items in
    let path = c.args.path.now in
    let place = tree.parent (g.E.Element.node c.args.element.now) in
    let parent = parent_led lasts links c.args.rule_index.now c.rule_index.invariant.chained
    c.rule_index.view_is tree g.E.Element.node g.E.Keyed.reported place path.marks path.listed
    path.starts
    (subst (λ ss. AreOpened tree g.E.Element.node g.E.Keyed.reported ss place path.marks path.listed
    path.starts) c.requires.path c.requires.open) in
    on_ok_weaker c.push_neighbour.result
    (λ previous.
    let beside = beside_added tree g.E.Element.node g.E.Keyed.reported
    c.args.element.now lasts _ _ _ _ _
    (rw c.id_value.ensures at c.in_ok-push_id.ensures) c.in_ok-push_attributes.ensures (
      parent.0,
      parent.1,
      adds_slice _ _ c.parent_starts.result.now
          (top_starts path.marks path.starts) c.in_ok-extend_from_slice.ensures.items
          c.parent_starts.ensures parent.2,
    ) previous in (
      beside.0,
      beside.1,
      starts_led (adds_bucket beside.0) lasts links
          c.args.rule_index.now c.rule_index.invariant.chained c.rule_index.view_is
          c.clear.new.self.items c.push_neighbour.new.indices.items c.clear.ensures.items beside.2,
    ))
    (rw c.prev_sibling_element.ensures at c.push_neighbour.ensures)
