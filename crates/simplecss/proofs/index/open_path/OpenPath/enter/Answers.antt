use Rattle.std.proofs.Common.{◌≡◌, ◌<◌, ◌++◌, length, sym, ap, ◌∙◌, subst, arith, get_or}
use Rattle.std.specs.List.{Contains}
use Rattle.std.proofs.lemmas.List.Elements.{Contains-get_or}
use Rattle.simplecss.specs.OpenPaths.{needed_keys, IsOpenTo}
use Rattle.simplecss.specs.internal.NeededKeys.{AreNumbered, keys_of}
use Rattle.simplecss.proofs.OpenPathLemmas.{opened_more, parent_starts, numbers_reported, found_led}
use Rattle.simplecss.proofs.index.open_path.OpenPath.enter.Goals as goal

pub add_all-requires : goal.add_all-requires
add_all-requires g c = λ k d lt.
    let found = c.push_keys_of.new.indices.items in
    let are = c.index.invariant.numbered in
    let led = found_led c.clear.new.self.items found c.clear.ensures.items
    c.in_ok-push_keys_of.ensures in
    let member : Contains found (get_or c.deref.result.now k d) =
    subst (λ xs. Contains xs (get_or c.deref.result.now k d)) c.deref.ensures.value
    (Contains-get_or c.deref.result.now k d lt) in
    let h = (led (get_or c.deref.result.now k d)).0 member in
    let same : c.args.index.now ≡ c.self.inside.index.value =
    sym (ap (λ v. v.selectors) c.self.view_is ∙ c.requires) in
    let size : length (keys_of c.index.inside.needed) ≡ c.self.inside.keys.size =
    ap length (are.keys ∙ ap needed_keys (c.index.view_is ∙ same)) ∙ sym c.self.invariant in
    subst (λ n. get_or c.deref.result.now k d < n) size
    (are.numbered.only h.0 (get_or c.deref.result.now k d) h.2).0

pub returns-clause-opened : goal.returns-clause-opened
returns-clause-opened g c = λ path.
    let tree = g.E.Element.tree in
    let selectors = c.self.inside.index.value in
    let are = c.index.invariant.numbered in
    let same : c.args.index.now ≡ selectors =
    sym (ap (λ v. v.selectors) c.self.view_is ∙ c.requires) in
    let found = c.push_keys_of.new.indices.items in
    let led = found_led c.clear.new.self.items found c.clear.ensures.items
    c.in_ok-push_keys_of.ensures in
    let keys = subst (AreNumbered c.index.inside.needed.numbers)
    (are.keys ∙ ap needed_keys (c.index.view_is ∙ same)) are.numbered in
    let starts = c.in_ok-push_keys_of-2.ensures in
    opened_more tree g.E.Element.node g.E.Keyed.reported selectors c.args.element.now
    c.self.inside.marks.items c.push.new.self.items c.self.inside.keys.listed
    c.add_all.new.self.listed c.self.inside.starts.items c.push_keys_of-2.new.indices.items found
    c.len.result c.len-2.result
    (subst (λ v. IsOpenTo tree g.E.Element.node g.E.Keyed.reported v
    (tree.parent (g.E.Element.node c.args.element.now))) (sym c.self.view_is) path)
    (numbers_reported c.index.inside.needed (needed_keys selectors)
    (g.E.Keyed.reported c.args.element.now) found keys led) (
      starts.0,
      starts.1,
      parent_starts c.index.inside.lasts c.index.inside.links.items selectors
          c.index.invariant.chained (c.index.view_is ∙ same)
          (g.E.Keyed.reported c.args.element.now) starts.0 starts.2,
    )
    c.len.ensures (omega (arith, c.len-2.ensures, c.self.inside.starts.ok.0))
    c.in_ok-push.ensures.items
    (c.in_ok-add_all.ensures.listed ∙ ap (λ xs. c.self.inside.keys.listed ++ xs)
    c.deref.ensures.value)
