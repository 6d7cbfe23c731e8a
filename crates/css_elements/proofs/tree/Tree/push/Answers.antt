use Rattle.std.proofs.Common.{◌≡◌, ◌++◌, ◌∷◌, [], refl, sym, ap, ◌∙◌, ◌<◌, ◌+◌, length, map, IfSome, subst, arith}
use Rattle.std.proofs.lemmas.List.{length-map, length-append}
use Rattle.std.specs.List.{slice_range}
use Rattle.css_elements.specs.Rows.{row_of, attribute_of, last_child}
use Rattle.css_elements.proofs.Growing.{knows_root, knows_child, rows_reported}
use Rattle.css_elements.proofs.Ranges.{empty_range, ranges_more, ranges_set}
use Rattle.css_elements.proofs.tree.Tree.push.Goals as goal

pub invariant_of-self-in-None : goal.invariant_of-self-in-None
invariant_of-self-in-None c =
    let end = c.len-end.ensures ∙ c.self.inside.attributes.ok.0 in (
      knows_root c.self.inside.entries.items c.self.inside.last_root _ c.self.invariant.0 refl
          c.push.new.self.items c.len-index.result c.in_ok-push.ensures.items
          (c.len-index.ensures ∙ c.self.inside.entries.ok.0) c.in-None.is,
      ranges_more c.self.inside.entries.items (length c.self.inside.attributes.items)
          c.self.invariant.1 _ c.push.new.self.items c.in_ok-push.ensures.items end end,
    )

pub invariant_of-self-in-Some : goal.invariant_of-self-in-Some
invariant_of-self-in-Some c =
    let here = c.index_mut.ensures.value in
    let count = length c.self.inside.attributes.items in
    let end = c.len-end.ensures ∙ c.self.inside.attributes.ok.0 in
    let there : c.in-Some.above < length c.args.self.now = subst
    (λ r. IfSome r (λ p. p < length c.args.self.now)) c.in-Some.is c.in_ok-previous.ensures.there in
    let before : length c.args.self.now ≡ length c.self.inside.entries.items =
    ap length (sym c.self.view_is)
    ∙ length-map c.self.inside.entries.items (row_of c.self.inside.attributes.items) in
    let after : length c.push.new.self.items ≡ length c.self.inside.entries.items + 1 =
    ap length c.in_ok-push.ensures.items ∙ length-append c.self.inside.entries.items _ in (
      knows_child c.self.inside.entries.items c.self.inside.last_root _ c.self.invariant.0 refl
          c.push.new.self.items c.len-index.result c.in_ok-push.ensures.items
          (c.len-index.ensures ∙ c.self.inside.entries.ok.0)
          c.in-Some.above c.in-Some.is (omega (arith, there, before, after)) _ c.index_mut.result.now
          (ap (λ e. e.parent) here) refl,
      ranges_set c.push.new.self.items count (ranges_more c.self.inside.entries.items count
          c.self.invariant.1 _ c.push.new.self.items c.in_ok-push.ensures.items end end)
          c.in-Some.above _ c.index_mut.result.now (ap (λ e. e.first) here) (ap (λ e. e.end) here),
    )

pub returns-in-Some-clause-added : goal.returns-in-Some-clause-added
returns-in-Some-clause-added c =
    let all = c.self.inside.attributes.items in
    let previous : c.in_ok-previous.previous ≡ last_child c.args.self.now c.args.parent =
    c.in_ok-previous.ensures.ok in
    let none : map attribute_of (slice_range all c.len-end.result c.len-end.result) ≡ [] =
    empty_range all c.len-end.result in
    rows_reported all c.self.inside.entries.items _ c.push.new.self.items
    c.in_ok-push.ensures.items c.in-Some.above _ c.index_mut.result.now
    (ap (row_of all) c.index_mut.ensures.value)
    ∙ (λ k. c.self.view_is k ++ (record {
      name = c.args.name.now;
      attributes = none k;
      parent = c.args.parent;
      previous = previous k;
      states = record {
        link = c.default.ensures.0 k;
        visited = c.default.ensures.1.0 k;
        hover = c.default.ensures.1.1.0 k;
        active = c.default.ensures.1.1.1.0 k;
        focus = c.default.ensures.1.1.1.1 k;
      };
    }) ∷ [])
