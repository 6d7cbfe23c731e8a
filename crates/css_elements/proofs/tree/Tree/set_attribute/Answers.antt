use Rattle.std.proofs.Common.{◌≡◌, ◌+◌, ◌<◌, length, [], ◌∷◌, ap, ◌∙◌, arith}
use Rattle.std.proofs.lemmas.List.{length-append}
use Rattle.css_elements.specs.Rows.{row_of, row_with, with_attribute}
use Rattle.css_elements.proofs.Growing.{knows_kept}
use Rattle.css_elements.proofs.Ranges.{attributes_with, ranges_longer, rows_with}
use Rattle.css_elements.proofs.tree.Tree.set_attribute.Goals as goal

pub invariant_of-self-2 : goal.invariant_of-self-2
invariant_of-self-2 c =
    let here = c.index_mut.ensures.value in
    let all = c.self.inside.attributes.items in
    let last : c.in-Some.last + 1 ≡ length c.self.inside.entries.items =
    omega (arith, c.in-Some.ensures, c.len.ensures, c.self.inside.entries.ok.0) in
    let count : length c.push.new.self.items ≡ length all + 1 =
    ap length c.in_ok-push.ensures.items ∙ length-append all ((c.args.name, c.args.value) ∷ []) in
    let end = c.len-2.ensures ∙ c.push.new.self.ok.0 in (
      knows_kept c.self.inside.entries.items c.self.inside.last_root c.self.invariant.0 c.in-Some.last
          _ c.index_mut.result.now (ap (λ e. e.parent) here) (ap (λ e. e.last_child) here),
      ranges_longer c.self.inside.entries.items (length all) c.self.invariant.1
          (length c.push.new.self.items) c.in-Some.last _ c.index_mut.result.now count last
          (ap (λ e. e.first) here) end,
    )

pub returns-clause-ok : goal.returns-clause-ok
returns-clause-ok c =
    let here = c.index_mut.ensures.value in
    let all = c.self.inside.attributes.items in
    let more = c.push.new.self.items in
    let entries = c.self.inside.entries.items in
    let last : c.in-Some.last + 1 ≡ length entries =
    omega (arith, c.in-Some.ensures, c.len.ensures, c.self.inside.entries.ok.0) in
    let count : length more ≡ length all + 1 =
    ap length c.in_ok-push.ensures.items ∙ length-append all ((c.args.name, c.args.value) ∷ []) in
    let end : c.len-2.result ≡ length all + 1 = c.len-2.ensures ∙ c.push.new.self.ok.0 ∙ count in
    let e = c.index_mut.result.now in
    let less : c.in-Some.last < length entries = omega (arith, last) in
    let range = c.self.invariant.1.within c.in-Some.last e less in
    let first = ap (λ x. x.first) here in
    let old = ap (λ x. x.end) here in
    let full = c.self.invariant.1.last c.in-Some.last e last in
    rows_with all more (c.args.name, c.args.value) entries c.self.invariant.1
    c.in_ok-push.ensures.items c.in-Some.last _ e last
    (ap (λ attributes. record {
      name = e.name.now;
      attributes = attributes;
      parent = e.parent;
      previous = e.previous;
      states = e.states;
    }) (attributes_with all more (c.args.name, c.args.value) e.first e.end c.len-2.result
    c.in_ok-push.ensures.items (omega (arith, range.0, first, old)) (old ∙ full) end)
    ∙ ap (λ x. row_with (row_of all x) c.args.name.now c.args.value.now) here)
    ∙ ap (λ rows. with_attribute rows c.args.name.now c.args.value.now) c.self.view_is
