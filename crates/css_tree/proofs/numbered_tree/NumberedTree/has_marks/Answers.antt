use Rattle.std.proofs.Common.{◌≡◌, ◌<◌, length, map, take, IsTrue, ap, sym, subst, ◌↔◌, ◌∙◌, arith}
use Rattle.std.specs.Prelude.{◌||◌}
use Rattle.std.proofs.lemmas.List.{with_items_is}
use Rattle.css_selector_text.specs.declared.components.Complex.{out-Complex}
use Rattle.css_selector_text.specs.Components.{parts_from, selectors_from}
use Rattle.css_selectors.specs.Meanings.{part_count}
use Rattle.css_selector_text.specs.Views.{complex_of, part_of}
use Rattle.css_selectors.proofs.PartLemmas.{part_count-from}
use Rattle.css_tree.specs.HasSelectors.{HasAny}
use Rattle.css_tree.specs.Steps.{is_set, Leads}
use Rattle.css_tree.proofs.HasLemmas.{any_added, any_without, some_there, none_there}
use Rattle.css_tree.proofs.numbered_tree.NumberedTree.has_marks.Goals as goal
use Rattle.css_tree.proofs.numbered_tree.NumberedTree.has_marks.Goals.{then-not-is_empty+in_ok-found, else-not-is_empty}

pub loop-selector-preserved : goal.loop-selector-preserved
loop-selector-preserved c =
    let page = c.args.self.now in
    let s = c.selector-item.result in
    let lt : c.loop-selector.selector-index < length c.args.list.now = c.loop-selector-test.true in
    let is = c.as_slice-parts.ensures.value in
    let count : part_count (parts_from (complex_of s)) ≡ length c.as_slice-parts.result.now =
    part_count-from (out-Complex s).parts.items ∙ ap length (sym is) in
    elim c.if-not-is_empty.branch [
      | then-not-is_empty+in_ok-found w ↦
          (let new : c.if-not-is_empty.all.items ≡ w.add_marks.new.all =
          ap (λ v. v.items) w.all-is
          ∙ with_items_is c.loop-selector.all w.add_marks.new.all
          (omega (arith, w.add_marks.auto.all, w.as_mut_slice.ensures.len)) in
          let was = w.as_mut_slice.ensures.value in
          let more = w.as_slice.ensures.value in
          let old = ap length was ∙ c.loop-selector.invariant.marks in
          record {
            marks = ap length new ∙ w.add_marks.auto.all ∙ old;
            each = any_added page c.args.list.now s c.loop-selector.selector-index lt
                c.selector-item.is c.loop-selector.all.items w.in_ok-found.found.items
                c.if-not-is_empty.all.items c.loop-selector.invariant.each
                (λ i within. subst (λ ps. IsTrue (is_set w.in_ok-found.found.items i)
                ↔ Leads page (parts_from (map part_of ps)) i) is
                (w.in_ok-found.ensures.each i within))
                (let some = some_there (length c.as_slice-parts.result.now) c.is_empty.result
                c.is_empty.ensures w.if-not-is_empty.true in omega (arith, count, some))
                (λ i within. ap (λ m. is_set m i) new
                ∙ w.add_marks.ensures i (omega (arith, within, old))
                ∙ ap (λ m. is_set m i || is_set w.as_slice.result.now i) was
                ∙ ap (λ m. is_set c.loop-selector.all.items i || is_set m i) more);
          })
      | else-not-is_empty w ↦
          (let same : c.if-not-is_empty.all.items ≡ c.loop-selector.all.items =
          ap (λ v. v.items) w.all-is in
          record {
            marks = ap length same ∙ c.loop-selector.invariant.marks;
            each = any_without page c.args.list.now s c.loop-selector.selector-index lt
                c.selector-item.is c.if-not-is_empty.all.items
                (λ i within. subst (λ m. IsTrue (is_set m i)
                ↔ HasAny page (selectors_from (map complex_of
                (take c.loop-selector.selector-index c.args.list.now))) i) (sym same)
                (c.loop-selector.invariant.each i within))
                (count ∙ none_there (length c.as_slice-parts.result.now) c.is_empty.result
                c.is_empty.ensures w.if-not-is_empty.false);
          })
    ]
