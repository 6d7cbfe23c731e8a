use Rattle.std.proofs.Common.{◌≡◌, ◌+◌, ◌<◌, suc, true, false, length, get_or, ap, sym, subst, ◌∙◌, arith}
use Rattle.std.proofs.Math.ListN.{set}
use Rattle.std.proofs.lemmas.List.{with_items_is}
use Rattle.css_selector_text.specs.reading.Numbers.{is_numbered}
use Rattle.css_selector_text.specs.Views.{progression_of}
use Rattle.css_tree.specs.Pages.{family}
use Rattle.css_tree.specs.Steps.{is_set}
use Rattle.css_tree.specs.Visits.{visited, is_counted, count_visited, AreCounted}
use Rattle.css_tree.proofs.Counting.{count_below-at_most}
use Rattle.css_tree.proofs.Numbering.{family-at_most}
use Rattle.css_tree.proofs.VisitLemmas.{visited-within, counted_not, counted_more, AreAnswered, answered_not, answered_more}
use Rattle.css_tree.proofs.numbered_tree.NumberedTree.numbered.Goals as goal
use Rattle.css_tree.proofs.numbered_tree.NumberedTree.numbered.Goals.{then-marks-index, else-marks-index}

pub is_next_numbered-requires-clause-few : goal.is_next_numbered-requires-clause-few
is_next_numbered-requires-clause-few c =
    let f = c.family-family.result in
    let known = c.loop-before.invariant.counts.each f in
    let most = count_below-at_most
    (is_counted c.args.end c.args.self.now.rows c.args.marks.now f) c.loop-before.before in
    let same = ap (λ xs. get_or xs f 0) c.as_mut_slice.ensures.value in
    omega (
      arith,
      known,
      most,
      same,
      c.loop-before-test.true,
      c.len-before-end.ensures,
      c.family-family.ensures.few,
    )

pub loop-before-preserved : goal.loop-before-preserved
loop-before-preserved c =
    let rows = c.args.self.now.rows in
    let marks = c.args.marks.now in
    let end = c.args.end in
    let p = progression_of c.args.progression in
    let k = c.loop-before.before in
    let counts = c.loop-before.counts.items in
    let found = c.loop-before.found.items in
    let less : k < length rows =
    omega (arith, c.loop-before-test.true, c.len-before-end.ensures) in
    let next : suc k ≡ k + 1 = omega arith in
    let at : c.visited-index.result ≡ visited end (length rows) k =
    c.visited-index.ensures.value ∙ ap (λ n. visited end n k) c.len-in-loop-before.ensures in
    elim c.if-marks-index.branch [
      | then-marks-index w ↦
          (let f = w.family-family.result in
          let marked : is_set marks (visited end (length rows) k) ≡ true =
          subst (λ i. is_set marks i ≡ true) at w.if-marks-index.true in
          let fam : f ≡ family rows (visited end (length rows) k) =
          w.family-family.ensures.value ∙ ap (family rows) at in
          let was = w.as_mut_slice.ensures.value in
          let within : family rows (visited end (length rows) k) < length rows =
          omega (
            arith,
            family-at_most rows (visited end (length rows) k),
            visited-within end (length rows) k less,
          ) in
          let all : c.if-marks-index.counts.items
          ≡ set counts (family rows (visited end (length rows) k))
          (get_or counts (family rows (visited end (length rows) k)) 0 + 1) =
          ap (λ v. v.items) w.counts-is
          ∙ with_items_is c.loop-before.counts w.is_next_numbered.new.counts
          (omega (arith, w.is_next_numbered.auto.counts, w.as_mut_slice.ensures.len))
          ∙ w.is_next_numbered.ensures.counts
          ∙ ap (λ xs. set xs f (get_or xs f 0 + 1)) was
          ∙ ap (λ g. set counts g (get_or counts g 0 + 1)) fam in
          let answer : w.is_next_numbered.result ≡ is_numbered p (count_visited end rows marks
          (family rows (visited end (length rows) k)) k + 1) =
          w.is_next_numbered.ensures.answer
          ∙ ap (λ n. is_numbered p (n + 1)) (ap (λ xs. get_or xs f 0) was
          ∙ ap (λ g. get_or counts g 0) fam
          ∙ c.loop-before.invariant.counts.each (family rows (visited end (length rows) k))) in
          let now : c.if-marks-index.found.items
          ≡ set found (visited end (length rows) k) w.is_next_numbered.result =
          ap (λ v. v.items) w.found-is ∙ ap (λ i. set found i w.is_next_numbered.result) at in
          record {
            counts = subst (λ xs. AreCounted end rows marks xs (k + 1)) (sym all)
                (subst (AreCounted end rows marks (set counts
                (family rows (visited end (length rows) k))
                (get_or counts (family rows (visited end (length rows) k)) 0 + 1))) next
                (counted_more end p rows marks counts k within marked c.loop-before.invariant.counts));
            answers = subst (λ xs. AreAnswered end p rows marks xs (k + 1)) (sym now)
                (subst (AreAnswered end p rows marks
                (set found (visited end (length rows) k) w.is_next_numbered.result)) next
                (answered_more end p rows marks found k w.is_next_numbered.result less marked answer
                c.loop-before.invariant.answers));
          })
      | else-marks-index w ↦
          (let unmarked : is_set marks (visited end (length rows) k) ≡ false =
          subst (λ i. is_set marks i ≡ false) at w.if-marks-index.false in
          record {
            counts = subst (λ v. AreCounted end rows marks v.items (k + 1)) (sym w.counts-is)
                (subst (AreCounted end rows marks counts) next
                (counted_not end p rows marks counts k unmarked c.loop-before.invariant.counts));
            answers = subst (λ v. AreAnswered end p rows marks v.items (k + 1)) (sym w.found-is)
                (subst (AreAnswered end p rows marks found) next
                (answered_not end p rows marks found k less unmarked
                c.loop-before.invariant.answers));
          })
    ]
