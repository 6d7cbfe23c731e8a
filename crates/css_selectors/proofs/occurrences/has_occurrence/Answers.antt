use Rattle.std.proofs.Common.{refl, ◌≤◌, length, sym, arith, ⊎_elim}
use Rattle.std.proofs.lemmas.Bool.{cases_lt, false≢true}
use Rattle.memchr.proofs.lemmas.FindLemmas.{Nowhere-then}
use Rattle.memchr.proofs.lemmas.SearchLemmas.{Nowhere-right, Nowhere-left, Nowhere-end}
use Rattle.css_selectors.specs.internal.Occurrences.{folded_at}
use Rattle.css_selectors.proofs.OccurrenceLemmas.{occurs-at, occurs-nowhere}
use Rattle.css_selectors.proofs.occurrences.has_occurrence.Goals as goal

pub loop-index-preserved-then-to-text : goal.loop-index-preserved-then-to-text
loop-index-preserved-then-to-text c =
    let x = folded_at c.args.ignores_case c.args.text.now in
    let h = folded_at c.args.ignores_case c.args.value.now in
    let ends = c.same_until-to.ensures in
    let below = c.if-to-text.true in
    let fits = c.loop-index-test.true in
    let low = ends.low in
    let here = Nowhere-right x _ h _ _ c.cut_of-cut.ensures.critical c.loop-index.index _ low below
    ends.same (ends.differs below) in
    (omega (arith, below, fits, low), Nowhere-then c.loop-index.invariant.1 here)

pub returns-then-is_same_before : goal.returns-then-is_same_before
returns-then-is_same_before c =
    let ends = c.same_until-to.ensures in
    let full : length c.args.text.now ≤ c.same_until-to.result =
    omega (arith, c.if-to-text.false) in
    let front = c.if-is_same_before.ensures.0 refl in
    sym (occurs-at c.args.ignores_case _ _ c.loop-index.index c.requires (record {
      fits = c.loop-index-test.true;
      reads = λ j l. sym (⊎_elim
          (λ inside. front j inside)
          (λ outside. ends.same j outside (omega arith))
          (cases_lt j c.cut_of-cut.result.place));
    }))

pub loop-index-preserved : goal.loop-index-preserved
loop-index-preserved c =
    let x = folded_at c.args.ignores_case c.args.text.now in
    let m = length c.args.text.now in
    let h = folded_at c.args.ignores_case c.args.value.now in
    let cut = c.cut_of-cut.ensures in
    let ends = c.same_until-to.ensures in
    let full : m ≤ c.same_until-to.result = omega (arith, c.if-to-text.false) in
    let fits = c.loop-index-test.true in
    let within = cut.within in
    let n = length c.args.value.now in
    let here = Nowhere-left x m h n _ _ cut.critical cut.short c.loop-index.index
    (λ k a b. ends.same k a (omega arith))
    (λ occurs.
    let front = c.if-is_same_before.ensures.1 (λ k l. sym (occurs.reads k (omega arith))) in
    false≢true front) in
    (omega (arith, within, fits), Nowhere-then c.loop-index.invariant.1 here)

pub returns : goal.returns
returns c =
    let x = folded_at c.args.ignores_case c.args.text.now in
    let h = folded_at c.args.ignores_case c.args.value.now in
    let rest = Nowhere-end x _ h _ c.loop-index.index c.loop-index-test.false in
    let none = Nowhere-then c.loop-index.invariant.1 rest in
    sym (occurs-nowhere c.args.ignores_case _ _ (λ k o.
    let fits = o.fits in
    none k (omega arith) (omega (arith, fits)) o))
