use Rattle.std.proofs.Common.{length, sym, subst, arith}
use Rattle.memchr.specs.Critical.{IsCutPlace}
use Rattle.css_selectors.specs.internal.Occurrences.{folded_at}
use Rattle.css_selectors.proofs.OccurrenceLemmas.{cut-rising, cut-falling}
use Rattle.css_selectors.proofs.occurrences.cut_of.Goals.{then-one-other, else-one-other}
use Rattle.css_selectors.proofs.occurrences.cut_of.Goals as goal

pub cut_at-requires : goal.cut_at-requires
cut_at-requires c =
    let x = folded_at c.args.ignores_case c.args.text.now in
    let m = length c.args.text.now in
    let one = c.greatest_suffix-one.ensures in
    let other = c.greatest_suffix-other.ensures in
    elim c.if-one-other.branch [
      | then-one-other w ↦
          let later = w.if-one-other.true in
          subst (λ s. IsCutPlace x m s.place s.period) (sym w.later-is)
          (cut-falling x m _ _ _ _ one other (omega (arith, later)))
      | else-one-other w ↦
          let later = w.if-one-other.false in
          subst (λ s. IsCutPlace x m s.place s.period) (sym w.later-is)
          (cut-rising x m _ _ _ _ one other (omega (arith, later)))
    ]
