use Rattle.std.proofs.Common.{sym, subst, ap, ◌∙◌, length, not}
use Rattle.std.proofs.lemmas.Bool.{false≢true, le-leb, not-false}
use Rattle.css_selectors.specs.internal.Occurrences.{folded_at, IsCut}
use Rattle.css_selectors.proofs.OccurrenceLemmas.{cut-wide, cut-long, cut-small}
use Rattle.css_selectors.proofs.occurrences.cut_at.Goals.{then-place-text, else-place-text}
use Rattle.css_selectors.proofs.occurrences.cut_at.Goals as goal

pub returns-then-is_long : goal.returns-then-is_long
returns-then-is_long c =
    let x = folded_at c.args.ignores_case c.args.text.now in
    let m = length c.args.text.now in
    let s = c.args.suffix in
    subst (IsCut x m s.place) (sym c.max-shift.ensures)
    (elim c.if-place-text.branch [
      | then-place-text w ↦ cut-wide x m s.place s.period c.requires w.if-place-text.true
      | else-place-text w ↦ cut-long x m s.place s.period c.requires (λ all.
          let no = w.is_long-is ∙ ap not (w.repeats.ensures.1 all) in
          false≢true (sym no ∙ c.if-is_long.true))
    ])

pub returns-else-is_long : goal.returns-else-is_long
returns-else-is_long c =
    let x = folded_at c.args.ignores_case c.args.text.now in
    let m = length c.args.text.now in
    let s = c.args.suffix in
    elim c.if-place-text.branch [
      | then-place-text w ↦
          let yes = w.is_long-is ∙ le-leb _ _ w.if-place-text.true in
          absurd (false≢true (sym c.if-is_long.false ∙ yes))
      | else-place-text w ↦ cut-small x m s.place s.period c.requires
          (w.repeats.ensures.0 (not-false _ (sym w.is_long-is ∙ c.if-is_long.false)))
    ]
