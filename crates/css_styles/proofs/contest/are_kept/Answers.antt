use Rattle.std.proofs.Common.{◌≡◌, ◌∙◌, true, arith, sym, subst}
use Rattle.std.specs.List.{All}
use Rattle.std.proofs.lemmas.List.{take_all}
use Rattle.std.proofs.lemmas.List.Elements.{All-more}
use Rattle.css_styles.specs.internal.Numbered.{is_kept}
use Rattle.css_styles.proofs.contest.are_kept.Goals as goal

pub loop-one-preserved : goal.loop-one-preserved
loop-one-preserved c =
    All-more (λ n. is_kept c.args.best.now n ≡ true) c.args.contenders.now c.loop-one.one-index _
    c.loop-one-test.true c.loop-one.invariant (sym c.is_kept.ensures ∙ c.if-not-is_kept.false)

pub returns : goal.returns
returns c = λ same.
    subst (All (λ n. is_kept c.args.best.now n ≡ true))
    (take_all c.loop-one.one-index c.args.contenders.now (omega (arith, c.loop-one-test.false)))
    c.loop-one.invariant
