use Rattle.std.proofs.Common.{◌≡◌, arith, subst}
use Rattle.std.specs.List.{All}
use Rattle.std.proofs.lemmas.List.{take_all}
use Rattle.css_cascade.specs.declared.rollback.Rollback.TheVariants.{Nowhere}
use Rattle.css_styles.proofs.settling.some_rolls_back.Goals as goal

pub returns : goal.returns
returns c = λ same.
    subst (All (λ n. n.contender.weight.rollback ≡ Nowhere))
    (take_all c.loop-one.one-index c.args.contenders.now (omega (arith, c.loop-one-test.false)))
    c.loop-one.invariant
