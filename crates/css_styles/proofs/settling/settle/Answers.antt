use Rattle.std.proofs.Common.{◌≡◌, map, subst}
use Rattle.std.specs.List.{All}
use Rattle.css_cascade.specs.declared.rollback.Rollback.TheVariants.{Nowhere}
use Rattle.css_styles.specs.internal.Numbered.{numbered_of}
use Rattle.css_styles.proofs.SettledLemmas.{none-settled}
use Rattle.css_styles.proofs.settling.settle.Goals as goal

pub returns-then-not-some_rolls_back-clause-settled : goal.returns-then-not-some_rolls_back-clause-settled
returns-then-not-some_rolls_back-clause-settled c =
    let all = c.args.contenders.now.items in
    none-settled (map numbered_of all) all
    (subst (All (λ n. n.contender.weight.rollback ≡ Nowhere)) c.deref.ensures.value
    (c.some_rolls_back.ensures c.if-not-some_rolls_back.true))
