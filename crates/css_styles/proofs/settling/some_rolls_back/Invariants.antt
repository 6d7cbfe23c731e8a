use Rattle.std.proofs.Common.{◌≡◌, take}
use Rattle.std.specs.List.{All}
use Rattle.css_cascade.specs.declared.rollback.Rollback.TheVariants.{Nowhere}
use Rattle.css_styles.proofs.settling.some_rolls_back.Given as goal

-- none of those so far rolls back
abbrev pub invariant-loop-one : goal.invariant-loop-one
invariant-loop-one l =
    All (λ n. n.contender.weight.rollback ≡ Nowhere) (take l.one-index l.contenders)
