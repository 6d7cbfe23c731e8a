use Rattle.std.proofs.Common.{◌<◌, length, refl, subst, arith}
use Rattle.std.specs.Prelude.{All, Contains}
use Rattle.std.proofs.lemmas.List.{take_all}
use Rattle.simplecss.proofs.OpenPathLemmas.{open_next}
use Rattle.simplecss.proofs.index.rule_index.are_open.Goals as goal

pub loop-number-preserved : goal.loop-number-preserved
loop-number-preserved c =
    let lt : c.loop-number.number-index < length c.args.numbers.now = omega arith in
    open_next c.args.path.now.listed c.args.numbers.now c.loop-number.number-index lt
    c.loop-number.invariant (c.is_open.ensures.0 c.if-not-is_open.false)

pub returns : goal.returns
returns c = (
  λ h. subst (All (Contains c.args.path.now.listed))
      (take_all c.loop-number.number-index c.args.numbers.now (omega arith))
      c.loop-number.invariant,
  λ h. refl,
)
