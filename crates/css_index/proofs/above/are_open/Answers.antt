use Rattle.std.proofs.Common.{refl, subst}
use Rattle.std.specs.List.{All}
use Rattle.std.proofs.lemmas.List.{take_all}
use Rattle.css_open_elements.specs.Opened.{IsOpen}
use Rattle.css_index.proofs.WalkLemmas.{all_next}
use Rattle.css_index.proofs.above.are_open.Goals as goal

pub loop-number-preserved : goal.loop-number-preserved
loop-number-preserved c =
    all_next (IsOpen c.args.path.now.opened) c.args.numbers.now c.loop-number.number-index _
    c.loop-number-test.true c.loop-number.invariant (c.is_open.ensures.0 c.if-not-is_open.false)

pub returns : goal.returns
returns c = (
  λ t. subst (All (IsOpen c.args.path.now.opened))
      (take_all c.loop-number.number-index c.args.numbers.now c.loop-number-test.false)
      c.loop-number.invariant,
  λ a. refl,
)
