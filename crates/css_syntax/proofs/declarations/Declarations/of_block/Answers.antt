use Rattle.std.proofs.Common.{refl, true}
use Rattle.css_syntax.proofs.ListSteps.{items-few, items-in_turn}
use Rattle.css_syntax.proofs.declarations.Declarations.of_block.Goals as goal

pub returns : goal.returns
returns c = record {
  left = refl;
  in_block_is = refl;
  to_come = refl;
  few = items-few true c.args.text.now;
  in_turn = items-in_turn;
}
