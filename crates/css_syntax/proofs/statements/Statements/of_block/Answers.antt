use Rattle.std.proofs.Common.{refl, true}
use Rattle.css_syntax.proofs.ListSteps.{statements-few, statements-in_turn}
use Rattle.css_syntax.proofs.statements.Statements.of_block.Goals as goal

pub returns : goal.returns
returns c = record {
  left = refl;
  in_block_is = refl;
  to_come = refl;
  few = statements-few true c.args.text.now;
  in_turn = statements-in_turn;
}
