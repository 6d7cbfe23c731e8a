use Rattle.std.proofs.Common.{refl, false}
use Rattle.css_syntax.proofs.ListSteps.{items-few, items-in_turn}
use Rattle.css_syntax.proofs.declarations.Declarations.new.Goals as goal

pub returns : goal.returns
returns c = record {
  left = refl;
  in_block_is = refl;
  to_come = refl;
  few = items-few false c.args.text.now;
  in_turn = items-in_turn;
}
