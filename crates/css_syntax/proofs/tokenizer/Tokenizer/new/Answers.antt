use Rattle.std.proofs.Common.{refl}
use Rattle.css_syntax.proofs.TokenSteps.{tokens-few, tokens-in_turn}
use Rattle.css_syntax.proofs.tokenizer.Tokenizer.new.Goals as goal

pub returns : goal.returns
returns c = record {
  left = refl;
  to_come = refl;
  few = tokens-few c.args.text.now;
  in_turn = tokens-in_turn;
}
