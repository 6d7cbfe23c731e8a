use Rattle.std.proofs.Common.{length}
use Rattle.std.proofs.Common.{◌≤◌, arith}
use Rattle.css_syntax.proofs.TokenSteps.{tokens-are}
use Rattle.css_syntax.proofs.laws.tokens_are_the_text.Goals as goal

pub returns : goal.returns
returns c = λ text. tokens-are (length text) text (omega arith)
