use Rattle.simplecss_grammar.proofs.bytes.BlankLaws.{blank-open}
use Rattle.simplecss_grammar.proofs.laws.open_comment_breaks_blank.Goals as goal

pub returns : goal.returns
returns c = blank-open
