use Rattle.simplecss_grammar.proofs.bytes.BlankLaws.{comment-got}
use Rattle.simplecss_grammar.proofs.laws.comment_is_closed.Goals as goal

pub returns : goal.returns
returns c = comment-got
