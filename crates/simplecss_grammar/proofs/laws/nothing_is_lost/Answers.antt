use Rattle.simplecss_grammar.proofs.skipped.AccountedFor.{loses_nothing}
use Rattle.simplecss_grammar.proofs.laws.nothing_is_lost.Goals as goal

pub returns : goal.returns
returns c = loses_nothing
