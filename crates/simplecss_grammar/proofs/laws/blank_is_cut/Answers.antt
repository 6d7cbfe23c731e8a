use Rattle.simplecss_grammar.proofs.bytes.BlankLaws.{past_blank-cut}
use Rattle.simplecss_grammar.proofs.reading.OccurrenceLemmas.{ends-past_blank}
use Rattle.simplecss_grammar.proofs.laws.blank_is_cut.Goals as goal

pub returns-clause-ends : goal.returns-clause-ends
returns-clause-ends c = ends-past_blank

pub returns-clause-cut : goal.returns-clause-cut
returns-clause-cut c = past_blank-cut
