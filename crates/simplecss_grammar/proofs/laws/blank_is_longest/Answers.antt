use Rattle.simplecss_grammar.proofs.bytes.BlankLaws.{past_blank-longest}
use Rattle.simplecss_grammar.proofs.laws.blank_is_longest.Goals as goal

pub returns : goal.returns
returns c = past_blank-longest
