use Rattle.simplecss_grammar.proofs.bytes.BlankLaws.{has_space-comments}
use Rattle.simplecss_grammar.proofs.laws.space_bytes_are_parts.Goals as goal

pub returns : goal.returns
returns c = has_space-comments
