use Rattle.std.proofs.Common.{arith}
use Rattle.simplecss_grammar.specs.Terms.{past_number}
use Rattle.css_text.proofs.bytes.ByteLemmas.{past_byte_there, past_byte_not}
use Rattle.simplecss_declaration.proofs.terms.skip_number.Goals as goal

pub returns-then-not-skip_byte-clause-rest : goal.returns-then-not-skip_byte-clause-rest
unfolding past_number
returns-then-not-skip_byte-clause-rest c = grind (arith, past_byte_there, past_byte_not)

pub returns-else-not-skip_byte-clause-rest : goal.returns-else-not-skip_byte-clause-rest
unfolding past_number
returns-else-not-skip_byte-clause-rest c = grind (arith, past_byte_there, past_byte_not)
