use Rattle.std.proofs.Common.{arith}
use Rattle.simplecss_grammar.specs.Declarations.{importance}
use Rattle.css_text.proofs.bytes.ByteLemmas.{past_byte_there, past_byte_not}
use Rattle.simplecss_declaration.proofs.reader.take_importance.Goals as goal

pub returns-then-not-skip_byte-clause-reads : goal.returns-then-not-skip_byte-clause-reads
unfolding importance
returns-then-not-skip_byte-clause-reads c = grind (arith, past_byte_there, past_byte_not)

pub returns-then-not-skip_blank-clause-reads : goal.returns-then-not-skip_blank-clause-reads
unfolding importance
returns-then-not-skip_blank-clause-reads c = grind (arith, past_byte_there, past_byte_not)

pub returns-clause-reads : goal.returns-clause-reads
unfolding importance
returns-clause-reads c = grind (arith, past_byte_there, past_byte_not)
