use Rattle.std.proofs.Common.{rules}
use Rattle.simplecss_grammar.specs.Terms.{word}
use Rattle.simplecss_declaration.proofs.terms.skip_word.Goals as goal

pub returns-then-is_none-clause-reads : goal.returns-then-is_none-clause-reads
unfolding word
returns-then-is_none-clause-reads c = search rules

pub returns-then-eq-clause-reads : goal.returns-then-eq-clause-reads
unfolding word
returns-then-eq-clause-reads c = search rules

pub returns-clause-reads : goal.returns-clause-reads
unfolding word
returns-clause-reads c = search rules
