use Rattle.std.proofs.Common.{rules}
use Rattle.simplecss_grammar.specs.Declarations.{trailing}
use Rattle.simplecss_declaration.proofs.reader.take_trailing.Goals as goal

pub returns-then-not-skip_blank-clause-reads : goal.returns-then-not-skip_blank-clause-reads
unfolding trailing
returns-then-not-skip_blank-clause-reads c = search rules

pub returns-in_err-important-clause-reads : goal.returns-in_err-important-clause-reads
unfolding trailing
returns-in_err-important-clause-reads c = search rules

pub returns-then-not-skip_blank-2-clause-reads : goal.returns-then-not-skip_blank-2-clause-reads
unfolding trailing
returns-then-not-skip_blank-2-clause-reads c = search rules

pub returns-then-not-skip_blank-3-clause-reads : goal.returns-then-not-skip_blank-3-clause-reads
unfolding trailing
returns-then-not-skip_blank-3-clause-reads c = search rules

pub returns-clause-reads : goal.returns-clause-reads
unfolding trailing
returns-clause-reads c = search rules
