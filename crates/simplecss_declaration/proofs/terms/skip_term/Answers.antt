use Rattle.std.proofs.Common.{rules}
use Rattle.simplecss_grammar.specs.Terms.{term}
use Rattle.simplecss_declaration.proofs.terms.skip_term.Goals as goal

pub returns-in-None-clause-reads : goal.returns-in-None-clause-reads
unfolding term
returns-in-None-clause-reads c = search rules

pub returns-in-Some-eq35-clause-reads : goal.returns-in-Some-eq35-clause-reads
unfolding term
returns-in-Some-eq35-clause-reads c = search rules

pub returns-in-Some-eq43-clause-reads : goal.returns-in-Some-eq43-clause-reads
unfolding term
returns-in-Some-eq43-clause-reads c = search rules

pub returns-in-Some-eq39-clause-reads : goal.returns-in-Some-eq39-clause-reads
unfolding term
returns-in-Some-eq39-clause-reads c = search rules

pub returns-in-Some-eq44-clause-reads : goal.returns-in-Some-eq44-clause-reads
unfolding term
returns-in-Some-eq44-clause-reads c = search rules

pub returns-in-Some-eq47-clause-reads : goal.returns-in-Some-eq47-clause-reads
unfolding term
returns-in-Some-eq47-clause-reads c = search rules

pub returns-in-Some-clause-reads : goal.returns-in-Some-clause-reads
unfolding term
returns-in-Some-clause-reads c = search rules
