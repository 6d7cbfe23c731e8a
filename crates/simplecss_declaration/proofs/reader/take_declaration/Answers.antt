use Rattle.std.proofs.Common.{rules}
use Rattle.simplecss_grammar.specs.Declarations.{declaration}
use Rattle.css_text.specs.Cursor.{rest_of}
use Rattle.simplecss_declaration.proofs.ValueLemmas.{declaration-slices}
use Rattle.simplecss_declaration.proofs.reader.take_declaration.Goals as goal

pub returns-clause-occurs : goal.returns-clause-occurs
returns-clause-occurs c =
    declaration-slices (rest_of c.args.s.now) (rest_of c.take_stated_name.new.s)
    (rest_of c.read_value-value.new.s) (rest_of c.take_trailing.new.s) c.in_ok-name.name.now
    c.read_value-value.result.now c.in_ok-important.important c.in_ok-name.ensures.slices
    c.read_value-value.ensures.occurs c.in_ok-important.ensures.reads

pub returns-clause-reads : goal.returns-clause-reads
unfolding declaration
returns-clause-reads c = search rules

pub returns-then-is_empty-clause-reads : goal.returns-then-is_empty-clause-reads
unfolding declaration
returns-then-is_empty-clause-reads c = search rules

pub returns-in_err-name-clause-reads : goal.returns-in_err-name-clause-reads
unfolding declaration
returns-in_err-name-clause-reads c = search rules

pub returns-in_err-important-clause-reads : goal.returns-in_err-important-clause-reads
unfolding declaration
returns-in_err-important-clause-reads c = search rules
