use Rattle.std.proofs.Common.{rules}
use Rattle.simplecss_grammar.specs.Declarations.{stated_name}
use Rattle.css_text.specs.ThisEdition.{this_edition}
use Rattle.css_text.specs.Cursor.{rest_of}
use Rattle.simplecss_declaration.proofs.ValueLemmas.{stated_name-slices}
use Rattle.simplecss_declaration.proofs.reader.take_stated_name.Goals as goal

pub returns-clause-slices : goal.returns-clause-slices
returns-clause-slices c =
    stated_name-slices (rest_of c.args.s.now) (rest_of c.skip_blank.new.s)
    (rest_of c.try_consume_byte.new.self) c.in_ok-name.name.now (rest_of c.take_name.new.s)
    (rest_of c.skip_blank-2.new.s) (rest_of c.skip_colon.new.s)
    (rest_of c.skip_blank-else-not-skip_colon.new.s) this_edition
    c.if-not-skip_blank.ensures.reads c.try_consume_byte.ensures.rest c.in_ok-name.ensures.reads
    c.if-not-skip_blank-2.ensures.reads c.if-not-skip_colon.ensures.reads
    c.if-not-skip_blank-3.ensures.reads

pub returns-clause-reads : goal.returns-clause-reads
unfolding stated_name
returns-clause-reads c = search rules

pub returns-in_err-name-clause-reads : goal.returns-in_err-name-clause-reads
unfolding stated_name
returns-in_err-name-clause-reads c = search rules

pub returns-then-not-skip_blank-clause-reads : goal.returns-then-not-skip_blank-clause-reads
unfolding stated_name
returns-then-not-skip_blank-clause-reads c = search rules

pub returns-then-not-skip_blank-2-clause-reads : goal.returns-then-not-skip_blank-2-clause-reads
unfolding stated_name
returns-then-not-skip_blank-2-clause-reads c = search rules
