use Rattle.std.proofs.Common.{sym}
use Rattle.css_text.specs.Comments.{past_blank}
use Rattle.css_text.specs.Reading.{no_comment}
use Rattle.css_text.specs.ThisEdition.{this_edition}
use Rattle.css_text.specs.Cursor.{rest_of}
use Rattle.simplecss.proofs.StatementLemmas.{next_statement-open, next_statement-after, blank-got}
use Rattle.simplecss.proofs.sheet.reading.at_statement.Goals as goal

pub returns-then-skip_blank-clause-reads : goal.returns-then-skip_blank-clause-reads
returns-then-skip_blank-clause-reads c =
    next_statement-after this_edition (rest_of c.args.s.now)
    (rest_of c.skip_blank.new.s) c.at_end.result c.if-skip_blank.ensures.reads c.at_end.ensures

pub returns-else-skip_blank-clause-reads : goal.returns-else-skip_blank-clause-reads
returns-else-skip_blank-clause-reads c =
    rw c.if-skip_blank.false
    (next_statement-open this_edition (rest_of c.args.s.now) (rest_of c.skip_blank.new.s)
    (no_comment (past_blank (rest_of c.args.s.now))) c.if-skip_blank.ensures.reads)

pub returns-then-skip_blank-clause-rest : goal.returns-then-skip_blank-clause-rest
returns-then-skip_blank-clause-rest c = λ occurs. sym
    (blank-got (rest_of c.args.s.now) (rest_of c.skip_blank.new.s) c.if-skip_blank.ensures.reads).1
