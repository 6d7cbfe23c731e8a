use Rattle.std.proofs.Common.{◌≡◌, length}
use Rattle.simplecss_grammar.specs.Skipped.{add_each, skipped}
use Rattle.css_text.specs.ThisEdition.{this_edition}
use Rattle.css_text.specs.Cursor.{rest_of}
use Rattle.simplecss.proofs.sheet.reading.consume_statements.Given as goal

-- what was reported and what is skipped from here on are what the text skips
abbrev pub invariant-statements : goal.invariant-statements
invariant-statements g l =
    add_each g.P.Report.add (g.P.Report.state l.report) (skipped this_edition (rest_of l.s))
    ≡ add_each g.P.Report.add (g.P.Report.state l.initial.report) (skipped this_edition l.text)

abbrev pub decreases-statements : goal.decreases-statements
decreases-statements g l = length (rest_of l.s)
