use Rattle.std.proofs.Common.{◌≡◌, ◌++◌, length}
use Rattle.simplecss_grammar.specs.Statements.{parts}
use Rattle.simplecss_grammar.specs.Skipped.{add_each, parts_skips}
use Rattle.css_text.specs.ThisEdition.{this_edition}
use Rattle.css_text.specs.Cursor.{text_of, rest_of}
use Rattle.simplecss.proofs.sheet.statements.consume_parts.Given as goal

-- The selectors so far and those of the parts from here on are those of all parts.
abbrev pub invariant-parts : goal.invariant-parts
invariant-parts g l = record {
  same : text_of l.s ≡ text_of l.initial.s;
  read : l.selectors.items ++ (parts this_edition (rest_of l.s)).0
      ≡ (parts this_edition (rest_of l.initial.s)).0;
  reported :
      add_each g.P.Report.add (g.P.Report.state l.report) (parts_skips this_edition (rest_of l.s))
      ≡ add_each g.P.Report.add (g.P.Report.state l.initial.report)
      (parts_skips this_edition (rest_of l.initial.s));
  rest : (parts this_edition (rest_of l.s)).1 ≡ (parts this_edition (rest_of l.initial.s)).1;
}

abbrev pub decreases-parts : goal.decreases-parts
decreases-parts g l = length (rest_of l.s)
