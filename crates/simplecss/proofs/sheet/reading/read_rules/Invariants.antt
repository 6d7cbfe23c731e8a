use Rattle.std.proofs.Common.{◌≡◌, ◌+◌, ◌++◌, map, length}
use Rattle.simplecss_grammar.specs.Skipped.{add_each, skipped}
use Rattle.css_text.specs.ThisEdition.{this_edition}
use Rattle.css_text.specs.Cursor.{rest_of}
use Rattle.simplecss.specs.RuleViews.{rule_of}
use Rattle.simplecss.specs.DeclarationCounts.{declaration_count}
use Rattle.simplecss.proofs.StatementLemmas.{rules_from}
use Rattle.simplecss.proofs.sheet.reading.read_rules.Given as goal

-- The rules so far and those of the statements from here on are those of the text, and so is what
-- is skipped. What is left of the limit and the declarations so far are the limit.
abbrev pub invariant-statements : goal.invariant-statements
invariant-statements g l = record {
  rules : map rule_of l.reader.rules.items ++ rules_from this_edition (rest_of l.s)
      ≡ rules_from this_edition l.text;
  left : l.left + declaration_count (map rule_of l.reader.rules.items) ≡ l.initial.most;
  reported :
      add_each g.P.Report.add (g.P.Report.state l.report) (skipped this_edition (rest_of l.s))
      ≡ add_each g.P.Report.add (g.P.Report.state l.initial.report) (skipped this_edition l.text);
}

abbrev pub decreases-statements : goal.decreases-statements
decreases-statements g l = length (rest_of l.s)
