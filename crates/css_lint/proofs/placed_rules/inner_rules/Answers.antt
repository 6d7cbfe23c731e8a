use Rattle.std.proofs.Common.{map, rules, true, ◌∙◌}
use Rattle.css_text.proofs.reading.EachLemmas.{took}
use Rattle.css_syntax.specs.Statements.{next_statement}
use Rattle.css_syntax.specs.Views.{sheet_part_of}
use Rattle.css_syntax.proofs.ItemLemmas.{next_statement-takes}
use Rattle.css_lint.specs.PlacedRules.{inner_rules}
use Rattle.css_lint.specs.PlacedViews.{rule_at}
use Rattle.css_lint.proofs.PlacedLemmas.{inner-more, statements-done}
use Rattle.css_lint.proofs.placed_rules.inner_rules.Goals as goal

pub statements-smaller : goal.statements-smaller
statements-smaller c =
    took (next_statement true) (next_statement-takes true) c.statements.rest.now
    c.in-Some.found.rest.now (sheet_part_of c.in-Some.found.part) c.in-Some.ensures.read

pub statements-preserved : goal.statements-preserved
statements-preserved c = (
  search rules,
  inner-more c.args.end c.saturating_sub-start.result c.saturating_sub-inside.result
      c.statements.rest.now c.in-Some.found.rest.now c.in-Some.found.from.now
      c.in-Some.found.inside.now (map rule_at c.statements.rules.items)
      (map rule_at c.push_inner.new.rules.items) (sheet_part_of c.in-Some.found.part)
      c.in-Some.ensures.read c.in-Some.ensures.from c.in-Some.ensures.inside
      c.saturating_sub-start.ensures c.saturating_sub-inside.ensures c.in_ok-push_inner.ensures
      ∙ c.statements.invariant.1,
)

pub returns : goal.returns
returns c =
    statements-done c.args.end c.statements.rest.now (map rule_at c.statements.rules.items)
    (inner_rules c.args.end c.args.text.now)
    (rw c.in_default.is at c.read_next.ensures.read) c.statements.invariant.1
