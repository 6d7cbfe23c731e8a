use Rattle.std.proofs.Common.{map}
use Rattle.std.specs.Vec.Iter.{into_iter_items}
use Rattle.css_sheet.specs.RuleViews.{rule_selector_of}
use Rattle.css_sheet.specs.SheetOrder.{rules_with}
use Rattle.css_sheet.specs.SheetRuleViews.{gathered_rules, run_of}
use Rattle.css_sheet.proofs.SheetRuleLemmas.{Gathering}
use Rattle.css_sheet.proofs.gathering.Gathered.push_rules.Given as goal

abbrev pub invariant-selectors : goal.invariant-selectors
invariant-selectors l =
    Gathering (gathered_rules l.fn.self) (gathered_rules l.self) l.fn.self.left l.self.left
    (rules_with (run_of l.run) (map rule_selector_of (into_iter_items l.one-iterator)))
    (rules_with (run_of l.run) (map rule_selector_of l.fn.selectors.items))
