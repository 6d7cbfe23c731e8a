use Rattle.std.proofs.Common.{◌≡◌, ◌++◌, map, take, drop}
use Rattle.css_cascade.specs.LayerViews.{known_of}
use Rattle.css_sheet.specs.SheetOrder.{ranked}
use Rattle.css_sheet.specs.SheetRuleViews.{sheet_of, sheet_rule_of}
use Rattle.css_sheet.proofs.sheet_order.rank.Given as goal

-- those that have their ranks, and the others as they were
abbrev pub invariant-rules : goal.invariant-rules
invariant-rules l = record {
  done : map sheet_rule_of (take l.rule-index l.rule-items)
      ≡ map (ranked (known_of l.layers) (map sheet_of l.sheets))
      (map sheet_rule_of (take l.rule-index l.initial.rule-items));
  others : drop l.rule-index l.rule-items ≡ drop l.rule-index l.initial.rule-items;
}
