use Rattle.std.proofs.Common.{◌≡◌, length, map, take}
use Rattle.css_sheet.specs.SheetRuleViews.{sheet_rule_of}
use Rattle.css_styles.specs.internal.Numbered.{AllStated}
use Rattle.css_styles.proofs.style_rules.read_all.Given as goal

-- those of the rules so far
abbrev pub invariant-loop-rule : goal.invariant-loop-rule
invariant-loop-rule l =
    AllStated l.properties (map sheet_rule_of (take l.rule-index l.rules)) l.lists.items
    × (length l.lists.items ≡ l.rule-index)
