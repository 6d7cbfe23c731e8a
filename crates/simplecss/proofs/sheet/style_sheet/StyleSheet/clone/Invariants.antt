use Rattle.std.proofs.Common.{◌≡◌, take}
use Rattle.simplecss.specs.RuleViews.{rules_of}
use Rattle.simplecss.proofs.sheet.style_sheet.StyleSheet.clone.Given as goal

-- the rules so far are copies of the first ones
abbrev pub invariant-loop-rule : goal.invariant-loop-rule
invariant-loop-rule l = rules_of l.rules.items ≡ rules_of (take l.rule-index l.rule-items)
