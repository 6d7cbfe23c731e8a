use Rattle.std.proofs.Common.{◌≡◌, ◌++◌, length, map}
use Rattle.std.specs.List.{flat_map}
use Rattle.css_sheet.specs.SheetRuleViews.{sheet_rule_of}
use Rattle.simplecss_calls.specs.WinnerNumbers.{rule_numbers}
use Rattle.simplecss_calls.proofs.winners.rules_numbers.Given as goal

-- the numbers of the rules so far, and of those that are left
abbrev pub invariant-rules : goal.invariant-rules
invariant-rules l =
    l.out.items ++ flat_map rule_numbers (map sheet_rule_of l.left)
    ≡ flat_map rule_numbers (map sheet_rule_of l.rules)

abbrev pub decreases-rules : goal.decreases-rules
decreases-rules l = length l.left
