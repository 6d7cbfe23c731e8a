use Rattle.std.proofs.Common.{◌≡◌, ◌++◌, length, map}
use Rattle.css_sheet.specs.GroupViews.{group_rule_of}
use Rattle.simplecss_calls.specs.WinnerNumbers.{group_rule_at}
use Rattle.simplecss_calls.proofs.around.group_rules.Given as goal

-- the group rules so far, and those of the numbers that are left
abbrev pub invariant-numbers : goal.invariant-numbers
invariant-numbers l =
    map group_rule_of l.rules.items
    ++ map (group_rule_at (map (λ text. text.now) l.groups)) l.left
    ≡ map (group_rule_at (map (λ text. text.now) l.groups)) l.numbers

abbrev pub decreases-numbers : goal.decreases-numbers
decreases-numbers l = length l.left
