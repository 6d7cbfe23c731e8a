use Rattle.std.proofs.Common.{◌≡◌, ◌++◌, length, map}
use Rattle.std.specs.List.{flat_map}
use Rattle.css_sheet.specs.SheetRuleViews.{sheet_rule_of}
use Rattle.css_styles.specs.Contenders.{stated_at}
use Rattle.css_explain.specs.internal.Parts.{contender_of}
use Rattle.css_explain.proofs.gathering.push_rules.Given as goal

-- those of the rules so far, and of those that are left
abbrev pub invariant-indices : goal.invariant-indices
invariant-indices l =
    map contender_of l.found.items ++ flat_map (stated_at (map sheet_rule_of l.rules)) l.left
    ≡ map contender_of l.fn.found.items ++ flat_map (stated_at (map sheet_rule_of l.rules)) l.indices

abbrev pub decreases-indices : goal.decreases-indices
decreases-indices l = length l.left
