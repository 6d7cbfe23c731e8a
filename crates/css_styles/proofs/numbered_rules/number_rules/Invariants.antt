use Rattle.std.proofs.Common.{◌≡◌, ◌++◌, map}
use Rattle.std.specs.Vec.Iter.{into_iter_items}
use Rattle.css_sheet.specs.SheetRuleViews.{sheet_rule_of}
use Rattle.css_styles.specs.NumberedRules.{numbered_rules}
use Rattle.css_styles.proofs.numbered_rules.number_rules.Given as goal

-- those so far, and what is made of those that are left
abbrev pub invariant-rules : goal.invariant-rules
invariant-rules l =
    let left = numbered_rules l.numbering (map sheet_rule_of (into_iter_items l.rule-iterator)) in
    (map sheet_rule_of l.numbered.items ++ left.0, left.1)
    ≡ numbered_rules l.fn.numbering (map sheet_rule_of l.fn.rules.items)
