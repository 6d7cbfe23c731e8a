use Rattle.std.proofs.Common.{◌-◌, length, map, drop, arith, sym, ap, ◌∙◌}
use Rattle.std.proofs.lemmas.List.{drop-map, length-drop, take_all}
use Rattle.css_sheet.specs.GroupViews.{group_rule_of}
use Rattle.simplecss_calls.proofs.around.later_rules.Goals as goal

-- what is left is all that is left
pub returns-then-count-rules : goal.returns-then-count-rules
returns-then-count-rules c =
    let rules = c.args.rules.now in
    let count = c.args.count in
    ap (map group_rule_of)
    (take_all (length rules - count) (drop count rules) (omega (arith, length-drop count rules)))
    ∙ sym (drop-map group_rule_of count rules)
