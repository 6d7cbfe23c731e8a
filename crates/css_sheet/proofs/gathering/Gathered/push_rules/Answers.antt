use Rattle.std.proofs.Common.{◌≡◌, ◌∙◌, ap, subst, rules, map, List, ◌∷◌, ◌++◌}
use Rattle.std.specs.Prelude.{option_to_list}
use Rattle.std.specs.Vec.Iter.{into_iter_items}
use Rattle.css_sheet.specs.declared.selectors.RuleSelector.{RuleSelector}
use Rattle.css_sheet.specs.RuleViews.{rule_selector_of}
use Rattle.css_sheet.specs.SheetOrder.{SheetRuleText, rule_with, rules_with}
use Rattle.css_sheet.specs.SheetRuleViews.{gathered_rules, run_of}
use Rattle.css_sheet.proofs.SheetRuleLemmas.{Gathering, gathering-more, cons-option}
use Rattle.css_sheet.proofs.gathering.Gathered.push_rules.Goals as goal

pub selectors-preserved : goal.selectors-preserved
selectors-preserved c =
    let old = c.args.self.now in
    let before = c.selectors.self in
    let run = run_of c.args.run in
    let one = rule_with run (rule_selector_of c.in-Some.one) in
    let left = into_iter_items c.next.new.self in
    let come = rules_with run (map rule_selector_of left) in
    let all = rules_with run (map rule_selector_of c.args.selectors.items) in
    let first : into_iter_items c.selectors.one-iterator ≡ c.in-Some.one ∷ left = search rules in
    let next : rules_with run (map rule_selector_of (into_iter_items c.selectors.one-iterator))
    ≡ option_to_list one ++ come =
    ap (λ (l : List RuleSelector). rules_with run (map rule_selector_of l)) first
    ∙ cons-option one come in
    gathering-more (gathered_rules old) (gathered_rules before) old.left before.left
    (option_to_list one) come all (gathered_rules c.push_rule.new.self) c.push_rule.new.self.left
    c.in_ok-push_rule.ensures.gathers.0 c.in_ok-push_rule.ensures.gathers.1
    (subst (λ (l : List SheetRuleText).
    Gathering (gathered_rules old) (gathered_rules before) old.left before.left l all) next
    c.selectors.invariant)
