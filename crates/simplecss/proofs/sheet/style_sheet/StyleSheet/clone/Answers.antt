use Rattle.std.proofs.Common.{◌≡◌, ◌<◌, ◌++◌, ◌∷◌, [], length, arith, ap, ◌∙◌, rules}
use Rattle.simplecss.specs.RuleViews.{rule_of, rules_of}
use Rattle.simplecss.proofs.ListLemmas.{copied_more}
use Rattle.simplecss.proofs.sheet.style_sheet.StyleSheet.clone.Goals as goal

pub loop-rule-preserved : goal.loop-rule-preserved
loop-rule-preserved c =
    let within : c.loop-rule.rule-index < length c.deref-rule-items.result.now = omega arith in
    let pushed : c.push.new.self.items ≡ c.loop-rule.rules.items ++ c.in_ok-clone.field-0 ∷ [] =
    search rules in
    ap rules_of pushed ∙ copied_more rule_of _ _ _ _ _ within c.rule-item.is c.loop-rule.invariant
    c.in_ok-clone.ensures
