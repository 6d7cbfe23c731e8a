use Rattle.std.proofs.Common.{[], ◌++◌, string_bytes, ap, ◌∙◌}
use Rattle.simplecss.specs.RuleViews.{rule_of}
use Rattle.call_answers.specs.PortTexts.{rule_text}
use Rattle.call_answers.proofs.LineTexts.{line_more}
use Rattle.call_answers.proofs.port_texts.rule_texts.Goals as goal

-- the text of one more rule
pub loop-rule-preserved : goal.loop-rule-preserved
loop-rule-preserved c =
    line_more rule_text rule_of c.args.rules.now c.loop-rule.rule-index c.rule-item.result []
    (string_bytes c.loop-rule.out)
    (string_bytes c.push_rule.new.out) c.loop-rule-test.true c.loop-rule.invariant
    (c.in_ok-push_rule.ensures
    ∙ ap (λ rule. string_bytes c.loop-rule.out ++ rule_text (rule_of rule)) c.rule-item.is)
