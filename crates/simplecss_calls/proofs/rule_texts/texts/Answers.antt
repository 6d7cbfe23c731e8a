use Rattle.std.proofs.Common.{◌≡◌, ◌≤◌, ◌<◌, ◌+◌, ◌++◌, ℕ, List, [], drop, length, map, string_bytes, ap, ◌∙◌}
use Rattle.css_sheet.specs.SheetOrder.{SheetRuleText}
use Rattle.css_sheet.specs.SheetRuleViews.{sheet_rule_of}
use Rattle.simplecss_calls.specs.RuleTexts.{rule_texts}
use Rattle.call_answers.proofs.LineTexts.{line_more}
use Rattle.call_answers.proofs.PageLines.{front_longer, memory_due}
use Rattle.simplecss_calls.proofs.WinnerSteps.{lines-split}
use Rattle.simplecss_calls.proofs.rule_texts.texts.Goals as goal

abbrev text_of : SheetRuleText → List ℕ
text_of rule = rule.text

pub returns-in_err-push_str : goal.returns-in_err-push_str
returns-in_err-push_str c =
    let most = c.args.most in
    let whole = rule_texts (map sheet_rule_of c.args.rules.now) in
    memory_due (λ texts. (string_bytes texts ≡ whole) × (length (string_bytes texts) ≤ most))
    (most < length whole) c.from_residual.result c.from_residual.ensures.1

-- the texts up to this rule are too long
pub returns-in_err-check_length : goal.returns-in_err-check_length
returns-in_err-check_length c =
    let most = c.args.most in
    let all = c.args.rules.now in
    let whole = rule_texts (map sheet_rule_of all) in
    let next = c.loop-rule.rule-index + 1 in
    let before = string_bytes c.loop-rule.out in
    let front = string_bytes c.push_str.new.self in
    let rest = rule_texts (map sheet_rule_of (drop next all)) in
    let so_far = line_more text_of sheet_rule_of all c.loop-rule.rule-index c.rule-item.result []
    before front c.loop-rule-test.true c.loop-rule.invariant.0
    (c.in_ok-push_str.ensures.bytes ∙ ap (λ rule. before ++ (sheet_rule_of rule).text) c.rule-item.is) in
    let same : front ++ rest ≡ whole =
    ap (λ t. t ++ rest) so_far ∙ lines-split text_of sheet_rule_of all next in
    front_longer (λ texts. (string_bytes texts ≡ whole) × (length (string_bytes texts) ≤ most)) most
    front rest whole same c.from_residual-in_err-check_length.result
    c.in_err-check_length.field-0.0 c.from_residual-in_err-check_length.ensures.1
    c.in_err-check_length.ensures

-- the text of one more rule
pub loop-rule-preserved : goal.loop-rule-preserved
loop-rule-preserved c =
    let before = string_bytes c.loop-rule.out in (
      line_more text_of sheet_rule_of c.args.rules.now c.loop-rule.rule-index c.rule-item.result []
          before (string_bytes c.push_str.new.self) c.loop-rule-test.true c.loop-rule.invariant.0
          (c.in_ok-push_str.ensures.bytes
          ∙ ap (λ rule. before ++ (sheet_rule_of rule).text) c.rule-item.is),
      c.in_ok-check_length.ensures,
    )
