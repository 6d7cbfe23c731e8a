use Rattle.std.proofs.Common.{rules, ◌≡◌, ◌∙◌, ap}
use Rattle.css_clean.specs.Views.{sheet_policy_of}
use Rattle.clean_calls.specs.Passed.{passed_of}
use Rattle.clean_calls.specs.CleanCalls.{is_clean_text, says}
use Rattle.clean_calls.proofs.Kept.{texts-same, fails-policy}
use Rattle.clean_calls.proofs.cleaning.told.Goals as goal

pub returns : goal.returns
returns c =
    let policy = sheet_policy_of c.in_ok-policy.policy in
    let same : c.in_ok-holds.holds ≡ is_clean_text c.args.form policy c.args.text.now =
    c.in_ok-holds.ensures ∙ ap (is_clean_text c.args.form policy) c.in_ok-text.ensures.0 in (
      policy,
      c.in_ok-text.ensures.1,
      c.in_ok-policy.ensures,
      c.in_ok-word.ensures ∙ ap says same,
    )

pub returns-in_err-policy : goal.returns-in_err-policy
returns-in_err-policy c =
    let fails = fails-policy c.args.form c.args.text.now (passed_of c.args.passed.now) c.in_err-policy.field-0.0
    c.in_err-policy.ensures in
    search rules

pub policy_of-requires : goal.policy_of-requires
policy_of-requires c = record {
  passed = texts-same (passed_of c.args.passed.now) _ _ c.as_slice.ensures.value c.in_ok-text.ensures.2;
}
