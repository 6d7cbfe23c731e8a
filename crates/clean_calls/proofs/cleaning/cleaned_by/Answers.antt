use Rattle.std.proofs.Common.{rules, map, subst, string_bytes}
use Rattle.css_clean.specs.Views.{sheet_policy_of, dropped_of}
use Rattle.clean_calls.specs.Passed.{passed_of}
use Rattle.clean_calls.specs.CleanCalls.{IsKept, AreDropped}
use Rattle.clean_calls.proofs.Kept.{texts-same, fails-policy}
use Rattle.clean_calls.proofs.cleaning.cleaned_by.Goals as goal

pub policy_of-requires : goal.policy_of-requires
policy_of-requires c = record {
  passed = texts-same (passed_of c.args.passed.now) _ _ c.as_slice.ensures.value c.in_ok-text.ensures.2;
}

pub returns-in_err-policy : goal.returns-in_err-policy
returns-in_err-policy c =
    let fails = fails-policy c.args.form c.args.text.now (passed_of c.args.passed.now) c.in_err-policy.field-0.0
    c.in_err-policy.ensures in
    search rules

pub returns : goal.returns
returns c =
    let policy = sheet_policy_of c.in_ok-policy.policy in
    let out = c.in_ok-cleaned.field-0 in (
      policy,
      c.in_ok-text.ensures.1,
      c.in_ok-policy.ensures,
      subst (λ t. IsKept c.args.form policy t (string_bytes out.text)) c.in_ok-text.ensures.0 c.in_ok-cleaned.ensures.0,
      subst (λ t. AreDropped c.args.form policy t (map dropped_of out.dropped.items)) c.in_ok-text.ensures.0
          c.in_ok-cleaned.ensures.1,
    )
