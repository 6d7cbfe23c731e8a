use Rattle.std.proofs.Common.{map, rules, sym, ◌∙◌, inr}
use Rattle.call_answers.specs.Calls.{HasTexts}
use Rattle.css_clean.specs.Views.{sheet_policy_of}
use Rattle.clean_calls.specs.Passed.{passed_of}
use Rattle.clean_calls.proofs.policies.policy_of.Goals as goal

pub returns-then-branch : goal.returns-then-branch
returns-then-branch c =
    let p = passed_of c.args.passed.now in
    let all = map (λ t. t.now) c.args.texts.now in
    let has : HasTexts p.texts p.ends all = search rules in (all, has, c.in_ok-policy.ensures)

pub returns : goal.returns
returns c =
    let p = passed_of c.args.passed.now in
    let all = map (λ t. t.now) c.args.texts.now in
    let has : HasTexts p.texts p.ends all = search rules in
    inr (
      all,
      has,
      inr (
        sheet_policy_of c.in_ok-policy.policy,
        c.in_ok-policy.ensures,
        sym c.in_ok-has_scope.ensures ∙ c.if-branch.false,
      ),
    )
