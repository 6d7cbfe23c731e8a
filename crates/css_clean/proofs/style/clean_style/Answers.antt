use Rattle.std.proofs.Common.{◌∙◌, false, sym}
use Rattle.css_clean.specs.Views.{policy_of}
use Rattle.css_clean.proofs.CleanLemmas.{if_ok, long-is, short-is, cleaned-nil, reads-nil, reads-kept, safe-kept}
use Rattle.css_clean.proofs.style.clean_style.Goals as goal

pub returns-then-text-policy-clause-text : goal.returns-then-text-policy-clause-text
returns-then-text-policy-clause-text c =
    if_ok c.dropped_whole.result _ _ c.dropped_whole.ensures.text
    (λ out e. e ∙ sym (cleaned-nil (policy_of c.args.policy) c.args.text.now
    (long-is (policy_of c.args.policy) c.args.text.now c.if-text-policy.true)))

pub returns-then-text-policy-clause-read : goal.returns-then-text-policy-clause-read
returns-then-text-policy-clause-read c =
    if_ok c.dropped_whole.result _ _ c.dropped_whole.ensures.text
    (λ out e. reads-nil (policy_of c.args.policy) c.args.text.now _ e
    (long-is (policy_of c.args.policy) c.args.text.now c.if-text-policy.true))

pub returns-clause-read : goal.returns-clause-read
returns-clause-read c =
    if_ok c.clean_any.result _ _ c.clean_any.ensures.text
    (λ out e. reads-kept (policy_of c.args.policy) c.args.text.now _
    (c.printed_declarations_read_back.ensures.each_item false)
    c.printed_declarations_read_back.ensures.lists e
    (short-is (policy_of c.args.policy) c.args.text.now c.if-text-policy.false))

pub returns-clause-bytes : goal.returns-clause-bytes
returns-clause-bytes c =
    if_ok c.clean_any.result _ _ c.clean_any.ensures.text
    (λ out e. safe-kept (policy_of c.args.policy) c.args.text.now _ e)
