use Rattle.std.proofs.Common.{◌≡◌, IfOk, string_bytes, subst, ◌∙◌}
use Rattle.call_answers.specs.Refusals.{position_text}
use Rattle.port_calls.proofs.lists.refusal_text.Goals as goal

pub returns : goal.returns
returns c =
    subst (λ reason. IfOk c.position_text.result
    (λ text. string_bytes text ≡ position_text c.args.refusal.pos reason))
    (c.as_str.ensures.value ∙ c.in_ok-reason.ensures.ok) c.position_text.ensures
