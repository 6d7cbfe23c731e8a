use Rattle.std.proofs.Common.{sym, ap, subst, string_bytes, ◌∙◌}
use Rattle.page_calls.specs.ModernLines.{IsRefusal}
use Rattle.call_answers.specs.Refusals.{position_text}
use Rattle.page_calls.proofs.ModernLists.{not-memory}
use Rattle.page_calls.proofs.modern.lists.refusal.Goals as goal

pub returns : goal.returns
returns c =
    let refusal = c.in-Err.refusal in
    let pos = c.position_in-pos.result in
    subst (λ reading. IsRefusal c.args.text.now reading
    (string_bytes c.in_ok-position_text.field-0))
    (c.in-Err.ensures (not-memory refusal.why (sym c.is_memory.ensures ∙ c.if-is_memory.false))) (
      pos,
      c.position_in-pos.ensures,
      c.in_ok-position_text.ensures
          ∙ ap (position_text pos) (c.as_str.ensures.value ∙ c.in_ok-reason.ensures),
    )
