use Rattle.std.proofs.Common.{◌∙◌, ap, sym, Some}
use Rattle.kept_queries.proofs.Visits.{asked_if_open}
use Rattle.kept_queries.proofs.handle.QueryHandle.ask.Goals as goal

pub returns-clause-answer : goal.returns-clause-answer
returns-clause-answer g c =
    asked_if_open (g.Q.Question.is_answer c.args.question) c.args.self.now.value c.deref_mut.result.now
    c.ask-answer.result
    (ap (λ h. h.value) (sym c.replace.ensures.value) ∙ sym c.in_ok-whole.ensures
    ∙ ap Some (sym c.deref_mut.ensures.value))
    c.ask-answer.ensures.answer
