use Rattle.std.proofs.Common.{◌∙◌, ap, sym, Some}
use Rattle.kept_pages.specs.Pages.{question_of}
use Rattle.kept_pages.proofs.Visits.{asked-if-open}
use Rattle.kept_pages.proofs.handle.PageHandle.select.Goals as goal

pub returns-clause-answer : goal.returns-clause-answer
returns-clause-answer c =
    asked-if-open (question_of c.args.asked) c.args.self.now.value c.deref_mut.result.now
    c.select-answer.result
    (ap (λ h. h.value) (sym c.replace.ensures.value) ∙ sym c.in_ok-whole.ensures
    ∙ ap Some (sym c.deref_mut.ensures.value))
    c.select-answer.ensures.answer
