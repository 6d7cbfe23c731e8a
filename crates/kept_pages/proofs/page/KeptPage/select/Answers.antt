use Rattle.std.proofs.Common.{◌∙◌, sym}
use Rattle.kept_pages.specs.Pages.{question_of}
use Rattle.kept_pages.proofs.Visits.{page-asked}
use Rattle.kept_pages.proofs.page.KeptPage.select.Goals as goal

pub returns-clause-answer : goal.returns-clause-answer
returns-clause-answer c =
    page-asked (question_of c.args.asked) c.self.inside.kind c.args.self.now c.self.inside.kept
    c.in-Some.kept c.visit-kept.result.1 c.in-Some-answer.answer (sym c.replace.ensures.value ∙ c.in-Some.is)
    c.self.view_is c.self.invariant c.visit-kept.ensures.0.1 c.in-Some-answer.is
