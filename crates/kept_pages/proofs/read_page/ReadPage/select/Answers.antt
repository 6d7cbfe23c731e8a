use Rattle.std.proofs.Common.{ap, sym, subst, ◌∙◌}
use Rattle.call_answers.specs.Outcomes.{numbers_outcome}
use Rattle.kept_pages.specs.Pages.{IsSelectedOn, PageText, question_of}
use Rattle.kept_pages.specs.ReadPages.{page_text}
use Rattle.kept_pages.proofs.read_page.ReadPage.select.Goals as goal

pub returns-clause-answer : goal.returns-clause-answer
returns-clause-answer c =
    subst (λ (page : PageText). IsSelectedOn (question_of c.args.asked) page
    (numbers_outcome c.select_on-numbers.result.1))
    (ap (page_text c.self.inside.kind c.self.inside.read) (sym c.in-Some.is ∙ c.replace.ensures.value)
    ∙ c.self.view_is) c.select_on-numbers.ensures.answer
