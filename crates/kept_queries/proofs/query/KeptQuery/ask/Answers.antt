use Rattle.std.proofs.Common.{◌∙◌, sym}
use Rattle.kept_queries.proofs.Visits.{asked}
use Rattle.kept_queries.proofs.query.KeptQuery.ask.Goals as goal

pub returns-clause-answer : goal.returns-clause-answer
returns-clause-answer g c =
    asked (g.Q.Question.is_answer c.args.question) c.args.self.now c.self.inside.kept
    c.in-Some.kept c.visit-kept.result.1 c.in-Some-answer.answer (sym c.replace.ensures.value ∙ c.in-Some.is)
    c.self.view_is c.self.invariant c.visit-kept.ensures.0.1 c.in-Some-answer.is
