use Rattle.css_laws.proofs.AnswerLemmas.{alike-once, in-others}
use Rattle.css_laws.proofs.headline.answer_law.Goals as goal

pub returns-clause-once : goal.returns-clause-once
returns-clause-once c holds sheets kind page index own found are =
    alike-once holds sheets kind page index own found are

pub returns-clause-same : goal.returns-clause-same
returns-clause-same c holds sheets kind page index own found others are also winner = (
  in-others holds sheets kind page index own found others are also winner,
  in-others holds sheets kind page index own others found also are winner,
)
