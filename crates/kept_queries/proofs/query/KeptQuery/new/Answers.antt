use Rattle.std.proofs.Common.{ap, ◌∙◌}
use Rattle.kept_queries.specs.Sources.{made_of, source_of}
use Rattle.kept_queries.proofs.Visits.{unread}
use Rattle.kept_queries.proofs.query.KeptQuery.new.Goals as goal

pub returns-in-Err : goal.returns-in-Err
returns-in-Err c =
    unread (made_of c.of.result.read_of) (source_of c.args.passed) c.visit-kept.result.0.value c.visit-kept.result.1
    c.in-Err.error c.visit-kept.ensures.0 c.in-Err.is
    (ap made_of (c.of.ensures.0 ∙ c.in_ok-arrays.ensures.ok) ∙ c.in_ok-copy.ensures)
