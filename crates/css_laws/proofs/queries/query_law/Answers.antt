use Rattle.css_laws.proofs.QueryLemmas.{written-on, written-won}
use Rattle.css_laws.proofs.queries.query_law.Goals as goal

pub returns-clause-held : goal.returns-clause-held
returns-clause-held c = written-won

pub returns-clause-on_device : goal.returns-clause-on_device
returns-clause-on_device c source range most old new len answers of_device device properties ends names known texts asks =
    written-on source range most old new len answers of_device device properties ends names known texts asks
