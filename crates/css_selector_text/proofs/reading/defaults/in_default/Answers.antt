use Rattle.std.proofs.Common.{false}
use Rattle.css_selector_text.proofs.DefaultLemmas.{some_in_ok}
use Rattle.css_selector_text.proofs.reading.defaults.in_default.Goals as goal

pub returns-in-Some-clause-some : goal.returns-in-Some-clause-some
returns-in-Some-clause-some c =
    some_in_ok c.in-Some.number false c.args.parts.items c.parts_in.result c.parts_in.ensures
