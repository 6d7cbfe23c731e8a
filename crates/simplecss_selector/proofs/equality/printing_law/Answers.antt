use Rattle.css_text.specs.ThisEdition.{this_edition}
use Rattle.simplecss_grammar.proofs.round_trip.ReadSelectors.{prints-alike}
use Rattle.simplecss_selector.proofs.equality.printing_law.Goals as goal

pub returns : goal.returns
returns c a b = prints-alike this_edition a b
