use Rattle.css_selector_text.proofs.round_trip.EscapedAgain.{escaped-again, quoted-again}
use Rattle.css_selector_text.proofs.printing.escaping.escaping_law.Goals as goal

pub returns-clause-names : goal.returns-clause-names
returns-clause-names c = escaped-again

pub returns-clause-strings : goal.returns-clause-strings
returns-clause-strings c = quoted-again
