use Rattle.css_laws.proofs.HeadlineLemmas.{numbers-are}
use Rattle.css_laws.proofs.headline.winners_law.Goals as goal

pub returns : goal.returns
returns c = numbers-are
