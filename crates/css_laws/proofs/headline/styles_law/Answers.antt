use Rattle.css_laws.proofs.HeadlineLemmas.{styles-are}
use Rattle.css_laws.proofs.headline.styles_law.Goals as goal

pub returns : goal.returns
returns c = styles-are
