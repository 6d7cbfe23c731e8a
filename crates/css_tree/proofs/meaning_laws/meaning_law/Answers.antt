use Rattle.css_tree.proofs.MeaningSheets.{selectors_mean}
use Rattle.css_tree.proofs.meaning_laws.meaning_law.Goals as goal

pub returns : goal.returns
returns c = selectors_mean
