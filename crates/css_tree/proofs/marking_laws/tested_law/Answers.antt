use Rattle.css_tree.proofs.AmpersandLemmas.{tested_is}
use Rattle.css_tree.proofs.marking_laws.tested_law.Goals as goal

pub returns : goal.returns
returns c = tested_is
