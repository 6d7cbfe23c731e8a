use Rattle.css_selectors.proofs.NumberingLaws.{all_answered, counts_same}
use Rattle.css_selectors.proofs.numbering_laws.numbering_law.Goals as goal

pub returns-clause-answered : goal.returns-clause-answered
returns-clause-answered c = all_answered

pub returns-clause-specificity : goal.returns-clause-specificity
returns-clause-specificity c = counts_same
