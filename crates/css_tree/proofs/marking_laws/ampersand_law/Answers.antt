use Rattle.css_tree.proofs.AmpersandLemmas.{ampersand_inside, ampersand_outside}
use Rattle.css_tree.proofs.marking_laws.ampersand_law.Goals as goal

pub returns-clause-own : goal.returns-clause-own
returns-clause-own c = ampersand_outside

pub returns-clause-inside : goal.returns-clause-inside
returns-clause-inside c = ampersand_inside
