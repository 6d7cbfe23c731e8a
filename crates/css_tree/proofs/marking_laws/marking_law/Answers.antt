use Rattle.css_tree.proofs.AskedLemmas.{inside_matches, marked_matches}
use Rattle.css_tree.proofs.marking_laws.marking_law.Goals as goal

pub returns-clause-own : goal.returns-clause-own
returns-clause-own c = marked_matches

pub returns-clause-inside : goal.returns-clause-inside
returns-clause-inside c = inside_matches
