use Rattle.css_explain.proofs.CriterionLemmas.{decides}
use Rattle.css_explain.proofs.LawLemmas.{criterion-after, each-beats, each-there}
use Rattle.css_explain.proofs.laws.explain_law.Goals as goal

pub returns-clause-complete : goal.returns-clause-complete
returns-clause-complete c = each-there

pub returns-clause-beats : goal.returns-clause-beats
returns-clause-beats c = each-beats

pub returns-clause-criteria : goal.returns-clause-criteria
returns-clause-criteria c = criterion-after

pub returns-clause-decides : goal.returns-clause-decides
returns-clause-decides c = decides
