use Rattle.css_styles.proofs.DistinctLemmas.{contenders-distinct, distinct-pairs}
use Rattle.css_styles.proofs.OneLemmas.{each-is-best, one-wins}
use Rattle.css_styles.specs.Contenders.{contenders}
use Rattle.css_styles.proofs.laws.one_law.Goals as goal

pub returns-clause-distinct : goal.returns-clause-distinct
returns-clause-distinct c = λ rules indices own no_hints up.
    distinct-pairs (contenders rules indices own) (contenders-distinct rules own indices no_hints up)

pub returns-clause-one : goal.returns-clause-one
returns-clause-one c = one-wins

pub returns-clause-best : goal.returns-clause-best
returns-clause-best c = each-is-best
