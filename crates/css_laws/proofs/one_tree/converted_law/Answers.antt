use Rattle.css_laws.proofs.OneTreeLemmas.{converted_matches}
use Rattle.css_laws.proofs.one_tree.converted_law.Goals as goal

pub returns : goal.returns
returns g c components m n is same =
    converted_matches g.E.Element.document g.P.Element.tree components is m n same
