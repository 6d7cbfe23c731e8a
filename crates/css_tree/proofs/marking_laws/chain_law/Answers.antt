use Rattle.css_tree.proofs.ChainLemmas.{spelled_same}
use Rattle.css_tree.proofs.marking_laws.chain_law.Goals as goal

pub returns : goal.returns
returns c = spelled_same
