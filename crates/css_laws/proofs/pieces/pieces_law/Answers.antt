use Rattle.css_laws.proofs.BlankLemmas.{blanks-same}
use Rattle.css_laws.proofs.LayerOrderLemmas.{layers-stay}
use Rattle.css_laws.proofs.PieceLemmas.{sheets-rise}
use Rattle.css_laws.proofs.pieces.pieces_law.Goals as goal

pub returns-clause-rules : goal.returns-clause-rules
returns-clause-rules c = sheets-rise

pub returns-clause-layers : goal.returns-clause-layers
returns-clause-layers c = layers-stay

pub returns-clause-rest : goal.returns-clause-rest
returns-clause-rest c = blanks-same
