use Rattle.sheet_laws.proofs.CutFolds.{cut-layers, cut-parts, cut-rules}
use Rattle.sheet_laws.proofs.cutting.cutting_law.Goals as goal

pub returns-clause-parts : goal.returns-clause-parts
returns-clause-parts c = cut-parts

pub returns-clause-layers : goal.returns-clause-layers
returns-clause-layers c = cut-layers

pub returns-clause-rules : goal.returns-clause-rules
returns-clause-rules c = cut-rules
