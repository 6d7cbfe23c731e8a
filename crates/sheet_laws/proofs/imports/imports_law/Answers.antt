use Rattle.sheet_laws.proofs.FirstImports.{piece-source}
use Rattle.sheet_laws.proofs.imports.imports_law.Goals as goal

pub returns : goal.returns
returns c = piece-source
