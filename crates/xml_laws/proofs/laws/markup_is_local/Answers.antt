use Rattle.xml_laws.proofs.Framed.{markup-local}
use Rattle.xml_laws.proofs.laws.markup_is_local.Goals as goal

pub returns : goal.returns
returns c = markup-local
