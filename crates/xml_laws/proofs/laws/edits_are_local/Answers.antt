use Rattle.xml_laws.proofs.Framed.{edits-local}
use Rattle.xml_laws.proofs.laws.edits_are_local.Goals as goal

pub returns : goal.returns
returns c = edits-local
