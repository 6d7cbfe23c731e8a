use Rattle.xml_laws.proofs.Tiles.{tokens-tile}
use Rattle.xml_laws.proofs.laws.tokens_are_the_document.Goals as goal

pub returns : goal.returns
returns c = tokens-tile
