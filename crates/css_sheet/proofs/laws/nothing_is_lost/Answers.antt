use Rattle.std.proofs.Common.{[]}
use Rattle.css_sheet.specs.SheetParts.{sheet_source}
use Rattle.css_sheet.proofs.PartPieces.{given-all}
use Rattle.css_sheet.proofs.laws.nothing_is_lost.Goals as goal

pub returns : goal.returns
returns c holds number sheet = given-all holds (sheet_source number sheet) [] sheet.around sheet.text
