use Rattle.css_text.specs.ThisEdition.{this_edition}
use Rattle.simplecss_grammar.proofs.cutting.CuttingLaws.{keeps_across}
use Rattle.simplecss.proofs.sheet.laws.cutting_law.Goals as goal

pub returns : goal.returns
returns c = keeps_across this_edition
