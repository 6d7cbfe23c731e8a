use Rattle.simplecss_grammar.proofs.editions.SheetEditions.{keeps_in_both}
use Rattle.simplecss.proofs.sheet.laws.edition_law.Goals as goal

pub returns : goal.returns
returns c = keeps_in_both
