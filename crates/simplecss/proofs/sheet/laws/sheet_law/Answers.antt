use Rattle.css_text.specs.ThisEdition.{this_edition}
use Rattle.simplecss_grammar.proofs.round_trip.KeptSelectors.{sheet-reads_back}
use Rattle.simplecss.proofs.SheetLemmas.{AllPass-sheet}
use Rattle.simplecss.proofs.sheet.laws.sheet_law.Goals as goal

pub returns-clause-filled : goal.returns-clause-filled
returns-clause-filled c = AllPass-sheet this_edition

pub returns-clause-selectors : goal.returns-clause-selectors
returns-clause-selectors c = sheet-reads_back this_edition
