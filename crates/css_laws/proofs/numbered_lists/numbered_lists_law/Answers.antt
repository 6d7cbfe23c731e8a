use Rattle.css_laws.proofs.NumberedLists.{sheet_lists-before, sheet_rules-ask, list_lists-before, list_selectors-ask}
use Rattle.css_laws.proofs.numbered_lists.numbered_lists_law.Goals as goal

pub returns-clause-sheet_lists : goal.returns-clause-sheet_lists
returns-clause-sheet_lists c = sheet_lists-before

pub returns-clause-sheet_rules : goal.returns-clause-sheet_rules
returns-clause-sheet_rules c = sheet_rules-ask

pub returns-clause-lists : goal.returns-clause-lists
returns-clause-lists c = list_lists-before

pub returns-clause-selectors : goal.returns-clause-selectors
returns-clause-selectors c = list_selectors-ask
