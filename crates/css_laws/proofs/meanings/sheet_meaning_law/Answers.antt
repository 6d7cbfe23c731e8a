use Rattle.css_sheet.specs.SheetOrder.{cascade_rules, nested_lists}
use Rattle.css_laws.proofs.ChainedLists.{lists-earlier, rules-ask}
use Rattle.css_laws.proofs.MeaningLemmas.{rules_mean}
use Rattle.css_laws.proofs.NumberedLists.{sheet_lists-before}
use Rattle.css_laws.proofs.meanings.sheet_meaning_law.Goals as goal

pub returns : goal.returns
returns c holds sheets page =
    rules_mean page (nested_lists holds sheets) (cascade_rules holds sheets) (lists-earlier holds sheets)
    (λ k d less. (rules-ask holds sheets k d less).0) (sheet_lists-before holds sheets)
