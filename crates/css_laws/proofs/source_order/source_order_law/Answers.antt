use Rattle.css_text.proofs.order.RankLemmas.{ordered_keeps, ordered_at_rank, ordered_arranges, sorted_from_rises}
use Rattle.css_sheet.specs.SheetOrder.{is_before, source_rules}
use Rattle.css_laws.proofs.SourceOrderLemmas.{before_order, earlier}
use Rattle.css_laws.proofs.source_order.source_order_law.Goals as goal

pub returns-clause-keeps : goal.returns-clause-keeps
returns-clause-keeps c holds sheets = ordered_keeps is_before before_order (source_rules holds sheets)

pub returns-clause-rises : goal.returns-clause-rises
returns-clause-rises c holds sheets =
    sorted_from_rises is_before _ (ordered_arranges is_before before_order (source_rules holds sheets)).rises

pub returns-clause-stays : goal.returns-clause-stays
returns-clause-stays c holds sheets = (ordered_arranges is_before before_order (source_rules holds sheets)).stable

pub returns-clause-ranks : goal.returns-clause-ranks
returns-clause-ranks c holds sheets i r lt at =
    ordered_at_rank is_before before_order (source_rules holds sheets) i r lt at

pub returns-clause-earlier : goal.returns-clause-earlier
returns-clause-earlier c = earlier
