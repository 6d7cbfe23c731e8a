use Rattle.std.proofs.Common.{sym}
use Rattle.simplecss_grammar.specs.Sheets.{is_smaller}
use Rattle.simplecss_grammar.proofs.order.OrderLemmas.{smaller_order}
use Rattle.css_text.proofs.order.RankLemmas.{ordered_keeps, ordered_at_rank, ordered_is, ordered_arranges, arranges_from_sort, ordered_twice, sorted_from_rises}
use Rattle.simplecss.proofs.sheet.laws.order_laws.Goals as goal

pub returns-clause-keeps : goal.returns-clause-keeps
returns-clause-keeps c = ordered_keeps is_smaller smaller_order

pub returns-clause-ranks : goal.returns-clause-ranks
returns-clause-ranks c xs i r h e = ordered_at_rank is_smaller smaller_order xs i r h e

pub returns-clause-rises : goal.returns-clause-rises
returns-clause-rises c xs =
    sorted_from_rises is_smaller _ (ordered_arranges is_smaller smaller_order xs).rises

pub returns-clause-stays : goal.returns-clause-stays
returns-clause-stays c xs = (ordered_arranges is_smaller smaller_order xs).stable

pub returns-clause-one : goal.returns-clause-one
returns-clause-one c xs ys moved up stable = sym (ordered_is is_smaller smaller_order xs ys
    (arranges_from_sort is_smaller smaller_order xs ys moved up stable))

pub returns-clause-twice : goal.returns-clause-twice
returns-clause-twice c = ordered_twice is_smaller smaller_order
