-- The order of rules.
-- Serves `StyleSheet::parse_more` and `laws::{order_laws, index_in_sheet_law, sheet_law}` (the
-- order of rules).
use Rattle.std.proofs.Common.{ℕ, List}
use Rattle.std.specs.Cmp.{IsStrictWeakOrder}
use Rattle.std.proofs.lemmas.Cmp.{nat_list_cmp_total}
use Rattle.std.proofs.lemmas.List.Sorted.{ranks_by}
use Rattle.simplecss_grammar.specs.Specificity.{specificity}
use Rattle.simplecss_grammar.specs.Statements.{StyleRule}
use Rattle.simplecss_grammar.specs.Sheets.{is_smaller}

abbrev pub weight : StyleRule → List ℕ
weight r = specificity r.components

pub smaller_order : IsStrictWeakOrder is_smaller
smaller_order = ranks_by nat_list_cmp_total weight
