use Rattle.std.proofs.Common.{◌≡◌, length, sym, ap, ◌∙◌, rules, of_calls}
use Rattle.std.specs.List.{range_with_len}
use Rattle.std.specs.List.Sorted.{IsPermutation, IsSortedBy, IsStableBy}
use Rattle.std.proofs.lemmas.List.{length-map}
use Rattle.std.proofs.lemmas.Fn.{always_returns_same}
use Rattle.simplecss.specs.RuleViews.{rule_of, rules_of}
use Rattle.simplecss.specs.internal.RuleOrders.{weight_at}
use Rattle.simplecss.proofs.RuleMoves.{smaller_at, orders_rules}
use Rattle.simplecss.proofs.sheet.order.indices_in_order.Goals as goal

-- std's stable sort of the indices by the specificity of their rules
pub returns : goal.returns
returns c =
    let all = rules_of c.args.rules.now in
    let sorted = c.sort_by_cached_key.new.self.items in
    let numbers : c.in_ok-indices.indices.items ≡ range_with_len 0 (length all) =
    c.in_ok-indices.ensures ∙ ap (range_with_len 0) (sym (length-map c.args.rules.now rule_of)) in
    let moved : IsPermutation c.in_ok-indices.indices.items sorted =
    c.in_ok-sort_by_cached_key.ensures.permutation in
    let up : IsSortedBy (smaller_at all) sorted = c.in_ok-sort_by_cached_key.ensures.sorted
    (weight_at all) (always_returns_same _ _ _ (λ a r f k. search (rules, of_calls))) in
    let stable : IsStableBy (smaller_at all) c.in_ok-indices.indices.items sorted =
    c.in_ok-sort_by_cached_key.ensures.stable (weight_at all)
    (always_returns_same _ _ _ (λ a r f k. search (rules, of_calls))) in
    orders_rules all sorted (rw numbers at moved) up (rw numbers at stable)
