-- The declarations of the rules whose indices a `RuleIndex` finds, in order.
-- Serves `Cascade::stated` and `Cascade::winners`.
use Rattle.std.proofs.Common.{◌≡◌, ℕ, suc, ◌+◌, ◌<◌, ◌≤◌, inl, inr, List, ◌++◌, length, map, get_or, Some, sym, ◌∙◌, subst, arith}
use Rattle.std.specs.List.{slice_get}
use Rattle.std.proofs.lemmas.List.{get_or_default, get_or_past, length-map}
use Rattle.simplecss.specs.Declarations.{StyleDeclaration}
use Rattle.simplecss.specs.Placements.{HasPlacement}
use Rattle.simplecss.specs.Statements.{StyleRule}
use Rattle.simplecss.specs.RuleViews.{rule_of, rules_of}
use Rattle.simplecss.specs.declared.sheet.rules.Rule.{Rule}
use Rattle.simplecss.specs.Trees.{Tree}
use Rattle.simplecss.specs.Matching.{AreMatches}
use Rattle.cssq.specs.Winners.{IsStated, ListsInOrder}
use Rattle.cssq.proofs.Among.{selector_there, index_within}
use Rattle.cssq.proofs.FromLast.{before_or_from, rule_read}
use Rattle.cssq.proofs.Indexed.{after, wanted_at, after_within, none_between}
use Rattle.cssq.proofs.Listing.{Before, lists_same, lists_rule, lists_all}

-- rules that do not match add nothing
lists_past : {Node : Type 0} (tree : Tree Node) (n : Node) (rules : List StyleRule) (from to : ℕ)
    {ps : List StyleDeclaration} → from ≤ to
    → ((k : ℕ) (rule : StyleRule) → from ≤ k → k < to → slice_get rules k ≡ Some rule
    → HasPlacement tree rule.components n → ⊥)
    → ListsInOrder (Before (IsStated tree n rules) from) ps
    → ListsInOrder (Before (IsStated tree n rules) to) ps
lists_past tree n rules from to le none lists =
    lists_same (λ i j p h. (let lt = h.0 in omega (arith, lt, le), h.1))
    (λ i j p h. elim (before_or_from from i) [
      | inl lt ↦ (lt, h.1)
      | inr past ↦ absurd (none i h.1.rule past h.0 h.1.rule_at h.1.takes)
    ]) lists

module _ {Node : Type 0} (tree : Tree Node) (n : Node) (rules : List Rule) (indices : List ℕ)
    (are : AreMatches tree n (map (λ rule. rule.selector) rules) indices) where
  up_to : (j : ℕ) → j ≤ length indices → {ps : List StyleDeclaration}
      → ListsInOrder (Before (IsStated tree n (rules_of rules)) (after indices j)) ps
      → ListsInOrder (Before (IsStated tree n (rules_of rules))
      (get_or indices j (length (map (λ rule. rule.selector) rules)))) ps
  up_to j le {ps} =
      lists_past tree n (rules_of rules) (after indices j) (get_or indices j
      (length (map (λ rule. rule.selector) rules))) {ps = ps} (after_within are j le)
      (λ k rule from to at takes. none_between are j k le from to
      (subst (λ cs. HasPlacement tree cs n) (sym (selector_there rules k rule at)) takes))

  -- the declarations of the rule at the next index are added
  pub listed_next : (j : ℕ) → j < length indices → (rule : Rule)
      → rule ≡ get_or rules (get_or indices j 0) rule → {ps : List StyleDeclaration}
      → ListsInOrder (Before (IsStated tree n (rules_of rules)) (after indices j)) ps
      → ListsInOrder (Before (IsStated tree n (rules_of rules)) (after indices (j + 1)))
      (ps ++ (rule_of rule).declarations)
  listed_next j within rule is {ps} lists =
      let index : ℕ = get_or indices j 0 in
      let read = rule_read rules index rule (index_within tree n rules indices are j within) is in
      let takes = subst (λ cs. HasPlacement tree cs n)
      (selector_there rules index (rule_of rule) read) (wanted_at are j within).1 in
      let here = subst (λ p. ListsInOrder (Before (IsStated tree n (rules_of rules)) p) ps)
      (sym (get_or_default indices j 0 (length (map (λ rule. rule.selector) rules)) within))
      (up_to j (omega (arith, within)) lists) in
      let next : suc j ≡ j + 1 = omega arith in
      subst (λ m. ListsInOrder (Before (IsStated tree n (rules_of rules)) (after indices m))
      (ps ++ (rule_of rule).declarations)) next
      (lists_rule tree n (rules_of rules) index (rule_of rule) read {ps = ps} takes here)

  -- after the last index nothing is added
  pub listed_all : (j : ℕ) → j ≡ length indices → {ps : List StyleDeclaration}
      → ListsInOrder (Before (IsStated tree n (rules_of rules)) (after indices j)) ps
      → ListsInOrder (IsStated tree n (rules_of rules)) ps
  listed_all j all {ps} lists =
      let end =
      get_or_past indices j (length (map (λ rule. rule.selector) rules)) (omega (arith, all))
      ∙ length-map rules (λ rule. rule.selector) ∙ sym (length-map rules rule_of) in
      let le : j ≤ length indices = omega (arith, all) in
      lists_all tree n (rules_of rules)
      (get_or indices j (length (map (λ rule. rule.selector) rules))) {ps = ps} (omega (arith, end))
      (up_to j le lists)
