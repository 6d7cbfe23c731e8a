-- What wins as the rules that match an element are examined by their indices, from the last to the
-- first.
-- Serves `run_style` (the winner among the rules that an index finds).
use Rattle.std.proofs.Common.{◌≡◌, ℕ, suc, ◌+◌, ◌<◌, ◌≤◌, Bool, true, List, [], length, map, get_or, Option, Some, None, sym, ap, ◌∙◌, subst, arith}
use Rattle.std.specs.Option.{option_map, is_some}
use Rattle.std.specs.List.{slice_get}
use Rattle.std.proofs.lemmas.List.{get_or_default, get_or_past, length-map}
use Rattle.std.proofs.lemmas.Option.{slice_get-map, get_or_from_slice_get}
use Rattle.std.proofs.lemmas.Simd.{map-map}
use Rattle.simplecss.specs.Declarations.{StyleDeclaration}
use Rattle.simplecss.specs.Placements.{HasPlacement}
use Rattle.simplecss.specs.Statements.{StyleRule}
use Rattle.simplecss.specs.RuleViews.{rule_of, rules_of}
use Rattle.simplecss.specs.declared.sheet.rules.Rule.{Rule}
use Rattle.simplecss.specs.Trees.{Tree}
use Rattle.simplecss.specs.SelectorIndices.{selector_at}
use Rattle.simplecss.specs.Matching.{AreMatches}
use Rattle.cssq.specs.Winners.{Wins, IsStated}
use Rattle.cssq.specs.internal.RuleWinners.{InRule, IsOutdone}
use Rattle.cssq.proofs.FromLast.{From, KnownFrom, known_none, known_all, known_skipped, known_passed, known_here, rule_read}
use Rattle.cssq.proofs.Indexed.{after, wanted_at, after_within, none_between}

-- the selector at an index is that of the rule there
pub selector_there : (rules : List Rule) (k : ℕ) (rule : StyleRule)
    → slice_get (rules_of rules) k ≡ Some rule
    → selector_at (map (λ r. r.selector) rules) k ≡ rule.components
selector_there rules k rule at =
    ap (λ selectors. get_or selectors k []) (sym (map-map (λ r. r.components) rule_of rules))
    ∙ get_or_from_slice_get (map (λ r. r.components) (rules_of rules)) k rule.components []
    (slice_get-map (λ r. r.components) (rules_of rules) k ∙ ap (option_map (λ r. r.components)) at)

module _ {Node : Type 0} (tree : Tree Node) (n : Node) (rules : List Rule) (indices : List ℕ)
    (are : AreMatches tree n (map (λ rule. rule.selector) rules) indices) where
  same_number : length (map (λ rule. rule.selector) rules) ≡ length rules
  same_number = length-map rules (λ rule. rule.selector)

  pub index_within : (j : ℕ) → j < length indices → get_or indices j 0 < length rules
  index_within j within =
      let wanted = wanted_at are j within in
      omega (arith, wanted.0, same_number)

  module _ (name : List ℕ) where
    pub among_none : KnownFrom (IsStated tree n (rules_of rules)) name
        (get_or indices (length indices) (length (map (λ rule. rule.selector) rules))) None
    among_none =
        let end = get_or_past indices (length indices) (length (map (λ rule. rule.selector) rules))
        (omega arith) ∙ same_number ∙ sym (length-map rules rule_of) in
        subst (λ index. KnownFrom (IsStated tree n (rules_of rules)) name index None) (sym end)
        (known_none tree n (rules_of rules) name)

    -- none of the rules between two consecutive indices matches the element
    between : (j : ℕ) → j ≤ length indices → (w : Option StyleDeclaration)
        → KnownFrom (IsStated tree n (rules_of rules)) name
        (get_or indices j (length (map (λ rule. rule.selector) rules))) w
        → KnownFrom (IsStated tree n (rules_of rules)) name (after indices j) w
    between j le = known_skipped tree n (rules_of rules) name (after indices j)
        (get_or indices j (length (map (λ rule. rule.selector) rules))) (after_within are j le)
        (λ k rule from to at takes. none_between are j k le from to
        (subst (λ cs. HasPlacement tree cs n) (sym (selector_there rules k rule at)) takes))

    pub among_all : (i : ℕ) → i ≡ 0 → (w : Option StyleDeclaration)
        → KnownFrom (IsStated tree n (rules_of rules)) name
        (get_or indices i (length (map (λ rule. rule.selector) rules))) w
        → Wins (IsStated tree n (rules_of rules)) name w
    among_all i first w known =
        known_all tree n (rules_of rules) name w
        (between 0 (omega arith) w (subst (λ i. KnownFrom (IsStated tree n (rules_of rules)) name
        (get_or indices i (length (map (λ rule. rule.selector) rules))) w) first known))

    module _ (i j : ℕ) (next : i ≡ suc j) (within : j < length indices) (rule : Rule)
        (is : rule ≡ get_or rules (get_or indices j 0) rule) {A : Type 0} (f : A → StyleDeclaration)
        (known : Bool) (w : Option A) (reports : known ≡ is_some w)
        (so_far : KnownFrom (IsStated tree n (rules_of rules)) name
        (get_or indices i (length (map (λ rule. rule.selector) rules))) (option_map f w)) where
      read : slice_get (rules_of rules) (get_or indices j 0) ≡ Some (rule_of rule)
      read = rule_read rules (get_or indices j 0) rule (index_within j within) is

      after_it : KnownFrom (IsStated tree n (rules_of rules)) name (get_or indices j 0 + 1)
          (option_map f w)
      after_it = between (suc j) (omega (arith, within)) (option_map f w)
          (subst (λ i. KnownFrom (IsStated tree n (rules_of rules)) name (get_or indices i
          (length (map (λ rule. rule.selector) rules))) (option_map f w)) next so_far)

      same_index : get_or indices j 0
          ≡ get_or indices j (length (map (λ rule. rule.selector) rules))
      same_index = get_or_default indices j 0 (length (map (λ rule. rule.selector) rules)) within

      pub among_passed : IsOutdone (rule_of rule) name known
          → KnownFrom (IsStated tree n (rules_of rules)) name
          (get_or indices j (length (map (λ rule. rule.selector) rules))) (option_map f w)
      among_passed outdone =
          subst (λ index. KnownFrom (IsStated tree n (rules_of rules)) name index (option_map f w))
          same_index
          (known_passed tree n (rules_of rules) name (get_or indices j 0)
          (rule_of rule) read f known w reports (λ takes. outdone) after_it)

      pub among_here : (b : StyleDeclaration) → (known ≡ true → b.important ≡ true)
          → ((m : ℕ) → Wins (InRule m (rule_of rule).declarations) name (Some b))
          → Wins (From (IsStated tree n (rules_of rules))
          (get_or indices j (length (map (λ rule. rule.selector) rules)))) name (Some b)
      among_here b heavy best =
          let takes = subst (λ cs. HasPlacement tree cs n) (selector_there rules
          (get_or indices j 0) (rule_of rule) read) (wanted_at are j within).1 in
          subst (λ index. Wins (From (IsStated tree n (rules_of rules)) index) name (Some b))
          same_index
          (known_here tree n (rules_of rules) name (get_or indices j 0) (rule_of rule) read f known
          b w reports heavy (record { takes = takes; best = best }) after_it)
