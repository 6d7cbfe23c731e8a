-- What the indices that a `RuleIndex` finds say of the rules between them.
-- Serves `run_match` and `run_style` (what an index finds is what testing each rule finds).
use Rattle.std.proofs.Common.{◌≡◌, ℕ, zero, suc, ◌+◌, ◌-◌, ◌<◌, ◌≤◌, List, [], ◌⊎◌, inl, inr, length, map, take, get_or, sym, ap, ◌∙◌, subst, arith}
use Rattle.std.proofs.lemmas.List.{get_or_default, get_or_past, get_or-map, length-map, take_all, take_more}
use Rattle.std.proofs.lemmas.Simd.{map-map}
use Rattle.std.proofs.lemmas.List.Kept.{AllPairs-from_increasing}
use Rattle.std.proofs.lemmas.List.Elements.{Contains-get_or}
use Rattle.simplecss.proofs.Adding.{contains_none}
use Rattle.simplecss.specs.Components.{Component}
use Rattle.simplecss.specs.Placements.{HasPlacement}
use Rattle.simplecss.specs.Statements.{StyleRule}
use Rattle.simplecss.specs.SelectorIndices.{selector_at, AreTheIndices}
use Rattle.simplecss.specs.Matching.{AreMatches}
use Rattle.cssq_tree.specs.TreeText.{Row}
use Rattle.cssq_tree.specs.PageNodes.{Spot, spot, page_tree}
use Rattle.cssq.specs.MatchRuns.{Takes, AreAnswers, numbers_line, IsLineOf}
use Rattle.cssq.proofs.FromLast.{before_or_from, here_or_later}
use Rattle.cssq.proofs.MatchLines.{AnsweredSoFar, answered_none, answered_yes, answered_no}

-- the index after that of number j - 1, or the first index of all
abbrev pub after : List ℕ → ℕ → ℕ
after indices zero = 0
after indices (suc j) = get_or indices j 0 + 1

-- without selectors none matches
pub none_match : (selectors : List (List Component)) (element : Spot) → length selectors ≡ 0
    → AreMatches page_tree element selectors []
none_match selectors element none = record {
  ascending = λ k lt. absurd (omega (arith, lt));
  exactly = λ index. (
    λ c. absurd (contains_none index c),
    λ h. let lt = h.0 in absurd (omega (arith, lt, none)),
  );
}

-- ---- between indices

module _ {P : ℕ → Type 0} {number : ℕ} {indices : List ℕ}
    (are : AreTheIndices P number indices) where
  -- what is at an index among them is as wanted
  pub wanted_at : (j : ℕ) → j < length indices
      → (get_or indices j 0 < number) × P (get_or indices j 0)
  wanted_at j within = (are.exactly (get_or indices j 0)).0 (Contains-get_or indices j 0 within)

  rising : (i j : ℕ) → i < j → j < length indices → get_or indices i 0 < get_or indices j 0
  rising i j less within = AllPairs-from_increasing indices are.ascending i j 0 less within

  -- the index of number j, or the number of all where there is no further one, is at most that
  -- number
  pub next_within : (j : ℕ) → get_or indices j number ≤ number
  next_within j = elim (before_or_from (length indices) j) [
    | inl less ↦ (let same = get_or_default indices j number 0 less in
        let below = (wanted_at j less).0 in
        omega (arith, same, below))
    | inr past ↦ (let none = get_or_past indices j number past in omega (arith, none))
  ]

  pub after_within : (j : ℕ) → j ≤ length indices → after indices j ≤ get_or indices j number
  after_within zero le = omega arith
  after_within (suc j) le = elim (before_or_from (length indices) (suc j)) [
    | inl less ↦ (let same = get_or_default indices (suc j) number 0 less in
        let up = rising j (suc j) (omega arith) less in
        omega (arith, same, up))
    | inr past ↦ (let none = get_or_past indices (suc j) number past in
        let below = (wanted_at j (omega (arith, le))).0 in
        omega (arith, none, below))
  ]

  apart : (j i k : ℕ) → j ≤ length indices → i < length indices → get_or indices i k ≡ k
      → after indices j ≤ k → k < get_or indices j number → (i < j) ⊎ (j ≤ i) → ⊥
  apart zero i k le within is from to (inl less) = omega (arith, less)
  apart (suc j) i k le within is from to (inl less) =
      elim (here_or_later i j (omega (arith, less))) [
        | inl e ↦
            (let same =
            get_or_default indices i k 0 within ∙ ap (λ n. get_or indices n 0) (sym e) in
            omega (arith, same, is, from))
        | inr more ↦ (let same = get_or_default indices i k 0 within in
            let up = rising i j (omega (arith, more)) (omega (arith, le)) in
            omega (arith, same, is, from, up))
      ]
  apart j i k le within is from to (inr after_j) = elim (here_or_later j i after_j) [
    | inl e ↦ (let same =
        ap (λ n. get_or indices n number) (sym e) ∙ get_or_default indices i number k within in
        omega (arith, same, is, to))
    | inr more ↦ (let here = get_or_default indices j number 0 (omega (arith, more, within)) in
        let there = get_or_default indices i k 0 within in
        let up = rising j i (omega (arith, more)) within in
        omega (arith, here, there, is, to, up))
  ]

  -- none that is wanted is between two consecutive indices, before the first or after the last
  pub none_between : (j k : ℕ) → j ≤ length indices → after indices j ≤ k
      → k < get_or indices j number → P k → ⊥
  none_between j k le from to wanted =
      let below = next_within j in
      let found = (are.exactly k).1 (omega (arith, to, below), wanted) in
      apart j found.0 k le found.1 found.2 from to (before_or_from j found.0)

-- ---- the answers of the rules

nothing : StyleRule
nothing = record { components = []; declarations = [] }

-- the selectors of rules are those of what the rules say
pub same_selectors : {R : Type 0} (f : R → StyleRule) (rules : List R)
    → map (λ rule. (f rule).components) rules ≡ map (λ rule. rule.components) (map f rules)
same_selectors f rules = sym (map-map (λ rule. rule.components) f rules)

module _ (rules : List StyleRule) (element : Spot) where
  takes_at : (k : ℕ) → k < length rules → Takes (get_or rules k nothing) element
      → HasPlacement page_tree (selector_at (map (λ rule. rule.components) rules) k) element
  takes_at k within takes = subst (λ cs. HasPlacement page_tree cs element)
      (sym (get_or-map (λ rule. rule.components) rules k nothing [] within)) takes

  takes_there : (k : ℕ) → k < length rules
      → HasPlacement page_tree (selector_at (map (λ rule. rule.components) rules) k) element
      → Takes (get_or rules k nothing) element
  takes_there k within placed = subst (λ cs. HasPlacement page_tree cs element)
      (get_or-map (λ rule. rule.components) rules k nothing [] within) placed

  -- none of the next n rules matches the element
  skipped : {ps : List ℕ} (n i : ℕ) → AnsweredSoFar rules element i ps → i + n ≤ length rules
      → ((k : ℕ) → i ≤ k → k < i + n → Takes (get_or rules k nothing) element → ⊥)
      → AnsweredSoFar rules element (i + n) ps
  skipped {ps} zero i so_far le none =
      let same : i ≡ i + 0 = omega arith in
      subst (λ m. AnsweredSoFar rules element m ps) same so_far
  skipped {ps} (suc n) i so_far le none =
      let within : i < length rules = omega (arith, le) in
      let next = answered_no so_far (get_or rules i nothing) within (get_or_default rules i
      (get_or rules i nothing) nothing within) (none i (omega arith) (omega arith)) in
      let same : i + 1 + n ≡ i + suc n = omega arith in
      subst (λ m. AnsweredSoFar rules element m ps) same (skipped n (i + 1) next (omega (arith, le))
      (λ k from to. none k (omega (arith, from)) (omega (arith, to))))

  module _ (indices : List ℕ)
      (are : AreMatches page_tree element (map (λ rule. rule.components) rules) indices) where
    same_number : length (map (λ rule. rule.components) rules) ≡ length rules
    same_number = length-map rules (λ rule. rule.components)

    -- up to the next index
    up_to : (j : ℕ) → j ≤ length indices
        → AnsweredSoFar rules element (after indices j) (take j indices)
        → AnsweredSoFar rules element
        (get_or indices j (length (map (λ rule. rule.components) rules))) (take j indices)
    up_to j le so_far =
        let end : ℕ = get_or indices j (length (map (λ rule. rule.components) rules)) in
        let from = after_within are j le in
        let most = next_within are j in
        let same : after indices j + (end - after indices j) ≡ end = omega (arith, from) in
        subst (λ m. AnsweredSoFar rules element m (take j indices)) same
        (skipped (end - after indices j) (after indices j) so_far
        (omega (arith, from, most, same_number))
        (λ k first last takes. none_between are j k le first (omega (arith, last, from))
        (takes_at k (omega (arith, last, from, most, same_number)) takes)))

    first_indices : (j : ℕ) → j ≤ length indices
        → AnsweredSoFar rules element (after indices j) (take j indices)
    first_indices zero le = answered_none rules element
    first_indices (suc j) le =
        let within : j < length indices = omega (arith, le) in
        let p : ℕ = get_or indices j 0 in
        let wanted = wanted_at are j within in
        let below : p < length rules = omega (arith, wanted.0, same_number) in
        let at = subst (λ m. AnsweredSoFar rules element m (take j indices))
        (get_or_default indices j (length (map (λ rule. rule.components) rules)) 0 within)
        (up_to j (omega (arith, le)) (first_indices j (omega (arith, le)))) in
        let next : j + 1 ≡ suc j = omega arith in
        subst (λ ps. AnsweredSoFar rules element (p + 1) ps)
        (sym (take_more indices j 0 within) ∙ ap (λ n. take n indices) next)
        (answered_yes at (get_or rules p nothing) below (get_or_default rules p
        (get_or rules p nothing) nothing below) (takes_there p below wanted.1))

    all_indices : AnsweredSoFar rules element (length rules) indices
    all_indices =
        let end = get_or_past indices (length indices)
        (length (map (λ rule. rule.components) rules)) (omega arith) ∙ same_number in
        subst (λ m. AnsweredSoFar rules element m indices) end
        (subst (λ ps. AnsweredSoFar rules element
        (get_or indices (length indices) (length (map (λ rule. rule.components) rules))) ps)
        (take_all (length indices) indices (omega arith))
        (up_to (length indices) (omega arith) (first_indices (length indices) (omega arith))))

    -- the line with the numbers of these indices is that of the element
    pub numbers_reported : (rows : List Row) (index : ℕ) → element ≡ spot rows index
        → IsLineOf rules rows index (numbers_line (index + 1) (map (λ index. index + 1) indices))
    numbers_reported rows index is = (
      all_indices.answers,
      subst (λ e. AreAnswers all_indices.answers rules e) is
          (subst (λ rs. AreAnswers all_indices.answers rs element)
          (take_all (length rules) rules (omega arith)) all_indices.are),
      ap (numbers_line (index + 1)) (sym all_indices.numbers),
    )
