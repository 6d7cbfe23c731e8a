-- What lists within lists cost, where combinators stand in few of them, one within another.
-- Serves `matching_laws::nested_law`.
use Rattle.std.proofs.Common.{◌≡◌, ℕ, zero, suc, ◌+◌, ◌-◌, ◌*◌, ◌<◌, ◌≤◌, Bool, true, false, refl, subst, arith}
use Rattle.std.proofs.Math.Nat.{mul-le-mul_left, mul-le-mul_right}
use Rattle.css_matching.specs.Bounds.{longest_free, longest_fixed, most_levels}
use Rattle.css_selectors.specs.Documents.{Document}
use Rattle.css_selector_text.specs.Components.{Condition, Conditions, Parts, Selectors}
use Rattle.css_selector_text.specs.Components.Condition.{simple, negation, any_of, where_any, tested}
use Rattle.css_selector_text.specs.Components.Conditions.{end_of_compound, with_condition}
use Rattle.css_selector_text.specs.Components.Parts.{end_of_selector, with_part}
use Rattle.css_selector_text.specs.Components.Selectors.{end_of_list, with_selector}
use Rattle.css_selectors.specs.Meanings.{combinator_at, part_count}
use Rattle.css_selectors.specs.TestBounds.{earlier_siblings}
use Rattle.css_selectors.specs.Costs.{most_questions, selector_cost_by, condition_cost, compound_cost, dearest_part, list_cost, most_tests}
use Rattle.css_selector_text.specs.reading.SearchCounts.{is_lone}
use Rattle.css_selectors.specs.NestedTests.{condition_size, compound_size, parts_size, selectors_size, JoinsWithin, CompoundJoinsWithin, PartsJoinWithin, ListJoinsWithin, searches, nested_tests}
use Rattle.css_selector_text.specs.reading.SearchCounts.{searches_if, search_count}
use Rattle.css_selectors.proofs.BoundLemmas.{longest_fixed-le, longest_free-le, most_levels-le, sum_le}

-- ---- numbers

-- two searches are no more than one of all their parts
searches-add : (a b above before : ℕ)
    → searches a above before + searches b above before ≤ searches (a + b) above before
searches-add a b above before =
    let wider : a * before ≤ (a + b) * before = mul-le-mul_right before (omega arith) in
    let wider' : b * before ≤ (a + b) * before = mul-le-mul_right before (omega arith) in
    let x : a * (above + a * before) ≤ a * (above + (a + b) * before) =
    mul-le-mul_left a (omega (arith, wider)) in
    let y : b * (above + b * before) ≤ b * (above + (a + b) * before) =
    mul-le-mul_left b (omega (arith, wider')) in
    omega (arith, x, y)

both : (s t u a b c : ℕ) → s + t ≤ u → a + b ≤ c → s * (a + 1) + t * (b + 1) ≤ u * (c + 1)
both s t u a b c h k =
    let x : s * (a + 1) ≤ s * (c + 1) = mul-le-mul_left s (omega (arith, k)) in
    let y : t * (b + 1) ≤ t * (c + 1) = mul-le-mul_left t (omega (arith, k)) in
    let z : (s + t) * (c + 1) ≤ u * (c + 1) = mul-le-mul_right (c + 1) h in
    omega (arith, x, y, z)

product : (s t a b : ℕ) → s ≤ t → a ≤ b → s * (a + 1) ≤ t * (b + 1)
product s t a b h k =
    let x : s * (a + 1) ≤ s * (b + 1) = mul-le-mul_left s (omega (arith, k)) in
    let y : s * (b + 1) ≤ t * (b + 1) = mul-le-mul_right (b + 1) h in
    omega (arith, x, y)

module _ {Node : Type 0} (d : Document Node) (n : Node) where
  -- a search for so many compound selectors
  abbrev search_of : ℕ → ℕ
  search_of parts = searches parts (d.depth n + 1) (earlier_siblings d n)

  abbrev most : ℕ → ℕ → ℕ
  most k size = nested_tests k (search_of size)

  search-grows : (a b : ℕ) → a ≤ b → search_of a ≤ search_of b
  search-grows a b le =
      let all : a + (b - a) ≡ b = omega (arith, le) in
      let h = searches-add a (b - a) (d.depth n + 1) (earlier_siblings d n) in
      subst (λ x. search_of a ≤ search_of x) all (omega (arith, h))

  most-add : (k a b : ℕ) → most k a + most k b ≤ most k (a + b)
  most-add zero a b = omega arith
  most-add (suc k) a b =
      both (search_of a) (search_of b) (search_of (a + b)) (most k a) (most k b) (most k (a + b))
      (searches-add a b (d.depth n + 1) (earlier_siblings d n)) (most-add k a b)

  most-grows : (k a b : ℕ) → a ≤ b → most k a ≤ most k b
  most-grows zero a b le = omega arith
  most-grows (suc k) a b le =
      product (search_of a) (search_of b) (most k a) (most k b) (search-grows a b le)
      (most-grows k a b le)

  -- ---- selectors

  questions-le : (parts : Parts) → 0 < part_count parts
      → most_questions d parts n ≤ search_of (part_count parts)
  questions-le parts some =
      let c = combinator_at parts in
      let last = part_count parts - 1 in
      let up : last + 1 ≤ part_count parts = omega (arith, some) in
      let a = longest_fixed-le c last in
      let b = longest_free-le c last in
      let l = most_levels-le c last in
      sum_le (longest_fixed c last) (longest_free c last) (most_levels c last) (d.depth n + 1)
      (earlier_siblings d n) (part_count parts) (omega (arith, a, up)) (omega (arith, b, up))
      (omega (arith, l, up))

  count-le : (parts : Parts) → part_count parts ≤ parts_size parts
  count-le end_of_selector = omega arith
  count-le (with_part k c parts) = let h = count-le parts in omega (arith, h)

  joined_some : (s : Parts) → is_lone s ≡ false → 0 < part_count s
  joined_some end_of_selector h = absurd (cc)
  joined_some (with_part k c parts) h = omega arith

  selector-le : (lone : Bool) (k questions dearest size : ℕ) → searches_if lone ≤ k
      → (lone ≡ false → questions ≤ search_of size)
      → dearest ≤ most (k - searches_if lone) size
      → selector_cost_by lone questions dearest ≤ most k size
  selector-le true k questions dearest size few h g =
      let same : k - 0 ≡ k = omega arith in subst (λ j. dearest ≤ most j size) same g
  selector-le false zero questions dearest size few h g = absurd (omega (arith, few))
  selector-le false (suc k) questions dearest size few h g =
      let same : suc k - 1 ≡ k = omega arith in
      product questions (search_of size) dearest (most k size) (h refl)
      (subst (λ j. dearest ≤ most j size) same g)

  at_most : (s : Parts) → 0 < part_count s → most_questions d s n ≤ search_of (parts_size s)
  at_most s some =
      let a = questions-le s some in
      let b = search-grows (part_count s) (parts_size s) (count-le s) in
      omega (arith, a, b)

  mutual
    condition-le : (k : ℕ) (c : Condition) → JoinsWithin k c
        → condition_cost d c n ≤ most k (condition_size c)
    condition-le k (simple s) h = omega arith
    condition-le k (negation selectors) h = list-le k selectors h
    condition-le k (any_of selectors) h = list-le k selectors h
    condition-le k (where_any selectors) h = list-le k selectors h
    condition-le k (tested test selectors) h = omega arith

    compound-le : (k : ℕ) (cs : Conditions) → CompoundJoinsWithin k cs
        → compound_cost d cs n ≤ most k (compound_size cs)
    compound-le k end_of_compound h = omega arith
    compound-le k (with_condition c cs) h =
        let a = condition-le k c h.0 in
        let b = compound-le k cs h.1 in
        let s = most-add k (condition_size c) (compound_size cs) in
        omega (arith, a, b, s)

    dearest-le : (k : ℕ) (parts : Parts) → PartsJoinWithin k parts
        → dearest_part d parts n ≤ most k (parts_size parts)
    dearest-le k end_of_selector h = omega arith
    dearest-le k (with_part l c parts) h =
        let a = compound-le k c h.0 in
        let b = dearest-le k parts h.1 in
        let all = compound_size c + parts_size parts + 1 in
        let x = most-grows k (compound_size c) all (omega arith) in
        let y = most-grows k (parts_size parts) all (omega arith) in
        omega (arith, a, b, x, y)

    list-le : (k : ℕ) (selectors : Selectors) → ListJoinsWithin k selectors
        → list_cost d selectors n ≤ most k (selectors_size selectors)
    list-le k end_of_list h = omega arith
    list-le k (with_selector s selectors) h =
        let a = selector-le (is_lone s) k (most_questions d s n) (dearest_part d s n) (parts_size s)
        h.0 (λ e. at_most s (joined_some s e)) (dearest-le (k - search_count s) s h.1) in
        let b = list-le k selectors h.2 in
        let all = most-add k (parts_size s) (selectors_size selectors) in
        omega (arith, a, b, all)

  -- the tests of a selector
  pub tests-le : (k : ℕ) (parts : Parts) → 0 < part_count parts → PartsJoinWithin k parts
      → most_tests d parts n ≤ most (k + 1) (parts_size parts)
  tests-le k parts some h =
      let next : suc k ≡ k + 1 = omega arith in
      subst (λ j. most_tests d parts n ≤ most j (parts_size parts)) next
      (product (most_questions d parts n) (search_of (parts_size parts)) (dearest_part d parts n)
      (most k (parts_size parts)) (at_most parts some) (dearest-le k parts h))
