-- The answers of selectors that are tested in order, by the indices of those that match.
-- Serves `laws::answers_law`.
use Rattle.std.proofs.Common.{◌≡◌, ℕ, suc, ◌+◌, ◌<◌, ◌↔◌, List, [], ◌∷◌, Bool, true, length, map, get_or, nat_eq, sym, ap, ◌∙◌, subst, arith}
use Rattle.std.specs.List.{AllZip, items_where_true, list_any, range_with_len}
use Rattle.std.proofs.lemmas.Cmp.{nat_eq_equiv}
use Rattle.std.proofs.lemmas.List.FromFn.{length-map-range_with_len}
use Rattle.std.proofs.lemmas.Map.Views.{list_any-from_Contains, Contains-from_any}
use Rattle.std.specs.Cmp.{unsigned_Decides}
use Rattle.simplecss_grammar.specs.Components.{Component}
use Rattle.simplecss_selector.specs.Placements.{HasPlacement}
use Rattle.simplecss_selector.specs.Trees.{Tree}
use Rattle.simplecss.specs.Matching.{AreMatches, AreAnswers, indices_with_yes}
use Rattle.simplecss.specs.SelectorIndices.{selector_at}
use Rattle.simplecss.proofs.Ascending.{indices_are, reported_by}

-- a test at each index of a list that decides a property of the value there
all_reported : {V : Type 0} (test : ℕ → Bool) (P : V → Type 0) (vs : List V) (d : V) (a : ℕ)
    → ((k : ℕ) → k < length vs → (test (a + k) ≡ true) ↔ P (get_or vs k d))
    → AllZip (λ answer v. (answer ≡ true) ↔ P v) (map test (range_with_len a (length vs))) vs
all_reported test P [] d a reports = tt
all_reported test P (v ∷ vs) d a reports = (
  subst (λ n. (test n ≡ true) ↔ P v) (zero_more a) (reports 0 (omega arith)),
  all_reported test P vs d (a + 1) (λ k lt. subst (λ n. (test n ≡ true) ↔ P (get_or vs k d))
      (one_more a k) (reports (suc k) (omega (arith, lt)))),
)
  where
    zero_more : (a : ℕ) → a + 0 ≡ a
    zero_more a = omega arith

    one_more : (a k : ℕ) → a + suc k ≡ a + 1 + k
    one_more a k = omega arith

pub answers_of : {Node : Type 0} (tree : Tree Node) (selectors : List (List Component))
    (element : Node) (indices : List ℕ) → AreMatches tree element selectors indices
    → (answers : List Bool) × AreAnswers tree element selectors answers
    × (indices ≡ indices_with_yes answers)
answers_of tree selectors element indices are =
    let test : ℕ → Bool = λ index. list_any (nat_eq index) indices in
    let all : List ℕ = range_with_len 0 (length selectors) in
    let answers : List Bool = map test all in
    let number : length answers ≡ length selectors =
    length-map-range_with_len test 0 (length selectors) in (
      answers,
      all_reported test (λ selector. HasPlacement tree selector element) selectors [] 0
          (λ k lt. at k (
            λ e.
                ((are.exactly k).0
                (Contains-from_any (λ x y. (unsigned_Decides x y).0) k indices e)).1,
            λ h. list_any-from_Contains nat_eq_equiv k indices ((are.exactly k).1 (lt, h)),
          )),
      indices_are test (length selectors) indices (record {
        ascending = are.ascending;
        exactly = λ k. (
          λ c. (((are.exactly k).0 c).0, list_any-from_Contains nat_eq_equiv k indices c),
          λ h. Contains-from_any (λ x y. (unsigned_Decides x y).0) k indices h.1,
        );
      }) ∙ sym (reported_by test all)
          ∙ ap (λ n. items_where_true answers (range_with_len 0 n)) (sym number),
    )
  where
    at : (k : ℕ)
        → (list_any (nat_eq k) indices ≡ true) ↔ HasPlacement tree (selector_at selectors k) element
        → (list_any (nat_eq (0 + k)) indices ≡ true)
        ↔ HasPlacement tree (selector_at selectors k) element
    at k h =
        let same : k ≡ 0 + k = omega arith in
        subst (λ n. (list_any (nat_eq n) indices ≡ true)
        ↔ HasPlacement tree (selector_at selectors k) element) same h
