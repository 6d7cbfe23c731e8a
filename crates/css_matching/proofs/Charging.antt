-- What the tests of a search cost, step by step.
-- Serves the contract of `matches`.
use Rattle.std.proofs.Common.{◌≡◌, ℕ, ◌+◌, ◌*◌, ◌≤◌, Some, sym, subst, arith}
use Rattle.std.proofs.Math.Nat.{mul-le-mul_right}
use Rattle.css_matching.specs.Trees.{Tree, IsMonotone}
use Rattle.css_matching.specs.Placements.{IsBeyond}
use Rattle.css_matching.specs.Placements.IsBeyond.{is_next, is_further}
use Rattle.css_matching.specs.internal.Search.{IsAlong}
use Rattle.css_matching.specs.internal.Search.IsAlong.{here, after}
use Rattle.css_matching.specs.Charges.{IsTested, IsCharged}

pub charged_none : (cost tests total : ℕ) → IsCharged cost tests total tests total
charged_none cost tests total = (omega arith, λ c more. omega arith)

-- one test more, which costs no more than any other
pub charged_one : (cost own tests total t s t' s' : ℕ) → own ≤ cost
    → IsCharged cost tests total t s → IsTested own s s' → t' ≡ t + 1
    → IsCharged cost tests total t' s'
charged_one cost own tests total t s t' s' le so_far one next = (
  omega (arith, so_far.0, one.0, next),
  λ c more. let h = so_far.1 c more in rw next (omega (arith, h, one.1, le, more)),
)

-- more tests, each of which costs no more than any other
pub charged_more : (cost own tests total t s t' s' : ℕ) → own ≤ cost
    → IsCharged cost tests total t s → IsCharged own t s t' s'
    → IsCharged cost tests total t' s'
charged_more cost own tests total t s t' s' le so_far added = (
  omega (arith, so_far.0, added.0),
  λ c more. let h = so_far.1 c more in let k = added.1 c (omega (arith, le, more)) in
      omega (arith, h, k),
)

-- all tests
pub charged_all : (cost none total t s fixed free : ℕ) → none ≡ 0 → IsCharged cost none total t s
    → t ≤ none + fixed + free → s ≤ total + (fixed + free) * (cost + 1)
charged_all cost none total t s fixed free e h le =
    let a = h.1 (cost + 1) (omega arith) in
    let most : t ≤ fixed + free = omega (arith, e, le) in
    let b = mul-le-mul_right (cost + 1) most in
    let z : (cost + 1) * none ≡ 0 = rw e (omega arith) in
    omega (arith, a, b, z)

module _ {Node : Type 0} (tree : Tree Node) (cost : Node → ℕ) (law : IsMonotone tree cost) where
  parent_cheaper : (p n : Node) → tree.parent n ≡ Some p → cost p ≤ cost n
  parent_cheaper p n e = let h = (law n).0 in rw e at h

  sibling_cheaper : (p n : Node) → tree.previous_sibling n ≡ Some p → cost p ≤ cost n
  sibling_cheaper p n e = let h = (law n).1 in rw e at h

  up_to : (a b c : ℕ) → a ≤ b → b ≤ c → a ≤ c
  up_to a b c h k = omega (arith, h, k)

  pub beyond_cheaper : (m n : Node) → IsBeyond tree.previous_sibling m n → cost m ≤ cost n
  beyond_cheaper m n (is_next e) = sibling_cheaper m n e
  beyond_cheaper m n (is_further {p = p} e q) =
      up_to (cost m) (cost p) (cost n) (beyond_cheaper m p q) (sibling_cheaper p n e)

  pub above_cheaper : (m n : Node) → IsBeyond tree.parent m n → cost m ≤ cost n
  above_cheaper m n (is_next e) = parent_cheaper m n e
  above_cheaper m n (is_further {p = p} e q) =
      up_to (cost m) (cost p) (cost n) (above_cheaper m p q) (parent_cheaper p n e)

  -- also where the node is given as another that is the same
  pub along_cheaper : (x u n : Node) → x ≡ u → IsAlong tree.previous_sibling u n → cost x ≤ cost n
  along_cheaper x u n e a = subst (λ y. cost y ≤ cost n) (sym e) (go u n a)
    where
      go : (u n : Node) → IsAlong tree.previous_sibling u n → cost u ≤ cost n
      go u n here = omega arith
      go u n (after {p = p} f q) =
          up_to (cost u) (cost p) (cost n) (go u p q) (sibling_cheaper p n f)

  pub along_up_cheaper : (x u n : Node) → x ≡ u → IsAlong tree.parent u n → cost x ≤ cost n
  along_up_cheaper x u n e a = subst (λ y. cost y ≤ cost n) (sym e) (go u n a)
    where
      go : (u n : Node) → IsAlong tree.parent u n → cost u ≤ cost n
      go u n here = omega arith
      go u n (after {p = p} f q) =
          up_to (cost u) (cost p) (cost n) (go u p q) (parent_cheaper p n f)

  pub further_cheaper : (m k n : Node) → IsBeyond tree.previous_sibling m k → cost k ≤ cost n
      → cost m ≤ cost n
  further_cheaper m k n b le = up_to (cost m) (cost k) (cost n) (beyond_cheaper m k b) le

  pub higher_cheaper : (m k n : Node) → IsBeyond tree.parent m k → cost k ≤ cost n
      → cost m ≤ cost n
  higher_cheaper m k n b le = up_to (cost m) (cost k) (cost n) (above_cheaper m k b) le
