-- The last index of a list for which a test is true. These are proofs: they are in this folder
-- since the laws of an element, which a trait requires, use them (`ElementLaws`).
use Rattle.std.proofs.Common.{◌≡◌, ℕ, zero, suc, ◌+◌, ◌<◌, ◌≤◌, Bool, true, false, cond, List, [], ◌∷◌, length, take, get_or, refl, sym, ap, subst, arith, Option, None, Some, MatchOption, ⊎_elim}
use Rattle.std.specs.Prelude.{nat_le, nat_lt}
use Rattle.std.proofs.lemmas.Bool.{cases_order, both_ways}
use Rattle.std.proofs.lemmas.Bool.Decides.{nat_tests}
use Rattle.std.proofs.lemmas.List.{get_or-take, length-take-le}
use Rattle.cssq_tree.specs.ParentsAndSiblings.{last_index, parent_index}

-- `r` is the last index of `xs` for which the test is true, if there is one
abbrev pub IsLast : (ℕ → Bool) → List ℕ → Option ℕ → Type 0
IsLast test xs r = MatchOption r
    ((k : ℕ) → k < length xs → test (get_or xs k 0) ≡ false)
    (λ i. (i < length xs) × (test (get_or xs i 0) ≡ true)
    × ((k : ℕ) → i < k → k < length xs → test (get_or xs k 0) ≡ false))

none_front : (test : ℕ → Bool) (x : ℕ) (xs : List ℕ) → test x ≡ false
    → ((k : ℕ) → k < length xs → test (get_or xs k 0) ≡ false) → (k : ℕ) → k < length (x ∷ xs)
    → test (get_or (x ∷ xs) k 0) ≡ false
none_front test x xs fails none zero lt = fails
none_front test x xs fails none (suc k) lt = none k (omega arith)

some_front : (test : ℕ → Bool) (x : ℕ) (xs : List ℕ) (i : ℕ)
    → ((k : ℕ) → i < k → k < length xs → test (get_or xs k 0) ≡ false) → (k : ℕ) → suc i < k
    → k < length (x ∷ xs) → test (get_or (x ∷ xs) k 0) ≡ false
some_front test x xs i following zero lt within = absurd (omega arith)
some_front test x xs i following (suc k) lt within = following k (omega arith) (omega arith)

first_front : (test : ℕ → Bool) (x : ℕ) (xs : List ℕ)
    → ((k : ℕ) → k < length xs → test (get_or xs k 0) ≡ false) → (k : ℕ) → 0 < k
    → k < length (x ∷ xs)
    → test (get_or (x ∷ xs) k 0) ≡ false
first_front test x xs none zero lt within = absurd (omega arith)
first_front test x xs none (suc k) lt within = none k (omega arith)

at_front : (test : ℕ → Bool) (x : ℕ) (xs : List ℕ) (b : Bool) → test x ≡ b
    → ((k : ℕ) → k < length xs → test (get_or xs k 0) ≡ false)
    → IsLast test (x ∷ xs) (cond b (Some 0) None)
at_front test x xs true passes none = (omega arith, passes, first_front test x xs none)
at_front test x xs false fails none = none_front test x xs fails none

after_front : (test : ℕ → Bool) (x : ℕ) (xs : List ℕ) (r : Option ℕ) → IsLast test xs r
    → IsLast test (x ∷ xs) (elim r [ Some i ↦ Some (suc i) | None ↦ cond (test x) (Some 0) None ])
after_front test x xs None none = at_front test x xs (test x) refl none
after_front test x xs (Some i) last = (omega (arith, last.0), last.1, some_front test x xs i last.2)

pub last_index_is : (test : ℕ → Bool) (xs : List ℕ) → IsLast test xs (last_index test xs)
last_index_is test [] = λ k lt. absurd (omega arith)
last_index_is test (x ∷ xs) = after_front test x xs (last_index test xs) (last_index_is test xs)

same_last : (test : ℕ → Bool) (xs : List ℕ) (r s : Option ℕ) → IsLast test xs r → IsLast test xs s
    → r ≡ s
same_last test xs None None p q = refl
same_last test xs None (Some j) p q = absurd (both_ways (test (get_or xs j 0)) (p j q.0) q.1)
same_last test xs (Some i) None p q = absurd (both_ways (test (get_or xs i 0)) (q i p.0) p.1)
same_last test xs (Some i) (Some j) p q =
    ⊎_elim (λ e. ap Some e)
    (⊎_elim (λ lt. absurd (both_ways (test (get_or xs j 0)) (p.2 j lt q.0) q.1))
    (λ lt. absurd (both_ways (test (get_or xs i 0)) (q.2 i lt p.0) p.1)))
    (cases_order i j)

pub last_index_of : (test : ℕ → Bool) (xs : List ℕ) (r : Option ℕ) → IsLast test xs r
    → r ≡ last_index test xs
last_index_of test xs r last = same_last test xs r (last_index test xs) last (last_index_is test xs)

-- every element after the candidate, or every one if there is none, is deeper
abbrev pub IsCandidate : List ℕ → ℕ → Option ℕ → Type 0
IsCandidate depths depth candidate = MatchOption candidate
    ((k : ℕ) → k < length depths → depth < get_or depths k 0)
    (λ i. (i < length depths) × ((k : ℕ) → i < k → k < length depths → depth < get_or depths k 0))

abbrev pub steps_left : Option ℕ → ℕ
steps_left None = 0
steps_left (Some i) = i + 1

not_le : (d e : ℕ) → e < d → nat_le d e ≡ false
not_le d e lt = grind (arith, nat_tests)

not_lt : (d e : ℕ) → nat_lt d e ≡ false → e ≤ d
not_lt d e fails = grind (arith, nat_tests)

is_le : (d e : ℕ) → d ≤ e → nat_le d e ≡ true
is_le d e le = grind (arith, nat_tests)

pub none_last : (depths : List ℕ) (depth : ℕ) → IsCandidate depths depth None
    → None ≡ last_index (λ d. nat_le d depth) depths
none_last depths depth deeper = last_index_of _ depths None (λ k lt. not_le _ _ (deeper k lt))

pub some_last : (depths : List ℕ) (depth i : ℕ) → IsCandidate depths depth (Some i)
    → get_or depths i 0 ≤ depth → Some i ≡ last_index (λ d. nat_le d depth) depths
some_last depths depth i deeper le =
    last_index_of _ depths (Some i)
    (deeper.0, is_le _ _ le, λ k lt within. not_le _ _ (deeper.1 k lt within))

-- of the elements before `i`, the one at `k`
before_at : (depths : List ℕ) (i k : ℕ) → i < length depths → k < i
    → (k < length (take i depths)) × (get_or (take i depths) k 0 ≡ get_or depths k 0)
before_at depths i k within before = (
  let le : i ≤ length depths = omega arith in rw (length-take-le i depths) before,
  get_or-take i depths k 0 before,
)

module _ (depths : List ℕ) (depth i : ℕ) (deeper : IsCandidate depths depth (Some i))
    (above : depth < get_or depths i 0) where
  -- no deeper than i before it, so deeper than the depth
  between : (k : ℕ) → k < i → nat_lt (get_or (take i depths) k 0) (get_or depths i 0) ≡ false
      → depth < get_or depths k 0
  between k before fails =
      let at = before_at depths i k deeper.0 before in
      let least : get_or depths i 0 ≤ get_or depths k 0 =
      subst (λ d. get_or depths i 0 ≤ d) at.1 (not_lt _ _ fails) in
      omega arith

  onwards : (k : ℕ) → k < length depths → (k < i → depth < get_or depths k 0)
      → depth < get_or depths k 0
  onwards k within before =
      ⊎_elim (λ e. subst (λ k. depth < get_or depths k 0) (sym e) above)
      (⊎_elim before (λ after. deeper.1 k after within)) (cases_order k i)

  parent_deeper : (r : Option ℕ) → IsLast (λ d. nat_lt d (get_or depths i 0)) (take i depths) r
      → IsCandidate depths depth r × (steps_left r < i + 1)
  parent_deeper None none = (
    λ k within. onwards k within
        (λ before. between k before (none k (before_at depths i k deeper.0 before).0)),
    omega arith,
  )
  parent_deeper (Some j) last =
      let le : i ≤ length depths = omega (arith, deeper.0) in
      let inside : j < i = (let lt = last.0 in rw (length-take-le i depths) at lt) in (
        (
          omega (arith, inside, le),
          λ k after within. onwards k within
              (λ before.
              between k before (last.2 k after (before_at depths i k deeper.0 before).0)),
        ),
        omega (arith, inside),
      )

  pub parent_candidate : (r : Option ℕ) → r ≡ parent_index depths i
      → IsCandidate depths depth r × (steps_left r < i + 1)
  parent_candidate r is =
      parent_deeper r
      (subst (λ r. IsLast (λ d. nat_lt d (get_or depths i 0)) (take i depths) r) (sym is)
      (last_index_is _ (take i depths)))
