-- Numbers in order, by a test of them.
-- Serves `RuleIndex::matching_counted` and `laws::answers_law` (indices in order, each once).
use Rattle.std.proofs.Common.{◌≡◌, ℕ, zero, suc, ◌+◌, ◌<◌, ◌≤◌, ◌↔◌, ◌⊎◌, inl, inr, List, [], ◌∷◌, Bool, true, false, cond, IsTrue, length, map, get_or, refl, sym, ap, ◌∙◌, subst, arith}
use Rattle.std.specs.List.{Contains, filter, sum_by, range_with_len, items_where_true}
use Rattle.std.specs.List.Sorted.{IsStrictlyIncreasing}
use Rattle.std.proofs.lemmas.Bool.{false≢true}
use Rattle.std.proofs.lemmas.List.Elements.{Contains-append_left, Contains-append_right, Contains-append_cases}
use Rattle.std.proofs.lemmas.List.FromFn.{fill_by_all}
use Rattle.std.proofs.lemmas.List.Sums.{sum_by-cons}
use Rattle.simplecss.specs.SelectorIndices.{AreTheIndices}
use Rattle.simplecss.proofs.Adding.{contains_none, contains_one}

pub contains_cons : {X : Type 0} (x : X) (xs : List X) (y : X)
    → Contains (x ∷ xs) y ↔ ((x ≡ y) ⊎ Contains xs y)
contains_cons x xs y = (
  λ c. elim (Contains-append_cases (x ∷ []) xs y c)
      [ inl h ↦ inl ((contains_one x y).0 h) | inr h ↦ inr h ],
  λ h. elim h [
    | inl e ↦ Contains-append_left (x ∷ []) xs y ((contains_one x y).1 e)
    | inr c ↦ Contains-append_right (x ∷ []) xs y c
  ],
)

-- the numbers rise, from a on
abbrev Rising : ℕ → List ℕ → Type 0
Rising a [] = Unit {0}
Rising a (x ∷ xs) = (a ≤ x) × Rising (x + 1) xs

rises : (a : ℕ) (xs : List ℕ) → (0 < length xs → a ≤ get_or xs 0 0) → IsStrictlyIncreasing xs
    → Rising a xs
rises a [] from up = tt
rises a (x ∷ xs) from up = (
  from (omega arith),
  rises (x + 1) xs (λ some. let h = up 0 (omega (arith, some)) in omega (arith, h))
      (λ k lt. at k (up (suc k) (omega (arith, lt)))),
)
  where
    at : (k : ℕ) → get_or xs k 0 < get_or (x ∷ xs) (suc k + 1) 0
        → get_or xs k 0 < get_or xs (k + 1) 0
    at k h =
        let next : suc k + 1 ≡ suc (k + 1) = omega arith in
        subst (λ m. get_or xs k 0 < get_or (x ∷ xs) m 0) next h

all_from : (a : ℕ) (xs : List ℕ) (y : ℕ) → Rising a xs → Contains xs y → a ≤ y
all_from a [] y r c = absurd (contains_none y c)
all_from a (x ∷ xs) y r c = elim ((contains_cons x xs y).0 c) [
  | inl e ↦ let l = r.0 in omega (arith, e, l)
  | inr h ↦ let l = r.0 in let m = all_from (x + 1) xs y r.1 h in omega (arith, l, m)
]

module _ (test : ℕ → Bool) where
  -- rising numbers are those of a range that pass a test
  abbrev IsPassed : ℕ → ℕ → ℕ → Type 0
  IsPassed a n x = (a ≤ x) × (x < a + n) × (test x ≡ true)

  -- the same, one further, where the first number of the range passes the test, and where it
  -- does not
  with_first : (n a x : ℕ) (xs : List ℕ) → test a ≡ true → Rising a (x ∷ xs)
      → ((y : ℕ) → Contains (x ∷ xs) y ↔ IsPassed a (suc n) y)
      → (a ≡ x) × ((y : ℕ) → Contains xs y ↔ IsPassed (a + 1) n y)
  with_first n a x xs e r are = (first, λ y. (there y, back y))
    where
      first : a ≡ x
      first = elim ((contains_cons x xs a).0 ((are a).1 (omega arith, omega arith, e))) [
        | inl same ↦ sym same
        | inr later ↦
            let l = r.0 in
            let m = all_from (x + 1) xs a r.1 later in
            absurd (omega (arith, l, m))
      ]

      there : (y : ℕ) → Contains xs y → IsPassed (a + 1) n y
      there y c =
          let m = all_from (x + 1) xs y r.1 c in
          let h = (are y).0 ((contains_cons x xs y).1 (inr c)) in
          (omega (arith, m, first), omega (arith, h.1), h.2)

      back : (y : ℕ) → IsPassed (a + 1) n y → Contains xs y
      back y h = elim ((contains_cons x xs y).0
          ((are y).1 (omega (arith, h.0), omega (arith, h.1), h.2))) [
            | inl same ↦ let l = h.0 in absurd (omega (arith, same, l, first))
            | inr later ↦ later
          ]

  without_first : (n a : ℕ) (xs : List ℕ) → test a ≡ false → Rising a xs
      → ((y : ℕ) → Contains xs y ↔ IsPassed a (suc n) y)
      → Rising (a + 1) xs × ((y : ℕ) → Contains xs y ↔ IsPassed (a + 1) n y)
  without_first n a xs e r are = (
    further xs r (λ y c. other y ((are y).0 c)),
    λ y. (
      λ c. let h = (are y).0 c in (other y h, omega (arith, h.1), h.2),
      λ h. (are y).1 (omega (arith, h.0), omega (arith, h.1), h.2),
    ),
  )
    where
      cases : (y : ℕ) → a ≤ y → (a ≡ y) ⊎ (a + 1 ≤ y)
      cases y le = grind arith

      other : (y : ℕ) → IsPassed a (suc n) y → a + 1 ≤ y
      other y h = elim (cases y h.0)
          [ inl same ↦ absurd (false≢true (sym e ∙ ap test same ∙ h.2)) | inr lt ↦ lt ]

      further : (xs : List ℕ) → Rising a xs → ((y : ℕ) → Contains xs y → a + 1 ≤ y)
          → Rising (a + 1) xs
      further [] r above = tt
      further (x ∷ xs) r above = (above x ((contains_cons x xs x).1 (inl refl)), r.1)

  are_passed : (n a : ℕ) (xs : List ℕ) → Rising a xs → ((x : ℕ) → Contains xs x ↔ IsPassed a n x)
      → xs ≡ filter test (range_with_len a n)
  are_passed zero a [] r are = refl
  are_passed zero a (x ∷ xs) r are =
      let h = (are x).0 ((contains_cons x xs x).1 (inl refl)) in
      absurd (omega (arith, h.0, h.1))
  are_passed (suc n) a xs r are = at (are_passed n (a + 1)) (test a) refl xs r are
    where
      at : ((xs : List ℕ) → Rising (a + 1) xs → ((x : ℕ) → Contains xs x ↔ IsPassed (a + 1) n x)
          → xs ≡ filter test (range_with_len (a + 1) n)) → (b : Bool) → test a ≡ b → (xs : List ℕ)
          → Rising a xs → ((x : ℕ) → Contains xs x ↔ IsPassed a (suc n) x)
          → xs ≡ cond b (a ∷ filter test (range_with_len (a + 1) n))
          (filter test (range_with_len (a + 1) n))
      at rest true e [] r are = absurd (contains_none a ((are a).1 (omega arith, omega arith, e)))
      at rest true e (x ∷ xs) r are =
          let h = with_first n a x xs e r are in
          let rising : Rising (a + 1) xs = subst (λ y. Rising (y + 1) xs) (sym h.0) r.1 in
          ap (λ y. y ∷ xs) (sym h.0) ∙ ap (λ ys. a ∷ ys) (rest xs rising h.1)
      at rest false e xs r are = let h = without_first n a xs e r are in rest xs h.0 h.1

  pub indices_are : (n : ℕ) (indices : List ℕ)
      → AreTheIndices (λ index. IsTrue (test index)) n indices
      → indices ≡ filter test (range_with_len 0 n)
  indices_are n indices are =
      are_passed n 0 indices (rises 0 indices (λ some. omega arith) are.ascending) (λ x. (
        λ c. let h = (are.exactly x).0 c in (omega arith, omega (arith, h.0), h.1),
        λ h. (are.exactly x).1 (omega (arith, h.1), h.2),
      ))

  pub reported_by : (xs : List ℕ) → items_where_true (map test xs) xs ≡ filter test xs
  reported_by [] = refl
  reported_by (x ∷ xs) = at (test x) (reported_by xs)
    where
      at : (b : Bool) → items_where_true (map test xs) xs ≡ filter test xs
          → items_where_true (b ∷ map test xs) (x ∷ xs)
          ≡ cond b (x ∷ filter test xs) (filter test xs)
      at true e = ap (λ ys. x ∷ ys) e
      at false e = e

-- a sum over the numbers whose values pass a test is one over the values that do
pub sum_of_values : {V : Type 0} (value : ℕ → V) (test : V → Bool) (f : V → ℕ) (xs : List ℕ)
    → sum_by (λ x. f (value x)) (filter (λ x. test (value x)) xs)
    ≡ sum_by f (filter test (map value xs))
sum_of_values value test f [] = refl
sum_of_values value test f (x ∷ xs) = at (test (value x)) (sum_of_values value test f xs)
  where
    at : (b : Bool)
        → sum_by (λ x. f (value x)) (filter (λ x. test (value x)) xs)
        ≡ sum_by f (filter test (map value xs))
        → sum_by (λ x. f (value x))
        (cond b (x ∷ filter (λ x. test (value x)) xs) (filter (λ x. test (value x)) xs))
        ≡ sum_by f (cond b (value x ∷ filter test (map value xs)) (filter test (map value xs)))
    at true e = sum_by-cons (λ x. f (value x)) x (filter (λ x. test (value x)) xs)
        ∙ ap (λ n. f (value x) + n) e ∙ sym (sum_by-cons f (value x) (filter test (map value xs)))
    at false e = e

-- the values of a list at all its indices
pub values_at : {V : Type 0} (vs : List V) (d : V)
    → map (λ k. get_or vs k d) (range_with_len 0 (length vs)) ≡ vs
values_at vs d = sym (fill_by_all (λ k. get_or vs k d) vs (length vs) d refl (λ k lt. refl))
