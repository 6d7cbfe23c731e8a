-- The least number that passes.
-- Serves `blocks::closing_offset` (where a block ends) and `laws::cutting_law`.
use Rattle.std.proofs.Common.{◌≡◌, ℕ, zero, suc, ◌<◌, ◌≤◌, Bool, true, false, if◌then◌else◌, nat_lt, arith, refl, lt-ltb, le-ltb, sym, eq-or-lt_of_le, le_of_suc-le-suc, ◌⊎◌, inl, inr, subst, ltb-true, ltb-false}
use Rattle.simplecss_grammar.specs.Blocks.{least}

pub least-none : (p : ℕ → Bool) (n : ℕ) → ((j : ℕ) → j < n → p j ≡ false) → least p n ≡ n
least-none p zero fails = refl
least-none p (suc n) fails =
    let below : least p n ≡ n = least-none p n (λ j h. fails j (omega arith)) in
    let here : p n ≡ false = fails n (omega arith) in
    let rest : nat_lt (least p n) n ≡ false = le-ltb _ _ (omega arith) in
    simp (rest, here)

pub least-is : (p : ℕ → Bool) (n k : ℕ) → k < n → p k ≡ true → ((j : ℕ) → j < k → p j ≡ false)
    → least p n ≡ k
least-is p zero k h passes fails = absurd (omega arith)
least-is p (suc n) k h passes fails =
    elim (split h) [
      | inl at ↦
          let below : least p n ≡ n = least-none p n (λ j l. fails j (omega arith)) in
          let rest : nat_lt (least p n) n ≡ false = le-ltb _ _ (omega arith) in
          let here : p n ≡ true = subst (λ i. p i ≡ true) at passes in
          simp (rest, here) (sym at)
      | inr lt ↦
          let below : least p n ≡ k = least-is p n k lt passes fails in
          let rest : nat_lt (least p n) n ≡ true = lt-ltb _ _ (omega arith) in
          simp rest below
    ]
  where
    split : k < suc n → (k ≡ n) ⊎ (k < n)
    split l = eq-or-lt_of_le (le_of_suc-le-suc l)

pub least-le : (p : ℕ → Bool) (n : ℕ) → least p n ≤ n
least-le p zero = omega arith
least-le p (suc n) = by (nat_lt (least p n) n) (p n) (least-le p n)
  where
    by : (a b : Bool) → least p n ≤ n → (if a then least p n else (if b then n else suc n)) ≤ suc n
    by true b h = omega arith
    by false true h = omega arith
    by false false h = omega arith

pub least-passes : (p : ℕ → Bool) (n : ℕ) → least p n < n → p (least p n) ≡ true
least-passes p zero h = absurd (omega arith)
least-passes p (suc n) h = by (nat_lt (least p n) n) (p n) refl refl (least-passes p n) h
  where
    by : (a b : Bool) → nat_lt (least p n) n ≡ a → p n ≡ b → (least p n < n → p (least p n) ≡ true)
        → (if a then least p n else (if b then n else suc n)) < suc n
        → p ((if a then least p n else (if b then n else suc n))) ≡ true
    by true b e f ih h = ih (ltb-true _ _ e)
    by false true e f ih h = f
    by false false e f ih h = absurd (omega arith)

pub least-before : (p : ℕ → Bool) (n j : ℕ) → j < least p n → p j ≡ false
least-before p zero j h = absurd (omega arith)
least-before p (suc n) j h = by (nat_lt (least p n) n) (p n) refl refl (least-before p n j) h
  where
    by : (a b : Bool) → nat_lt (least p n) n ≡ a → p n ≡ b → (j < least p n → p j ≡ false)
        → j < (if a then least p n else (if b then n else suc n)) → p j ≡ false
    by true b e f ih h = ih h
    by false true e f ih h = ih (omega (arith, ltb-false (least p n) n e))
    by false false e f ih h =
        elim (eq-or-lt_of_le (le_of_suc-le-suc h)) [
          | inl at ↦ subst (λ i. p i ≡ false) (sym at) f
          | inr lt ↦ ih (omega (arith, ltb-false (least p n) n e))
        ]
