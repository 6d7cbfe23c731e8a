-- What holds of each item of a list, by its place.
-- Serves `nested_lists_law` and `numbered_lists_law`.
use Rattle.std.proofs.Common.{◌≡◌, ℕ, zero, suc, ◌<◌, List, [], ◌∷◌, ◌++◌, length, length-append, get_or, arith, sym, ap, subst, ◌⊎◌, inl, inr}
use Rattle.std.proofs.Math.Seq.{get_or-append_seam}
use Rattle.std.proofs.lemmas.List.{get_or_append_left}

last_or_before : (k n : ℕ) → k < suc n → (k < n) ⊎ (k ≡ n)
last_or_before k zero h = inr (omega (arith, h))
last_or_before zero (suc n) h = inl (omega arith)
last_or_before (suc k) (suc n) h =
    elim (last_or_before k n (omega (arith, h))) [
      | inl less ↦ inl (omega (arith, less))
      | inr same ↦ inr (ap suc same)
    ]

-- one item more
pub each-of-more : {A : Type 0} (d : A) (xs : List A) (x : A) (P : ℕ → A → Type 0)
    → ((k : ℕ) → k < length xs → P k (get_or xs k d)) → P (length xs) x
    → (k : ℕ) → k < length (xs ++ x ∷ []) → P k (get_or (xs ++ x ∷ []) k d)
each-of-more d xs x P each last k less =
    elim (last_or_before k (length xs) (omega (arith, less, length-append xs (x ∷ [])))) [
      | inl h ↦ subst (P k) (sym (get_or_append_left xs (x ∷ []) d k h)) (each k h)
      | inr e ↦
          subst (λ (n : ℕ). P n (get_or (xs ++ x ∷ []) n d)) (sym e)
          (subst (P (length xs)) (sym (get_or-append_seam xs x [] d)) last)
    ]
