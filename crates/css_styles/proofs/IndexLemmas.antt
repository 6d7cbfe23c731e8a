-- Elements at indices, and indices that rise.
-- Serves `style_rules::{read_all, StyleRules::stated}`, `Styles::{winners, winners_named}` and the laws of `laws`.
use Rattle.std.proofs.Common.{◌≡◌, ℕ, zero, suc, ◌+◌, ◌<◌, ◌≤◌, List, [], ◌∷◌, length, get_or, Some, refl, subst, arith}
use Rattle.std.specs.List.{slice_get}
use Rattle.std.specs.List.Sorted.{IsStrictlyIncreasing}

-- the numbers rise, from a on
abbrev pub Rising : ℕ → List ℕ → Type 0
Rising a [] = Unit {0}
Rising a (x ∷ xs) = (a ≤ x) × Rising (x + 1) xs

pub rises : (a : ℕ) (xs : List ℕ) → (0 < length xs → a ≤ get_or xs 0 0) → IsStrictlyIncreasing xs
    → Rising a xs
rises a [] from up = tt
rises a (x ∷ xs) from up = (
  from (omega arith),
  rises (x + 1) xs (λ some. let h = up 0 (omega (arith, some)) in omega (arith, h))
      (λ k lt. at k (up (suc k) (omega (arith, lt)))),
)
  where
    at : (k : ℕ) → get_or xs k 0 < get_or (x ∷ xs) (suc k + 1) 0
        → get_or xs k 0 < get_or xs (k + 1) 0
    at k h =
        let next : suc k + 1 ≡ suc (k + 1) = omega arith in
        subst (λ m. get_or xs k 0 < get_or (x ∷ xs) m 0) next h

pub get-within : {X : Type 0} (xs : List X) (k : ℕ) → k < length xs → (x : X) × (slice_get xs k ≡ Some x)
get-within [] k l = absurd (omega (arith, l))
get-within (x ∷ xs) zero l = (x, refl)
get-within (x ∷ xs) (suc k) l = get-within xs k (omega (arith, l))

pub get-past : {X : Type 0} (xs : List X) (k : ℕ) (x : X) → slice_get xs k ≡ Some x → k < length xs
get-past [] k x e = absurd (cc)
get-past (y ∷ xs) zero x e = omega arith
get-past (y ∷ xs) (suc k) x e = let l = get-past xs k x e in omega (arith, l)
