-- What is left of a list after its first element.
-- Serves `one_property::winning`.
use Rattle.std.proofs.Common.{◌≡◌, ℕ, ◌+◌, ◌-◌, ◌≤◌, List, [], ◌∷◌, length, take, drop, get_or, sym, ap, ◌∙◌, arith}
use Rattle.std.proofs.lemmas.List.{take_all}

module _ {X : Type 0} where
  pub first-of : (rest : List X) (n : ℕ) (d x : X) → 1 ≤ length rest → n ≡ length rest - 1
      → x ≡ get_or rest 0 d → rest ≡ x ∷ take n (drop 1 rest)
  first-of [] n d x l e is = absurd (omega (arith, l))
  first-of (y ∷ ys) n d x l e is =
      let all : take n ys ≡ ys = take_all n ys (omega (arith, e)) in
      ap (λ (z : X). z ∷ ys) (sym is) ∙ ap (λ zs. x ∷ zs) (sym all)

  pub counted-step : (rest : List X) (n place total : ℕ) → 1 ≤ length rest → n ≡ length rest - 1
      → place + length rest ≡ total → place + 1 + length (take n (drop 1 rest)) ≡ total
  counted-step [] n place total l e c = absurd (omega (arith, l))
  counted-step (y ∷ ys) n place total l e c =
      let all : length (take n (drop 1 (y ∷ ys))) ≡ length ys =
      ap length (take_all n ys (omega (arith, e))) in
      omega (arith, all, c)
