-- Texts that are cut one after another. Serves `policy_of_texts`.
use Rattle.std.proofs.Common.{◌≡◌, ◌≤◌, ◌-◌, ◌++◌, List, [], ◌∷◌, length, map, drop, take, slice_index_or, sym, ap, ◌∙◌, arith}
use Rattle.std.proofs.lemmas.List.{map-append, take_all}

-- a list of two items or more is the first, the second and the rest
pub two-first : {A : Type 0} (d : A) (xs : List A) → 2 ≤ length xs
    → xs ≡ slice_index_or xs 0 d ∷ slice_index_or xs 1 d ∷ take (length xs - 2) (drop 2 xs)
two-first d [] h = absurd (grind (arith))
two-first d (x ∷ []) h = absurd (grind (arith))
two-first d (x ∷ y ∷ xs) h =
    ap (λ more. x ∷ y ∷ more) (sym (take_all (length (x ∷ y ∷ xs) - 2) xs (grind (arith))))

-- what is made of each item of a list that is cut, where it is known of the rest
pub map-cut : {A B : Type 0} (f : A → B) (xs front rest : List A) (made : List B) → xs ≡ front ++ rest
    → map f rest ≡ made → map f xs ≡ map f front ++ made
map-cut f xs front rest made cut is =
    ap (map f) cut ∙ map-append f front rest ∙ ap (λ more. map f front ++ more) is
