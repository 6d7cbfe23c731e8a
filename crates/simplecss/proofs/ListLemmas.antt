-- Lists that are seen through a function.
-- Serves `StyleSheet::clone` (each rule is copied).
use Rattle.std.proofs.Common.{◌≡◌, ℕ, ◌+◌, ◌<◌, List, [], ◌∷◌, ◌++◌, length, get_or, take, map, ap, ◌∙◌, sym}
use Rattle.std.proofs.lemmas.List.{take_more, map-append}

-- a loop that pushes a copy of each element, seen by f
pub copied_more : {X Y : Type 0} (f : X → Y) (xs ys : List X) (i : ℕ) (x y : X) → i < length xs
    → x ≡ get_or xs i x → map f ys ≡ map f (take i xs) → f y ≡ f x
    → map f (ys ++ y ∷ []) ≡ map f (take (i + 1) xs)
copied_more f xs ys i x y h is so_far same =
    map-append f ys (y ∷ []) ∙ ap (λ l. l ++ f y ∷ []) so_far
    ∙ ap (λ z. map f (take i xs) ++ z ∷ []) (same ∙ ap f is)
    ∙ sym (map-append f (take i xs) (get_or xs i x ∷ [])) ∙ ap (map f) (sym (take_more xs i x h))
