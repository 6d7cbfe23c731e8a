-- A list whose items are written one after another.
-- Serves `sheet_order::rank`.
use Rattle.std.proofs.Common.{◌≡◌, ◌∙◌, ℕ, ◌+◌, ◌<◌, ◌++◌, List, [], ◌∷◌, length, map, take, drop, set, get_or, arith, sym, ap}
use Rattle.std.proofs.lemmas.List.{drop-drop, drop-set-lt, get_or-drop, length-drop, map-append, take_more, take_more_set}

module _ {A : Type 0} (i : ℕ) (xs ys : List A) (same : drop i xs ≡ drop i ys) where
  written-within : i < length xs → i < length ys
  written-within less =
      omega (arith, ap length same, length-drop i xs, length-drop i ys)

  written-here : (d : A) → get_or xs i d ≡ get_or ys i d
  written-here d =
      let none : i + 0 ≡ i = omega arith in
      ap (λ (n : ℕ). get_or xs n d) (sym none) ∙ sym (get_or-drop i xs 0 d)
      ∙ ap (λ (l : List A). get_or l 0 d) same
      ∙ get_or-drop i ys 0 d ∙ ap (λ (n : ℕ). get_or ys n d) none

  -- what is after the one that is written
  pub written-others : (x : A) → drop (i + 1) (set xs i x) ≡ drop (i + 1) ys
  written-others x =
      drop-set-lt (i + 1) xs i x (omega arith) ∙ sym (drop-drop 1 i xs) ∙ ap (drop 1) same
      ∙ drop-drop 1 i ys

  -- what is written up to that one
  pub written-more : {B : Type 0} (f : A → B) (g : B → B) (x d : A) → i < length xs
      → map f (take i xs) ≡ map g (map f (take i ys)) → f x ≡ g (f (get_or xs i d))
      → map f (take (i + 1) (set xs i x)) ≡ map g (map f (take (i + 1) ys))
  written-more {B = B} f g x d less done e =
      ap (map f) (take_more_set xs i x less) ∙ map-append f (take i xs) (x ∷ [])
      ∙ ap (λ (l : List B). l ++ f x ∷ []) done
      ∙ ap (λ (y : B). map g (map f (take i ys)) ++ y ∷ [])
      (e ∙ ap (λ (y : A). g (f y)) (written-here d))
      ∙ sym (ap (λ (l : List A). map g (map f l)) (take_more ys i d (written-within less))
      ∙ ap (map g) (map-append f (take i ys) (get_or ys i d ∷ []))
      ∙ map-append g (map f (take i ys)) (f (get_or ys i d) ∷ []))
