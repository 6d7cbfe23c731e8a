-- A list, item by item.
use Rattle.std.proofs.Common.{◌≡◌, List, [], ◌∷◌, refl, ap, sym, ◌∙◌}

-- the same items
abbrev pub same : {A : Type 0} → List A → List A
same [] = []
same (x ∷ xs) = x ∷ same xs

pub same_is : {A : Type 0} (xs : List A) → same xs ≡ xs
same_is [] = refl
same_is (x ∷ xs) = ap (λ ys. x ∷ ys) (same_is xs)

pub same_all : {A : Type 0} (xs ys : List A) → same xs ≡ same ys → xs ≡ ys
same_all xs ys e = sym (same_is xs) ∙ e ∙ same_is ys
