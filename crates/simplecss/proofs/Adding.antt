-- Indices that are added to others.
-- Serves `RuleIndex::matching_counted` (indices are gathered from chains).
use Rattle.std.proofs.Common.{◌≡◌, ℕ, zero, suc, ◌<◌, ◌↔◌, ◌⊎◌, get_or, inl, inr, List, [], ◌∷◌, ◌++◌, sym, ap, ◌∙◌, subst, arith, append_assoc, append-nil}
use Rattle.std.specs.List.{Contains}
use Rattle.std.proofs.lemmas.List.Elements.{Contains-append_left, Contains-append_right, Contains-append_cases}
use Rattle.simplecss.specs.SelectorIndices.{Adds}

pub contains_none : {X : Type 0} (x : X) → Contains [] x → ⊥
contains_none x c = omega (arith, c.1)

pub contains_one : {X : Type 0} (x y : X) → Contains (x ∷ []) y ↔ (x ≡ y)
contains_one x y = (λ c. only c.0 c.1 c.2, λ e. (0, omega arith, e))
  where
    only : (k : ℕ) → k < 1 → get_or (x ∷ []) k y ≡ y → x ≡ y
    only zero lt e = e
    only (suc k) lt e = absurd (omega (arith, lt))

pub adds_none : (old : List ℕ) (P : ℕ → Type 0) → ((index : ℕ) → P index → ⊥) → Adds old old P
adds_none old P none = (
  [],
  sym (append-nil old),
  λ index. (λ c. absurd (contains_none index c), λ h. absurd (none index h)),
)

pub adds_one : (old new : List ℕ) (x : ℕ) → new ≡ old ++ x ∷ [] → Adds old new (λ index. x ≡ index)
adds_one old new x e = (x ∷ [], e, contains_one x)

pub adds_then : {P Q : ℕ → Type 0} (a b c : List ℕ) → Adds a b P → Adds b c Q
    → Adds a c (λ index. P index ⊎ Q index)
adds_then {P} {Q} a b c (m, e, p) (n, f, q) =
    (m ++ n, f ∙ ap (λ xs. xs ++ n) e ∙ append_assoc a m n, both)
  where
    both : (index : ℕ) → Contains (m ++ n) index ↔ (P index ⊎ Q index)
    both index = (
      λ h. elim (Contains-append_cases m n index h)
          [ inl x ↦ inl ((p index).0 x) | inr y ↦ inr ((q index).0 y) ],
      λ h. elim h [
        | inl x ↦ Contains-append_left m n index ((p index).1 x)
        | inr y ↦ Contains-append_right m n index ((q index).1 y)
      ],
    )

pub adds_as : {P Q : ℕ → Type 0} (old new : List ℕ) → ((index : ℕ) → P index ↔ Q index)
    → Adds old new P → Adds old new Q
adds_as old new same (m, e, p) =
    (m, e, λ index. (λ c. (same index).0 ((p index).0 c), λ h. (p index).1 ((same index).1 h)))

-- what a list holds to which indices were added
pub added : {P : ℕ → Type 0} (old new : List ℕ) → Adds old new P → (index : ℕ)
    → Contains new index ↔ (Contains old index ⊎ P index)
added {P} old new (m, e, p) index =
    subst (λ xs. Contains xs index ↔ (Contains old index ⊎ P index)) (sym e) (
      λ h. elim (Contains-append_cases old m index h)
          [ inl x ↦ inl x | inr y ↦ inr ((p index).0 y) ],
      λ h. elim h [
        | inl x ↦ Contains-append_left old m index x
        | inr y ↦ Contains-append_right old m index ((p index).1 y)
      ],
    )
