-- Which of the numbers of a list are kept that pass a test.
-- Serves `SelectorIndex::matching` and `SelectorWalk::matching`.
use Rattle.std.proofs.Common.{◌≡◌, ℕ, zero, suc, ◌<◌, ◌↔◌, ◌⊎◌, inl, inr, Bool, true, false, IsTrue, List, [], ◌∷◌, ◌++◌, length, get_or, refl, sym, ap, subst, arith}
use Rattle.std.specs.Prelude.{⊤, if◌then◌else◌}
use Rattle.std.specs.List.{Contains, AllByRecursion, items_where_true}
use Rattle.std.specs.List.Retain.{IsFiltered, ReturnsInTurn}
use Rattle.std.specs.List.Sorted.{IsStrictlyIncreasing, IsStrictlySortedBy}
use Rattle.std.specs.Ordering.{nat_cmp}
use Rattle.std.proofs.lemmas.List.Elements.{Contains-append_left, Contains-append_right, Contains-append_cases}
use Rattle.std.proofs.lemmas.Map.Keys.{sorted_from_strictly_increasing, IsStrictlyIncreasing-from_sorted}

pub contains_none : {X : Type 0} (x : X) → Contains [] x → ⊥
contains_none x c = let l = c.1 in omega (arith, l)

pub contains_cons : {X : Type 0} (x : X) (xs : List X) (y : X)
    → Contains (x ∷ xs) y ↔ ((x ≡ y) ⊎ Contains xs y)
contains_cons x xs y = (
  λ c. elim (Contains-append_cases (x ∷ []) xs y c)
      [ inl h ↦ inl (only h.0 h.1 h.2) | inr h ↦ inr h ],
  λ h. elim h [
    | inl e ↦ Contains-append_left (x ∷ []) xs y (0, omega arith, e)
    | inr c ↦ Contains-append_right (x ∷ []) xs y c
  ],
)
  where
    only : (k : ℕ) → k < 1 → get_or (x ∷ []) k y ≡ y → x ≡ y
    only zero lt e = e
    only (suc k) lt e = absurd (omega (arith, lt))

-- for each number, whether it is wanted
abbrev pub AreAnswers : (ℕ → Type 0) → List Bool → List ℕ → Type 0
AreAnswers P [] [] = ⊤
AreAnswers P [] (x ∷ xs) = ⊥
AreAnswers P (b ∷ bs) [] = ⊥
AreAnswers P (b ∷ bs) (x ∷ xs) = (IsTrue b ↔ P x) × AreAnswers P bs xs

all_kept : (Q : ℕ → Type 0) (bs : List Bool) (xs : List ℕ) → AllByRecursion Q xs
    → AllByRecursion Q (items_where_true bs xs)
all_kept Q [] xs all = tt
all_kept Q (b ∷ bs) [] all = tt
all_kept Q (true ∷ bs) (x ∷ xs) all = (all.0, all_kept Q bs xs all.1)
all_kept Q (false ∷ bs) (x ∷ xs) all = all_kept Q bs xs all.1

sorted_kept : (bs : List Bool) (xs : List ℕ) → IsStrictlySortedBy nat_cmp xs
    → IsStrictlySortedBy nat_cmp (items_where_true bs xs)
unfolding IsStrictlySortedBy
sorted_kept [] xs up = tt
sorted_kept (b ∷ bs) [] up = tt
sorted_kept (true ∷ bs) (x ∷ xs) up = (all_kept _ bs xs up.0, sorted_kept bs xs up.1)
sorted_kept (false ∷ bs) (x ∷ xs) up = sorted_kept bs xs up.1

-- those that are kept rise, as the others
pub chosen_ascending : (bs : List Bool) (xs : List ℕ) → IsStrictlyIncreasing xs
    → IsStrictlyIncreasing (items_where_true bs xs)
chosen_ascending bs xs up =
    IsStrictlyIncreasing-from_sorted _ (sorted_kept bs xs (sorted_from_strictly_increasing xs up))

module _ (P : ℕ → Type 0) where
  -- exactly the wanted ones are kept
  pub chosen_exactly : (bs : List Bool) (xs : List ℕ) → AreAnswers P bs xs → (y : ℕ)
      → Contains (items_where_true bs xs) y ↔ (Contains xs y × P y)
  chosen_exactly [] [] are y =
      (λ c. absurd (contains_none y c), λ h. absurd (contains_none y h.0))
  chosen_exactly [] (x ∷ xs) are y = absurd are
  chosen_exactly (b ∷ bs) [] are y = absurd are
  chosen_exactly (true ∷ bs) (x ∷ xs) are y =
      let ih = chosen_exactly bs xs are.1 y in
      let kept = are.0.0 refl in (
        λ c. elim ((contains_cons x (items_where_true bs xs) y).0 c) [
          | inl e ↦ ((contains_cons x xs y).1 (inl e), subst P e kept)
          | inr k ↦ ((contains_cons x xs y).1 (inr (ih.0 k).0), (ih.0 k).1)
        ],
        λ h. elim ((contains_cons x xs y).0 h.0) [
          | inl e ↦ (contains_cons x (items_where_true bs xs) y).1 (inl e)
          | inr k ↦ (contains_cons x (items_where_true bs xs) y).1 (inr (ih.1 (k, h.1)))
        ],
      )
  chosen_exactly (false ∷ bs) (x ∷ xs) are y =
      let ih = chosen_exactly bs xs are.1 y in (
        λ c. ((contains_cons x xs y).1 (inr (ih.0 c).0), (ih.0 c).1),
        λ h. elim ((contains_cons x xs y).0 h.0) [
          | inl e ↦ absurd (let no : IsTrue false = are.0.1 (subst P (sym e) h.1) in cc)
          | inr k ↦ ih.1 (k, h.1)
        ],
      )

  -- one more answer
  pub answers_push : (bs : List Bool) (xs : List ℕ) (b : Bool) (x : ℕ) → AreAnswers P bs xs
      → (IsTrue b ↔ P x) → AreAnswers P (bs ++ b ∷ []) (xs ++ x ∷ [])
  answers_push [] [] b x are one = (one, tt)
  answers_push [] (y ∷ xs) b x are one = absurd are
  answers_push (c ∷ bs) [] b x are one = absurd are
  answers_push (c ∷ bs) (y ∷ xs) b x are one = (are.0, answers_push bs xs b x are.1 one)

  last_chosen : (b : Bool) (x : ℕ)
      → items_where_true (b ∷ []) (x ∷ []) ≡ (if b then x ∷ [] else [])
  last_chosen true x = refl
  last_chosen false x = refl

  pub chosen_push : (bs : List Bool) (xs : List ℕ) (b : Bool) (x : ℕ) → AreAnswers P bs xs
      → items_where_true (bs ++ b ∷ []) (xs ++ x ∷ [])
      ≡ items_where_true bs xs ++ (if b then x ∷ [] else [])
  chosen_push [] [] b x are = last_chosen b x
  chosen_push [] (y ∷ xs) b x are = absurd are
  chosen_push (c ∷ bs) [] b x are = absurd are
  chosen_push (true ∷ bs) (y ∷ xs) b x are = ap (λ ys. y ∷ ys) (chosen_push bs xs b x are.1)
  chosen_push (false ∷ bs) (y ∷ xs) b x are = chosen_push bs xs b x are.1

-- a test that is true exactly for the wanted numbers, and does not change
module _ {F : Type 0} (R : F → ℕ → Bool → F → Type 0) (P : ℕ → Type 0) (f : F)
    (says : (x : ℕ) (b : Bool) (g : F) → R f x b g → (IsTrue b ↔ P x) × (g ≡ f)) where
  answers_in_turn : (g : F) (bs : List Bool) (xs : List ℕ) → length bs ≡ length xs
      → ReturnsInTurn R f bs xs g → AreAnswers P bs xs
  answers_in_turn g [] [] len turn = tt
  answers_in_turn g [] (x ∷ xs) len turn = absurd (omega (arith, len))
  answers_in_turn g (b ∷ bs) [] len turn = absurd (omega (arith, len))
  answers_in_turn g (b ∷ bs) (x ∷ xs) len turn =
      let one = says x b turn.0 turn.1 in (
        one.0,
        answers_in_turn g bs xs (cc) (subst (λ j. ReturnsInTurn R j bs xs g) one.1 turn.2),
      )

  pub ascending_kept : (xs ys : List ℕ) → IsFiltered R f xs ys → IsStrictlyIncreasing xs
      → IsStrictlyIncreasing ys
  ascending_kept xs ys (bs, g, len, turn, is) up =
      subst IsStrictlyIncreasing (sym is) (chosen_ascending bs xs up)

  pub kept_exactly : (xs ys : List ℕ) → IsFiltered R f xs ys → (y : ℕ)
      → Contains ys y ↔ (Contains xs y × P y)
  kept_exactly xs ys (bs, g, len, turn, is) y =
      subst (λ zs. Contains zs y ↔ (Contains xs y × P y)) (sym is)
      (chosen_exactly P bs xs (answers_in_turn g bs xs len turn) y)
