-- Whether one of a list is wanted, as the code goes through the list by index.
-- Serves `meeting::has_spaced`.
use Rattle.std.proofs.Common.{◌≡◌, ℕ, zero, suc, ◌+◌, ◌≤◌, ◌<◌, Bool, true, false, ◌||◌, List, [], ◌∷◌, drop, length, Some, None, refl, sym, ap, ◌∙◌, arith}
use Rattle.std.proofs.lemmas.List.{drop_more}
use Rattle.std.proofs.lemmas.Option.{slice_get_within, get_or_from_slice_get}
use Rattle.std.specs.List.{list_any, slice_get}

past : {A : Type 0} (xs : List A) (i : ℕ) → None ≡ slice_get xs i → drop i xs ≡ []
past [] zero h = refl
past [] (suc i) h = refl
past (x ∷ xs) zero h = absurd (cc)
past (x ∷ xs) (suc i) h = past xs i h

module _ {A : Type 0} (wanted : A → Bool) (all : List A) (i : ℕ) where
  pub is_within : (x : A) → Some x ≡ slice_get all i → i < length all
  is_within x h = slice_get_within all i x (sym h)

  step : (x : A) → Some x ≡ slice_get all i
      → list_any wanted (drop i all) ≡ (wanted x || list_any wanted (drop (i + 1) all))
  step x h =
      ap (list_any wanted) (drop_more all i x (is_within x h)
      ∙ ap (λ y. y ∷ drop (i + 1) all) (get_or_from_slice_get all i x x (sym h)))

  pub is_found : (x : A) (b : Bool) → Some x ≡ slice_get all i → b ≡ wanted x → b ≡ true
      → list_any wanted (drop i all) ≡ list_any wanted all → true ≡ list_any wanted all
  is_found x b h is there same =
      sym (ap (λ t. t || list_any wanted (drop (i + 1) all)) (sym is ∙ there)) ∙ sym (step x h) ∙ same

  pub is_passed : (x : A) (b : Bool) → Some x ≡ slice_get all i → b ≡ wanted x → b ≡ false
      → list_any wanted (drop i all) ≡ list_any wanted all
      → (i + 1 ≤ length all) × (list_any wanted (drop (i + 1) all) ≡ list_any wanted all)
  is_passed x b h is there same = (
    omega (arith, is_within x h),
    sym (ap (λ t. t || list_any wanted (drop (i + 1) all)) (sym is ∙ there)) ∙ sym (step x h) ∙ same,
  )

  pub none_found : None ≡ slice_get all i → list_any wanted (drop i all) ≡ list_any wanted all
      → false ≡ list_any wanted all
  none_found h same = sym (ap (list_any wanted) (past all i h)) ∙ same
