-- What lists of indices hold.
-- Serves `sort_once`.
use Rattle.std.proofs.Common.{◌≡◌, ℕ, ◌↔◌, List, eqb, sym, subst}
use Rattle.std.specs.List.{Contains, dedup}
use Rattle.std.specs.List.Sorted.{IsPermutation}
use Rattle.std.proofs.lemmas.List.Kept.{Contains-dedup_nat, Contains-from_dedup}
use Rattle.std.proofs.lemmas.List.Sorted.{Contains-permutation, IsPermutation-sym}

-- a sort and a removal of repeats keep what a list holds
pub sorted_same : (old between new : List ℕ) → IsPermutation old between → new ≡ dedup eqb between
    → (index : ℕ) → Contains new index ↔ Contains old index
sorted_same old between new moved e index =
    subst (λ xs. Contains xs index ↔ Contains old index) (sym e) (
      λ h. Contains-permutation between old index (IsPermutation-sym old between moved)
          (Contains-from_dedup eqb between index h),
      λ h. Contains-dedup_nat between index (Contains-permutation old between index moved h),
    )
