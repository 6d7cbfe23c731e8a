-- The ends of rules that are open at the end of a sheet.
-- Serves `said::push_ends`.
use Rattle.std.proofs.Common.{◌≡◌, ℕ, zero, suc, ◌-◌, ◌<◌, List, [], ◌∷◌, ◌++◌, arith, refl, sym, ap, ◌∙◌, append_assoc}
use Rattle.css_sheet.specs.SheetParts.{SheetPart, ends}
use Rattle.css_sheet.specs.Said.{ends_of}

-- the first of them, and the others
pub ends_more : (n : ℕ) → 0 < n → ends_of n ≡ ends ∷ ends_of (n - 1)
ends_more zero h = grind arith
ends_more (suc n) h = let e : suc n - 1 ≡ n = omega arith in rw e refl

-- one more of those that are left
pub ends-left : (so_far : List SheetPart) (left : ℕ) (all : List SheetPart) → 0 < left
    → so_far ++ ends_of left ≡ all → (so_far ++ ends ∷ []) ++ ends_of (left - 1) ≡ all
ends-left so_far left all h e =
    append_assoc so_far (ends ∷ []) (ends_of (left - 1))
    ∙ ap (λ (ps : List SheetPart). so_far ++ ps) (sym (ends_more left h)) ∙ e
