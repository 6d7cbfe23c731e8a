-- The parts of a sheet that are read one after another, in place.
-- Serves `sheet_contents::read_contents`.
use Rattle.std.proofs.Common.{◌≡◌, ℕ, List, [], ◌∷◌, ◌++◌, map, ap, sym, subst, ◌∙◌, append_assoc}
use Rattle.css_sheet.specs.SheetContents.{ContentText, content}
use Rattle.css_sheet.specs.SheetParts.{PlacedPart}

-- one more part, by what its reader says of the size of the sheet
pub content-more : (before now : ℕ → List ContentText) (size total : ℕ) (come rest : List PlacedPart)
    (one : PlacedPart) (all : List ContentText) → size ≡ total
    → before total ++ map content come ≡ all → come ≡ one ∷ rest
    → now size ≡ before size ++ content one ∷ [] → now total ++ map content rest ≡ all
content-more before now size total come rest one all same so_far come_is wrote =
    ap (λ (cs : List ContentText). cs ++ map content rest)
    (subst (λ (n : ℕ). now n ≡ before n ++ content one ∷ []) same wrote)
    ∙ append_assoc (before total) (content one ∷ []) (map content rest)
    ∙ ap (λ (ps : List PlacedPart). before total ++ map content ps) (sym come_is) ∙ so_far
