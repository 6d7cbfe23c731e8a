-- A page with texts in place of parts of it.
use Rattle.std.specs.Prelude.{ℕ, Bool, true, ◌&&◌, List, [], ◌∷◌, ◌++◌, drop, slice_range}
use Rattle.std.specs.Prelude.{nat_le}
use Rattle.html_edits.specs.declared.splicing.Splice.{Splice}

-- each part begins where the one before it ends, or after that, and ends within the page
abbrev pub are_in_order : (last size : ℕ) → List Splice → Bool
are_in_order last size [] = true
are_in_order last size (s ∷ more) =
    nat_le last s.from && (nat_le s.from s.to && (nat_le s.to size && are_in_order s.to size more))

-- A page from a place on, with texts in place of parts of it: every other byte is there, in order.
abbrev pub spliced : (page : List ℕ) → (last : ℕ) → List Splice → List ℕ
spliced page last [] = drop last page
spliced page last (s ∷ more) =
    slice_range page last s.from ++ (s.text.items ++ spliced page s.to more)
