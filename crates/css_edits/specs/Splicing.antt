-- A text with others in place of parts of it.
use Rattle.std.specs.Prelude.{ℕ, Bool, true, ◌&&◌, List, [], ◌∷◌, ◌++◌, drop, slice_range, nat_le}
use Rattle.css_edits.specs.declared.edits.Edit.{Edit}

-- each part begins where the one before it ends, or after that, and ends within the text
abbrev pub are_in_order : (last size : ℕ) → List Edit → Bool
are_in_order last size [] = true
are_in_order last size (e ∷ more) =
    nat_le last e.from && (nat_le e.from e.to && (nat_le e.to size && are_in_order e.to size more))

-- A text from a place on, with others in place of parts of it: every other byte is there, in order.
abbrev pub spliced : (text : List ℕ) → (last : ℕ) → List Edit → List ℕ
spliced text last [] = drop last text
spliced text last (e ∷ more) =
    slice_range text last e.from ++ (e.text.now ++ spliced text e.to more)
