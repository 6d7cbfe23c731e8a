-- Offsets, and whether something is, as numbers.
use Rattle.std.specs.Prelude.{ℕ, ◌-◌, Bool, if◌then◌else◌, List, length}

-- the offset at which this rest of a text begins, by the offset at which the text ends
abbrev pub offset : (end : ℕ) → List ℕ → ℕ
offset end rest = end - length rest

-- 1 if it is, or 0
abbrev pub number_if : Bool → ℕ
number_if is = if is then 1 else 0
