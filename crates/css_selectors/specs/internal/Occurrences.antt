-- Where a text occurs in a value, and the place at which the search cuts the text.
use Rattle.std.specs.Prelude.{ℕ, ◌<◌, ◌≤◌, Bool, true, false, if◌then◌else◌, List, length, slice_index}
use Rattle.std.specs.Char.{to_ascii_lowercase}
use Rattle.memchr.specs.Critical.{IsCritical, NoPeriodBelow}
use Rattle.memchr.specs.TwoWay.{OccursIn}

-- the byte, as a lower-case letter if case is ignored
abbrev pub folded : Bool → ℕ → ℕ
folded ignores b = if ignores then to_ascii_lowercase b else b

-- the byte at an index, so folded
abbrev pub folded_at : Bool → List ℕ → ℕ → ℕ
folded_at ignores bytes index = folded ignores (slice_index bytes index)

-- the text is what stands in the value from an index on
abbrev pub OccursAt : Bool → List ℕ → List ℕ → ℕ → Type 0
OccursAt ignores text value index =
    OccursIn (folded_at ignores text) (length text) (folded_at ignores value) (length value) index

-- one byte is before the other in an order of bytes, or in the reverse order
unfoldable pub IsBefore : Bool → ℕ → ℕ → Type 0
IsBefore false a b = a < b
IsBefore true a b = b < a

-- A cut of m values x: each repeat across this place is a period of all, and no period is shorter
-- than the shift, which is at most m.
pub record IsCut (x : ℕ → ℕ) (m place shift : ℕ) : Type 0 where
  pub below : place < m
  pub critical : IsCritical x m place
  pub moves : 0 < shift
  pub within : shift ≤ m
  pub short : NoPeriodBelow x m shift
