-- The parent and the previous sibling of an element, by the depths of all elements in their order.
use Rattle.std.specs.Prelude.{ℕ, suc, Bool, List, [], ◌∷◌, map, take, Option, None, Some, ◌==◌, if◌then◌else◌, nat_lt, nat_le, slice_index}
use Rattle.cssq_tree.specs.TreeText.{Row}

-- the depths of all rows, in their order
abbrev pub depths_of : List Row → List ℕ
depths_of rows = map (λ row. row.depth) rows

-- the last index of a list for which the test is true
abbrev pub last_index : (ℕ → Bool) → List ℕ → Option ℕ
last_index test [] = None
last_index test (x ∷ xs) =
    elim (last_index test xs) [ Some i ↦ Some (suc i) | None ↦ (if test x then Some 0 else None) ]

-- the last earlier element of lesser depth
abbrev pub parent_index : List ℕ → ℕ → Option ℕ
parent_index depths i = last_index (λ d. nat_lt d (slice_index depths i)) (take i depths)

-- the last earlier element of equal or lesser depth
abbrev pub nearest_index : List ℕ → ℕ → Option ℕ
nearest_index depths i = last_index (λ d. nat_le d (slice_index depths i)) (take i depths)

-- that element, if its depth is equal
abbrev pub previous_index : List ℕ → ℕ → Option ℕ
previous_index depths i = elim (nearest_index depths i) [
  | None ↦ None
  | Some j ↦ (if slice_index depths j == slice_index depths i then Some j else None)
]
