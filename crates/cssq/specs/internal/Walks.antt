-- Walks over the elements of a page.
use Rattle.std.specs.Prelude.{◌≡◌, ◌⊎◌, ℕ, zero, suc, ◌<◌, List, length, Option, None, Some, IfSome}
use Rattle.std.specs.Option.{option_map}
use Rattle.simplecss.specs.OpenPaths.{IsOpenTo}
use Rattle.cssq_tree.specs.TreeText.{Row}
use Rattle.cssq_tree.specs.ParentsAndSiblings.{parent_index}
use Rattle.cssq_tree.specs.PageNodes.{Spot, spot, page_tree, reported_of}
use Rattle.cssq.specs.declared.walk.Walk.{Walk}

-- the open elements of the path are the element at the place and its ancestors
pub record IsWalkOf (rows : List Row) (walk : Walk) : Type 0 where
  pub within : IfSome walk.place (λ index. index < length rows)
  pub opened : IsOpenTo {Node = Spot} {Self = Spot} page_tree (λ element. element) reported_of
      walk.path (option_map (spot rows) walk.place)

-- where a walk is before an element: nowhere before the first, and else where it was for the last
-- one, at the parent
abbrev pub place_before : List ℕ → ℕ → Option ℕ
place_before depths zero = None
place_before depths (suc index) = parent_index depths index

-- a walk is at a place, or just above, at its parent
abbrev pub IsAtOrAbove : List ℕ → Option ℕ → Option ℕ → Type 0
IsAtOrAbove depths None place = place ≡ None
IsAtOrAbove depths (Some target) place =
    (place ≡ Some target) ⊎ (place ≡ parent_index depths target)
