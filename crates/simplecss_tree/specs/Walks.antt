-- Walks over the elements of a tree.
use Rattle.std.specs.Prelude.{◌≡◌, ℕ, ◌<◌, List, length, Option, IfSome}
use Rattle.std.specs.Option.{option_map}
use Rattle.simplecss.specs.Components.{Component}
use Rattle.simplecss.specs.ListTrees.{spot}
use Rattle.simplecss.specs.OpenPaths.{Path, IsOpenTo}
use Rattle.css_elements.specs.Rows.{Row}
use Rattle.simplecss_tree.specs.TreeNodes.{element_tree, reported_at}

-- what contracts see of a walk: the selectors, the path of open elements, and the index of the element
-- that was opened last, if one is open
pub record Walk : Type 0 where
  pub selectors : List (List Component)
  pub path : Path
  pub place : Option ℕ

-- the open elements are the element at the place and its ancestors
pub record IsOpenAt (rows : List Row) (path : Path) (place : Option ℕ) : Type 0 where
  pub within : IfSome place (λ index. index < length rows)
  pub opened : IsOpenTo {Node = List Row × ℕ} {Self = List Row × ℕ} element_tree (λ node. node)
      reported_at path (option_map (spot rows) place)

-- a walk along these elements: its path is for its selectors, and is open where the walk is
pub record IsAlong (rows : List Row) (walk : Walk) : Type 0 where
  pub selectors : walk.path.selectors ≡ walk.selectors
  pub opened : IsOpenAt rows walk.path walk.place
