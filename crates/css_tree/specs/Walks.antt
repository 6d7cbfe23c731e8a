-- Walks over the elements of a page.
use Rattle.std.specs.Prelude.{ℕ, ◌<◌, length, Option, IfSome}
use Rattle.std.specs.Option.{option_map}
use Rattle.css_matching.specs.ListTrees.{spot}
use Rattle.css_index.specs.Walks.{Walk, IsOpenTo}
use Rattle.css_tree.specs.Pages.{Page, page_document}
use Rattle.css_tree.specs.Reports.{reported_of}

-- what contracts see of a walk over a page: the page, and a walk of selectors
pub record PageWalk : Type 0 where
  pub page : Page
  pub walk : Walk

-- The open elements are the element at the place, which is the index of the one that was opened last if one is open,
-- and its ancestors.
pub record IsOpenAt (page : Page) (walk : Walk) (place : Option ℕ) : Type 0 where
  pub within : IfSome place (λ index. index < length page.rows)
  pub opened : IsOpenTo {Node = Page × ℕ} {Self = Page × ℕ} page_document (λ node. node) reported_of
      walk (option_map (spot page) place)
