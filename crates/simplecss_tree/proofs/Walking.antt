-- Paths that are open along the elements of a tree.
-- Serves `rule_walk`.
use Rattle.std.proofs.Common.{◌≡◌, ℕ, ◌<◌, List, [], Option, None, Some, IfSome, length, sym, subst}
use Rattle.std.specs.Option.{option_map}
use Rattle.simplecss.specs.ListTrees.{spot, parent_by}
use Rattle.simplecss.specs.OpenPaths.{Path, AreOpened, IsOpenTo, left}
use Rattle.simplecss.proofs.OpenPathLemmas.{path_left}
use Rattle.css_elements.specs.Rows.{Row}
use Rattle.css_elements.specs.TreeNodes.{named_parent}
use Rattle.simplecss_tree.specs.TreeNodes.{element_tree, reported_at}
use Rattle.simplecss_tree.specs.Walks.{IsOpenAt}
use Rattle.css_elements.proofs.Walking.{inside}

-- the path is open to an element of these
abbrev pub IsOpenOn : List Row → Path → Option ℕ → Type 0
IsOpenOn rows path place = IsOpenTo {Node = List Row × ℕ} {Self = List Row × ℕ} element_tree
    (λ node. node) reported_at path (option_map (spot rows) place)

pub none_open : (rows : List Row) (path : Path) → path.listed ≡ [] → path.starts ≡ []
    → path.marks ≡ [] → IsOpenAt rows path None
none_open rows path listed starts marks = record {
  within = tt;
  opened = subst (λ ms. AreOpened {Node = List Row × ℕ} {Self = List Row × ℕ} element_tree
      (λ node. node) reported_at path.selectors None ms path.listed path.starts) (sym marks)
      (listed, starts);
}

-- the element that was opened last is closed
pub closed_one : (rows : List Row) (old new : Path) (place next : Option ℕ) (i : ℕ)
    → IsOpenAt rows old place → place ≡ Some i → new ≡ left old
    → next ≡ parent_by (named_parent rows) i → IfSome next (λ parent. parent < i)
    → IsOpenAt rows new next
closed_one rows old new place next i at is closed up before = record {
  within = inside rows i next here.within before;
  opened = subst (IsOpenOn rows new) (sym up)
      (subst (λ p. IsOpenOn rows p (parent_by (named_parent rows) i)) (sym closed)
      (path_left {Node = List Row × ℕ} {Self = List Row × ℕ} element_tree (λ node. node) reported_at
      old.selectors (spot rows i) old.marks old.listed old.starts here.opened));
}
  where
    here : IsOpenAt rows old (Some i)
    here = subst (IsOpenAt rows old) is at

-- the path is open to the parent of an element
pub open_above : (rows : List Row) (path : Path) (place : Option ℕ) (i : ℕ) (node : List Row × ℕ)
    → IsOpenAt rows path place → place ≡ parent_by (named_parent rows) i → node ≡ spot rows i
    → IsOpenTo {Node = List Row × ℕ} {Self = List Row × ℕ} element_tree (λ n. n) reported_at path
    (element_tree.parent node)
open_above rows path place i node at up is =
    subst (λ n. IsOpenTo {Node = List Row × ℕ} {Self = List Row × ℕ} element_tree (λ n. n)
    reported_at path (element_tree.parent n)) (sym is) (subst (IsOpenOn rows path) up at.opened)

-- the path is open to an element that is entered
pub entered : (rows : List Row) (path : Path) (i : ℕ) (node : List Row × ℕ) → i < length rows
    → node ≡ spot rows i
    → IsOpenTo {Node = List Row × ℕ} {Self = List Row × ℕ} element_tree (λ n. n) reported_at path
    (Some node) → IsOpenAt rows path (Some i)
entered rows path i node lt is opened = record {
  within = lt;
  opened = subst (λ n. IsOpenTo {Node = List Row × ℕ} {Self = List Row × ℕ} element_tree (λ n. n)
      reported_at path (Some n)) is opened;
}
