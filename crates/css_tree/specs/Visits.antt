-- Elements in order, from the first or from the last on, and numbers of those among them that are
-- marked.
use Rattle.std.specs.Prelude.{◌≡◌, ℕ, suc, ◌+◌, ◌-◌, ◌&&◌, ◌==◌, Bool, List, length, slice_index_or}
use Rattle.css_selector_text.specs.Components.{Progression}
use Rattle.css_selector_text.specs.reading.Numbers.{is_numbered}
use Rattle.css_elements.specs.Rows.{Row}
use Rattle.css_tree.specs.Counts.{count_below}
use Rattle.css_tree.specs.Pages.{family}
use Rattle.css_tree.specs.declared.nth_marks.End.{End}
use Rattle.css_tree.specs.declared.nth_marks.End.TheVariants.{First, Last}
use Rattle.css_tree.specs.Steps.{is_set}

-- of so many elements the one that is visited after this many
abbrev pub visited : End → (all : ℕ) → ℕ → ℕ
visited First all k = k
visited Last all k = all - suc k

-- whether the element that is visited after this many is marked, and in the family of a number
abbrev pub is_counted : End → List Row → List Bool → ℕ → ℕ → Bool
is_counted end rows marks number k =
    (number == family rows (visited end (length rows) k))
    && is_set marks (visited end (length rows) k)

-- how many of those that are visited before the one after this many
abbrev pub count_visited : End → List Row → List Bool → ℕ → ℕ → ℕ
count_visited end rows marks number k =
    count_below (is_counted end rows marks number) k

-- for each family the number of its marked elements among those that were visited
pub record AreCounted (end : End) (rows : List Row) (marks : List Bool) (counts : List ℕ) (k : ℕ)
    : Type 0 where
  pub all : length counts ≡ length rows
  pub each : (number : ℕ) → slice_index_or counts number 0 ≡ count_visited end rows marks number k

-- whether the element that is visited after this many is marked, and its number among its marked
-- siblings is one of `An+B`
abbrev pub is_numbered_at : End → Progression → List Row → List Bool → ℕ → Bool
is_numbered_at end p rows marks k =
    is_set marks (visited end (length rows) k)
    && is_numbered p (count_visited end rows marks
    (family rows (visited end (length rows) k)) k + 1)
