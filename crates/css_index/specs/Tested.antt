-- Which selectors are tried on an element, and how many tests that makes. A test is that of one compound
-- selector on one element.
use Rattle.std.specs.Prelude.{◌≡◌, ◌+◌, ◌≤◌, ℕ, ◌&&◌, not, is_none, if◌then◌else◌, Bool, List, [], Option, None, Some, IsTrue}
use Rattle.std.specs.List.{list_any, slice_get, sum_by}
use Rattle.css_selectors.specs.AncestorKeys.{is_only_keys}
use Rattle.css_selector_text.specs.Components.{Selector, parts_from}
use Rattle.css_selectors.specs.Costs.{most_tests}
use Rattle.css_selectors.specs.Documents.{Document}
use Rattle.css_selectors.specs.Keys.{Key, keys_of}
use Rattle.css_index.specs.Found.{AreAll}
use Rattle.css_index.specs.Reported.{Reported, reports_key}
use Rattle.css_index.specs.Walks.{Walk, IsKeptAt}

-- the keys by which a selector is filed: none if it has a pseudo-element, since it matches no element
abbrev pub filed_keys : Selector → List Key
filed_keys s = if is_none s.pseudo_element then keys_of s else []

-- there is a selector at the index, and one of the keys by which it is filed is reported
abbrev pub IsKeyedAt : {Node : Type 0} → Document Node → Node → Reported → List Selector → ℕ
    → Type 0
IsKeyedAt document n reported selectors index =
    (s : Selector) × (slice_get selectors index ≡ Some s)
    × IsTrue (list_any (reports_key document n reported) (filed_keys s))

-- the selector at the index is tried: a key of it is reported, and open elements report all that it
-- needs above the element
abbrev pub IsTriedAt : {Node : Type 0} → Document Node → Node → Reported → Walk → ℕ → Type 0
IsTriedAt document n reported walk index =
    IsKeyedAt document n reported walk.selectors index × IsKeptAt walk index

-- whether a selector that is tried has to be tested: it requires more than its keys
abbrev pub has_test : Selector → Bool
has_test s = is_none s.pseudo_element && not (is_only_keys s)

-- the least number of tests of a selector, if there is one
abbrev pub least_of : Option Selector → ℕ
least_of None = 0
least_of (Some s) = if has_test s then 1 else 0

-- the greatest number of tests of a selector on a node, if there is one
abbrev pub most_of : {Node : Type 0} → Document Node → Node → Option Selector → ℕ
most_of document n None = 0
most_of document n (Some s) = if has_test s then most_tests document (parts_from s.parts) n else 0

-- the least and the greatest number of tests of the selector at an index: none, if it requires nothing
-- but its keys
abbrev pub least_tests : List Selector → ℕ → ℕ
least_tests selectors index = least_of (slice_get selectors index)

abbrev pub most_tests_at : {Node : Type 0} → Document Node → Node → List Selector → ℕ → ℕ
most_tests_at document n selectors index = most_of document n (slice_get selectors index)

-- the indices are those of the selectors that are tried, in order, and the number of tests has grown by
-- those of each
pub record AreTried {Node : Type 0} (document : Document Node) (n : Node) (reported : Reported)
    (walk : Walk) (tried : List ℕ) (before after : ℕ) : Type 0 where
  pub are : AreAll (IsTriedAt document n reported walk) tried
  pub at_least : before + sum_by (least_tests walk.selectors) tried ≤ after
  pub at_most : after ≤ before + sum_by (most_tests_at document n walk.selectors) tried
