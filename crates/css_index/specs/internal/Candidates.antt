-- Which of the selectors that are found for an element match it.
use Rattle.std.specs.Prelude.{◌≡◌, ◌⊎◌, ℕ, List, Some, IsTrue}
use Rattle.std.specs.List.{slice_get}
use Rattle.css_selectors.specs.AncestorKeys.{is_only_keys}
use Rattle.css_selector_text.specs.Components.{Selector}
use Rattle.css_selectors.specs.Documents.{Document}
use Rattle.css_selectors.specs.AfterKeys.{MatchesFoundBy, begins_with_key}

-- there is a selector at the index, and it requires nothing but its keys or matches the node, if the node has
-- one of its keys
abbrev pub PassesAt : {Node : Type 0} → Document Node → Node → List Selector → ℕ → Type 0
PassesAt document n selectors index =
    (s : Selector) × (slice_get selectors index ≡ Some s)
    × (IsTrue (is_only_keys s) ⊎ MatchesFoundBy (begins_with_key s) document s n)
