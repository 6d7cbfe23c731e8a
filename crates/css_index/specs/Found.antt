-- Indices of selectors in a list.
use Rattle.std.specs.Prelude.{◌≡◌, ℕ, ◌↔◌, List, Some, Contains}
use Rattle.std.specs.List.{slice_get}
use Rattle.std.specs.List.Sorted.{IsStrictlyIncreasing}
use Rattle.css_selector_text.specs.Components.{Selector}
use Rattle.css_selectors.specs.Documents.{Document}
use Rattle.css_selectors.specs.Meanings.{Matches}

-- the numbers are in order, each once, and are exactly the wanted ones
pub record AreAll (IsWanted : ℕ → Type 0) (indices : List ℕ) : Type 0 where
  pub ascending : IsStrictlyIncreasing indices
  pub exactly : (index : ℕ) → Contains indices index ↔ IsWanted index

-- there is a selector at the index, and it matches the node
abbrev pub MatchesAt : {Node : Type 0} → Document Node → Node → List Selector → ℕ → Type 0
MatchesAt document n selectors index =
    (s : Selector) × (slice_get selectors index ≡ Some s) × Matches document s n

-- the indices, in order, of exactly the selectors that match the node
abbrev pub AreMatches : {Node : Type 0} → Document Node → Node → List Selector → List ℕ → Type 0
AreMatches document n selectors = AreAll (MatchesAt document n selectors)
