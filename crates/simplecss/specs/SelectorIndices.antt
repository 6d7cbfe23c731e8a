-- Indices in a list of selectors.
use Rattle.std.specs.Prelude.{◌≡◌, ℕ, ◌<◌, ◌↔◌, List, [], ◌++◌, slice_index_or, Contains}
use Rattle.std.specs.List.Sorted.{IsStrictlyIncreasing}
use Rattle.simplecss_grammar.specs.Components.{Component}
use Rattle.simplecss_selector.specs.Buckets.{Bucket, bucket_of}

-- the selector at an index
abbrev pub selector_at : List (List Component) → ℕ → List Component
selector_at selectors index = slice_index_or selectors index []

-- the key of the selector at an index
abbrev pub key_at : List (List Component) → ℕ → Bucket
key_at selectors index = bucket_of (selector_at selectors index)

-- the indices are in order, each once, and are exactly those below the number for which `IsWanted`
-- is true
pub record AreTheIndices (IsWanted : ℕ → Type 0) (number : ℕ) (indices : List ℕ) : Type 0 where
  pub ascending : IsStrictlyIncreasing indices
  pub exactly : (index : ℕ) → Contains indices index ↔ ((index < number) × IsWanted index)

-- some indices were appended, in any order and number, and they are those for which the test is
-- true
abbrev pub Adds : List ℕ → List ℕ → (ℕ → Type 0) → Type 0
Adds old new IsWanted =
    (more : List ℕ) × (new ≡ old ++ more) × ((index : ℕ) → Contains more index ↔ IsWanted index)
