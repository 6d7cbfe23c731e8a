-- The shape of a selector's list of components.
use Rattle.std.specs.Prelude.{◌≡◌, ℕ, ◌<◌, ◌↔◌, List, [], ◌∷◌, None, length, take, slice_index_or}
use Rattle.simplecss_grammar.specs.Components.{Component}
use Rattle.simplecss_grammar.specs.Components.Combinator.{none}

-- any type matches
abbrev pub any_component : Component
any_component = record { combinator = none; compound = record { name = None; subselectors = [] } }

-- the component at an index
abbrev pub component_at : List Component → ℕ → Component
component_at cs k = slice_index_or cs k any_component

-- there is a component, and a component has no combinator exactly if it is the first
abbrev pub IsSelector : List Component → Type 0
IsSelector cs =
    (0 < length cs) × ((k : ℕ) → k < length cs → ((component_at cs k).combinator ≡ none) ↔ (k ≡ 0))

-- a list reversed, before another
abbrev pub backwards : List Component → List Component → List Component
backwards [] after = after
backwards (c ∷ cs) after = backwards cs (c ∷ after)

-- the first n components, the last of them first
abbrev pub first_of : List Component → ℕ → List Component
first_of cs n = backwards (take n cs) []
