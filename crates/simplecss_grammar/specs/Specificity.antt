-- The specificity of a selector (CSS 2.1, section 6.4.3).
use Rattle.std.specs.Prelude.{ℕ, Bool, false, not, min, List, [], ◌∷◌, sum_by, count_by, is_some, bytes_eq, codes}
use Rattle.simplecss_grammar.specs.Components.{Subselector, Component}
use Rattle.simplecss_grammar.specs.Components.Subselector.{attribute, pseudo_class}

-- An attribute named `id`, with any operator: `[id=x]` counts as `#x` does. (In CSS 2.1 it counts
-- as other attributes do.)
abbrev pub is_id : Subselector → Bool
is_id (attribute name operator) = bytes_eq name (codes "id")
is_id (pseudo_class class) = false

-- the number of ids of a component
abbrev pub id_count : Component → ℕ
id_count c = count_by is_id c.compound.subselectors

-- the number of its other subselectors
abbrev pub other_count : Component → ℕ
other_count c = count_by (λ s. not (is_id s)) c.compound.subselectors

-- the number of ids, of other subselectors, and of components with a type name, each at most 255
abbrev pub specificity : List Component → List ℕ
specificity components =
    min 255 (sum_by id_count components)
    ∷ min 255 (sum_by other_count components)
    ∷ min 255 (count_by (λ c. is_some c.compound.name) components)
    ∷ []
