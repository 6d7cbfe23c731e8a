-- The elements of a tree as nodes, and their answers to a selector.
use Rattle.std.specs.Prelude.{ℕ, Bool, true, List, [], ◌∷◌, ◌&&◌, length, take, drop, Option, None, Some, bytes_eq, codes, ◌==◌, if◌then◌else◌}
use Rattle.std.specs.List.{slice_get}
use Rattle.std.specs.Option.{option_map_or, option_and_then, option_or}
use Rattle.std.specs.Str.{str_eq_ignore_ascii_case}
use Rattle.css_text.specs.AsciiBytes.{hyphen}
use Rattle.css_matching.specs.ListTrees.{ancestors}
use Rattle.css_elements.specs.Rows.{Row, no_states}
use Rattle.css_elements.specs.declared.tree.States.{States}

-- the parent that the element at an index names
abbrev pub named_parent : List Row → ℕ → Option ℕ
named_parent rows i = option_and_then (λ row. row.parent) (slice_get rows i)

-- the previous sibling that the element at an index names
abbrev pub named_previous : List Row → ℕ → Option ℕ
named_previous rows i = option_and_then (λ row. row.previous) (slice_get rows i)

-- the name of the element at an index
abbrev pub name_at : List Row → ℕ → List ℕ
name_at rows i = option_map_or (λ row. row.name) (slice_get rows i) []

-- the value of the first attribute with the name
abbrev pub value_in : List (List ℕ × List ℕ) → List ℕ → Option (List ℕ)
value_in [] name = None
value_in (attribute ∷ attributes) name =
    if bytes_eq attribute.0 name then Some attribute.1 else value_in attributes name

-- the value of an attribute of the element at an index, if it has the attribute
abbrev pub attribute_at : List Row → ℕ → List ℕ → Option (List ℕ)
attribute_at rows i name = option_and_then (λ row. value_in row.attributes name) (slice_get rows i)

-- the name and the value of each attribute of the element at an index
abbrev pub attributes_at : List Row → ℕ → List (List ℕ × List ℕ)
attributes_at rows i = option_map_or (λ row. row.attributes) (slice_get rows i) []

-- the states of the element at an index
abbrev pub states_at : List Row → ℕ → States
states_at rows i = option_map_or (λ row. row.states) (slice_get rows i) no_states

-- the value of an attribute at the first of these indices that has it
abbrev pub first_value : List Row → List ℕ → List ℕ → Option (List ℕ)
first_value rows name [] = None
first_value rows name (i ∷ is) = option_or (attribute_at rows i name) (first_value rows name is)

-- The language of the element at an index: the attribute `lang` of the nearest among it and its
-- ancestors that has one.
abbrev pub language_at : List Row → ℕ → Option (List ℕ)
language_at rows i = first_value rows (codes "lang") (i ∷ ancestors (named_parent rows) i)

-- nothing, or a text that begins with a hyphen
abbrev pub ends_subtag : List ℕ → Bool
ends_subtag [] = true
ends_subtag (b ∷ bs) = b == hyphen

-- A language matches `:lang(tag)` if it is the tag, or the tag and then a hyphen at its start,
-- whatever the case of ASCII letters (CSS 2.1 section 5.11.4).
abbrev pub is_in_language : List ℕ → List ℕ → Bool
is_in_language tag language =
    str_eq_ignore_ascii_case (take (length tag) language) tag
    && ends_subtag (drop (length tag) language)
