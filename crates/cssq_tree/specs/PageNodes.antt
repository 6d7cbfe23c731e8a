-- The elements of a page as nodes of a tree, and their answers to a selector.
use Rattle.std.specs.Prelude.{ℕ, zero, suc, ◌+◌, Bool, false, List, [], ◌∷◌, Option, None, Some, if◌then◌else◌, bytes_eq, codes, is_none, is_some}
use Rattle.std.specs.List.{slice_get}
use Rattle.std.specs.Option.{option_map, option_map_or}
use Rattle.simplecss_grammar.specs.Components.{Operator, KnownPseudoClass}
use Rattle.simplecss_grammar.specs.Components.KnownPseudoClass.{first_child, link, visited, hover, active, focus, lang}
use Rattle.simplecss_selector.specs.Keys.{Reported}
use Rattle.simplecss_selector.specs.Trees.{Tree}
use Rattle.simplecss_selector.specs.Operators.{is_satisfied}
use Rattle.cssq_tree.specs.TreeText.{Row}
use Rattle.cssq_tree.specs.ParentsAndSiblings.{depths_of, parent_index, previous_index}

-- an index among the rows
pub record Spot : Type 0 where
  pub rows : List Row
  pub index : ℕ

-- the index among these rows
abbrev pub spot : List Row → ℕ → Spot
spot rows index = record { rows = rows; index = index }

-- the parent, among the same rows
abbrev pub parent_of : Spot → Option Spot
parent_of s = option_map (spot s.rows) (parent_index (depths_of s.rows) s.index)

-- the previous sibling, among the same rows
abbrev pub previous_of : Spot → Option Spot
previous_of s = option_map (spot s.rows) (previous_index (depths_of s.rows) s.index)

-- the number of the ancestors that at most `n` steps reach
abbrev pub ancestors_within : ℕ → List ℕ → ℕ → ℕ
ancestors_within zero depths index = 0
ancestors_within (suc steps) depths index =
    elim (parent_index depths index)
    [ None ↦ 0 | Some parent ↦ ancestors_within steps depths parent + 1 ]

-- the number of the ancestors
abbrev pub ancestor_count : Spot → ℕ
ancestor_count s = ancestors_within (suc s.index) (depths_of s.rows) s.index

-- the name of the element at an index
abbrev pub name_at : List Row → ℕ → List ℕ
name_at rows index = option_map_or (λ row. row.name) (slice_get rows index) []

-- the value of the first attribute with the key
abbrev pub value_in : List (List ℕ × List ℕ) → List ℕ → Option (List ℕ)
value_in [] key = None
value_in (attribute ∷ attributes) key =
    if bytes_eq attribute.0 key then Some attribute.1 else value_in attributes key

-- the value of an attribute of the element at an index, if it has the attribute
abbrev pub attribute_at : List Row → ℕ → List ℕ → Option (List ℕ)
attribute_at rows index key =
    option_map_or (λ row. value_in row.attributes key) (slice_get rows index) None

-- names are equal byte by byte
abbrev pub has_name : Spot → List ℕ → Bool
has_name s name = bytes_eq (name_at s.rows s.index) name

-- an attribute that the element has satisfies the operator
abbrev pub meets_operator : Spot → List ℕ → Operator → Bool
meets_operator s key operator =
    option_map_or (is_satisfied operator) (attribute_at s.rows s.index key) false

-- the first child has no previous sibling; an element is in no other state
abbrev pub is_in : Spot → KnownPseudoClass → Bool
is_in s first_child = is_none (previous_index (depths_of s.rows) s.index)
is_in s link = false
is_in s visited = false
is_in s hover = false
is_in s active = false
is_in s focus = false
is_in s (lang language) = false

-- the elements of all pages
abbrev pub page_tree : Tree Spot
page_tree = record {
  parent = parent_of;
  previous_sibling = previous_of;
  depth = ancestor_count;
  is_named = has_name;
  has_attribute = meets_operator;
  is_in_pseudo_class = is_in;
}

-- the element's name, the values of its attributes `id` and `class`, and which attributes it has
abbrev pub reported_of : Spot → Reported
reported_of s = record {
  name = name_at s.rows s.index;
  id = attribute_at s.rows s.index (codes "id");
  class = attribute_at s.rows s.index (codes "class");
  has_attribute = λ name. is_some (attribute_at s.rows s.index name);
}
