-- The trees of lists of entries.
use Rattle.std.specs.Prelude.{ℕ, List, Option, Some, None, Bool, false, IsTrue, is_none, is_some, bytes_eq, codes, slice_get, if◌then◌else◌}
use Rattle.std.specs.Option.{option_map, option_map_or, option_and_then}
use Rattle.std.proofs.Common.{refl}
use Rattle.simplecss.specs.Components.{KnownPseudoClass, Operator}
use Rattle.simplecss.specs.Components.KnownPseudoClass.{first_child, link, visited, hover, active, focus, lang}
use Rattle.simplecss.specs.Keys.{Reported, ReportsKeys}
use Rattle.simplecss.specs.Keys.Key.{by_id, by_class, by_name, by_attribute, by_nothing}
use Rattle.simplecss.specs.ListTrees.{ListOf, list_tree, sibling_by}
use Rattle.simplecss.specs.Operators.{is_satisfied}
use Rattle.example_library.specs.declared.own_tree.Entry.{Entry}

-- the parent that the entry at an index names
abbrev pub named_parent : List Entry → ℕ → Option ℕ
named_parent entries i = option_and_then (λ e. e.parent) (slice_get entries i)

-- the previous sibling that the entry at an index names
abbrev pub named_previous : List Entry → ℕ → Option ℕ
named_previous entries i = option_and_then (λ e. e.previous) (slice_get entries i)

-- the value of an attribute of an entry: it has `id` and `class`, or one of them, or none
abbrev pub value_of : Entry → List ℕ → Option (List ℕ)
value_of e name =
    if bytes_eq name (codes "id") then option_map (λ value. value.now) e.id
    else if bytes_eq name (codes "class") then option_map (λ value. value.now) e.class
    else None

-- the value of an attribute of the entry at an index
abbrev pub value_at : List Entry → ℕ → List ℕ → Option (List ℕ)
value_at entries i name = option_and_then (λ e. value_of e name) (slice_get entries i)

-- the name of the entry at an index
abbrev pub name_at : List Entry → ℕ → List ℕ
name_at entries i = option_map_or (λ e. e.name.now) (slice_get entries i) (codes "")

-- The first child has no previous sibling. There are no other pseudo-classes.
abbrev pub is_in : List Entry → ℕ → KnownPseudoClass → Bool
is_in entries i first_child = is_none (sibling_by (named_parent entries) (named_previous entries) i)
is_in entries i link = false
is_in entries i visited = false
is_in entries i hover = false
is_in entries i active = false
is_in entries i focus = false
is_in entries i (lang tag) = false

-- What a list of entries says of each index.
abbrev pub entry_list : ListOf (List Entry)
entry_list = record {
  parent = named_parent;
  previous_sibling = named_previous;
  is_named = λ entries i name. bytes_eq (name_at entries i) name;
  has_attribute =
      λ entries i name operator.
      option_map_or (is_satisfied operator) (value_at entries i name) false;
  is_in_pseudo_class = is_in;
}

-- What the entry at an index reports to an index of rules.
abbrev pub reported_at : List Entry × ℕ → Reported
reported_at (entries, i) = record {
  name = name_at entries i;
  id = value_at entries i (codes "id");
  class = value_at entries i (codes "class");
  has_attribute = λ name. is_some (value_at entries i name);
}

-- there is a value if one satisfies the operator
is_there : (value : Option (List ℕ)) (operator : Operator)
    → IsTrue (option_map_or (is_satisfied operator) value false) → IsTrue (is_some value)
is_there None operator h = absurd (cc)
is_there (Some text) operator h = refl

-- An entry reports every key that it has: its name, id and class, and which attributes it has.
pub keys_reported : (n : List Entry × ℕ) → ReportsKeys (list_tree entry_list) n (reported_at n)
keys_reported n (by_id text) h = h
keys_reported n (by_class word) h = h
keys_reported n (by_name name) h = h
keys_reported n (by_attribute name) (operator, h) = is_there (value_at n.0 n.1 name) operator h
keys_reported n by_nothing h = h
