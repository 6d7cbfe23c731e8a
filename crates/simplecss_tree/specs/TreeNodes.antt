-- The elements of a tree as nodes, and their answers to a selector.
use Rattle.std.specs.Prelude.{ℕ, Bool, false, List, Option, None, Some, bytes_eq, codes, is_none, is_some, IsTrue}
use Rattle.std.proofs.Common.{refl}
use Rattle.std.specs.Option.{option_map_or}
use Rattle.simplecss.specs.Components.{KnownPseudoClass, Operator}
use Rattle.simplecss.specs.Components.Operator.{exists}
use Rattle.simplecss.specs.Components.KnownPseudoClass.{first_child, link, visited, hover, active, focus, lang}
use Rattle.simplecss.specs.ListTrees.{ListOf, sibling_by, list_tree}
use Rattle.simplecss.specs.Exact.{ReportsOnlyKeys}
use Rattle.simplecss.specs.Keys.{Reported, ReportsKeys}
use Rattle.simplecss.specs.Keys.Key.{by_id, by_class, by_name, by_attribute, by_nothing}
use Rattle.simplecss.specs.Operators.{is_satisfied}
use Rattle.simplecss.specs.Trees.{Tree}
use Rattle.css_elements.specs.Rows.{Row}
use Rattle.css_elements.specs.TreeNodes.{named_parent, named_previous, name_at, attribute_at, states_at, language_at, is_in_language}

-- The first child has no previous sibling; the other pseudo-classes are decided by the states and
-- by the language.
abbrev pub is_in : List Row → ℕ → KnownPseudoClass → Bool
is_in rows i first_child = is_none (sibling_by (named_parent rows) (named_previous rows) i)
is_in rows i link = (states_at rows i).link
is_in rows i visited = (states_at rows i).visited
is_in rows i hover = (states_at rows i).hover
is_in rows i active = (states_at rows i).active
is_in rows i focus = (states_at rows i).focus
is_in rows i (lang tag) = option_map_or (is_in_language tag) (language_at rows i) false

-- what a list of elements says of each index
abbrev pub elements : ListOf (List Row)
elements = record {
  parent = named_parent;
  previous_sibling = named_previous;
  is_named = λ rows i name. bytes_eq (name_at rows i) name;
  has_attribute =
      λ rows i name operator.
      option_map_or (is_satisfied operator) (attribute_at rows i name) false;
  is_in_pseudo_class = is_in;
}

-- The elements of all trees.
abbrev pub element_tree : Tree (List Row × ℕ)
element_tree = list_tree elements

-- the name of the element at an index, the values of its attributes `id` and `class`, and which
-- attributes it has
abbrev pub reported_at : List Row × ℕ → Reported
reported_at (rows, i) = record {
  name = name_at rows i;
  id = attribute_at rows i (codes "id");
  class = attribute_at rows i (codes "class");
  has_attribute = λ name. is_some (attribute_at rows i name);
}

-- there is a value that satisfies the operator
value_there : (r : Option (List ℕ)) (o : Operator) → IsTrue (option_map_or (is_satisfied o) r false)
    → IsTrue (is_some r)
value_there None o h = absurd (cc)
value_there (Some v) o h = refl

-- An element reports every key that it has. This is proved here since the trait `Keyed` requires
-- it: the impl names it, so it belongs to what is stated.
pub keys_reported : (n : List Row × ℕ) → ReportsKeys element_tree n (reported_at n)
keys_reported n (by_id text) h = h
keys_reported n (by_class word) h = h
keys_reported n (by_name name) h = h
keys_reported n (by_attribute name) (o, h) = value_there (attribute_at n.0 n.1 name) o h
keys_reported n by_nothing h = h

-- an attribute that is there has a value, whatever it is
value_of : (r : Option (List ℕ)) → IsTrue (is_some r)
    → IsTrue (option_map_or (is_satisfied exists) r false)
value_of None h = absurd (cc)
value_of (Some v) h = refl

-- An element has every key that it reports. This is proved here since the trait `Exact` requires it.
pub only_keys_reported : (n : List Row × ℕ) → ReportsOnlyKeys element_tree n (reported_at n)
only_keys_reported n (by_id text) h = h
only_keys_reported n (by_class word) h = h
only_keys_reported n (by_name name) h = h
only_keys_reported n (by_attribute name) h = (exists, value_of (attribute_at n.0 n.1 name) h)
only_keys_reported n by_nothing h = h
