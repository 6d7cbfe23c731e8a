-- The elements of a tree, and their relations.
use Rattle.std.specs.Prelude.{◌≡◌, ◌<◌, ◌≤◌, ◌++◌, ◌+◌, ◌-◌, ℕ, suc, false, length, slice_index_or, slice_set, List, [], ◌∷◌, map, Option, None, Some, nat_eq, if◌then◌else◌}
use Rattle.std.specs.List.{slice_range}
use Rattle.std.specs.Option.{option_eq}
use Rattle.std.specs.Borrow.{Bor}
use Rattle.css_elements.specs.declared.tree.States.{States}
use Rattle.css_elements.specs.declared.tree.Entry.{Entry}

-- An element: its name, its attributes, each a name and a value, the indices of its parent and of
-- its previous sibling, if it has any, and its states.
pub record Row : Type 0 where
  pub name : List ℕ
  pub attributes : List (List ℕ × List ℕ)
  pub parent : Option ℕ
  pub previous : Option ℕ
  pub states : States

-- an attribute as the code has it
abbrev pub Attribute : Type 0
Attribute = Bor (List ℕ) × Bor (List ℕ)

-- the name and the value of an attribute
abbrev pub attribute_of : Attribute → List ℕ × List ℕ
attribute_of a = (a.0.now, a.1.now)

-- what contracts see of an entry, where these are the attributes of all elements
abbrev pub row_of : List Attribute → Entry → Row
row_of all e = record {
  name = e.name.now;
  attributes = map attribute_of (slice_range all e.first e.end);
  parent = e.parent;
  previous = e.previous;
  states = e.states;
}

-- the last index of a list that names the parent, or none
abbrev pub last_naming : List (Option ℕ) → Option ℕ → Option ℕ
last_naming [] parent = None
last_naming (named ∷ more) parent = elim (last_naming more parent) [
  | Some i ↦ Some (suc i)
  | None ↦ (if option_eq nat_eq named parent then Some 0 else None)
]

-- The last child of a parent, or the last element without one.
abbrev pub last_child : List Row → Option ℕ → Option ℕ
last_child rows parent = last_naming (map (λ row. row.parent) rows) parent

-- in no state
abbrev pub no_states : States
no_states = record { link = false; visited = false; hover = false; active = false; focus = false }

-- An element of the name without attributes and in no state, which is the last child of the parent.
abbrev pub new_child : List Row → Option ℕ → List ℕ → Row
new_child rows parent name = record {
  name = name;
  attributes = [];
  parent = parent;
  previous = last_child rows parent;
  states = no_states;
}

-- an element with an empty name
abbrev pub nobody : Row
nobody = record { name = []; attributes = []; parent = None; previous = None; states = no_states }

-- the element with one more attribute, after the others
abbrev pub row_with : Row → List ℕ → List ℕ → Row
row_with row name value = record {
  name = row.name;
  attributes = row.attributes ++ (name, value) ∷ [];
  parent = row.parent;
  previous = row.previous;
  states = row.states;
}

-- The elements, of which the last has one more attribute.
abbrev pub with_attribute : List Row → List ℕ → List ℕ → List Row
with_attribute rows name value =
    slice_set rows (length rows - 1)
    (row_with (slice_index_or rows (length rows - 1) nobody) name value)

-- the element in these states
abbrev pub row_in : Row → States → Row
row_in row states = record {
  name = row.name;
  attributes = row.attributes;
  parent = row.parent;
  previous = row.previous;
  states = states;
}

-- The elements, of which the one at the index is in these states.
abbrev pub with_states : List Row → ℕ → States → List Row
with_states rows index states =
    slice_set rows index (row_in (slice_index_or rows index nobody) states)

-- an index is named, and there is no such element
abbrev pub IsMissing : Option ℕ → ℕ → Type 0
IsMissing None count = ⊥
IsMissing (Some index) count = count ≤ index

-- the last index of entries that names the parent, or none
abbrev pub last_entry : List Entry → Option ℕ → Option ℕ
last_entry entries parent = last_naming (map (λ e. e.parent) entries) parent

-- Each entry has the index of its last child, and `last_root` is that of the last element without a
-- parent. No index past the entries has a child.
pub record KnowsLast (entries : List Entry) (last_root : Option ℕ) : Type 0 where
  pub root : last_root ≡ last_entry entries None
  pub each : (i : ℕ)
      → slice_index_or (map (λ e. e.last_child) entries) i None ≡ last_entry entries (Some i)

-- The attributes of each element are a range of those of all, of which there are so many, and those of the
-- last element are the last.
pub record AreRanges (entries : List Entry) (count : ℕ) : Type 0 where
  pub within : (i : ℕ) (d : Entry) → i < length entries
      → ((slice_index_or entries i d).first ≤ (slice_index_or entries i d).end)
      × ((slice_index_or entries i d).end ≤ count)
  pub last : (i : ℕ) (d : Entry) → i + 1 ≡ length entries → (slice_index_or entries i d).end ≡ count
