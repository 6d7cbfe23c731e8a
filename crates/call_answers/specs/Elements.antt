-- A tree as a caller passes it: its elements in document order, and all their strings in one
-- buffer, by where each ends. An element's strings are its name, and a key and a value for each
-- attribute. After those of all elements come a name and a value for each attribute in a namespace, then
-- names of states, and then prefixes of namespaces.
use Rattle.std.specs.Prelude.{◌≡◌, ℕ, zero, suc, ◌+◌, ◌*◌, ◌-◌, ◌^◌, ◌/◌, ◌%◌, ◌<◌, Bool, false, ◌&&◌, ◌||◌, ◌==◌, nat_le, nat_lt, if◌then◌else◌, bytes_eq, List, [], ◌∷◌, ◌++◌, length, map, take, drop, slice_index, Option, None, Some, Result, Ok, Err}
use Rattle.std.specs.List.{slice_range, slice_index_or, filter_map, list_any, position, range_with_len}
use Rattle.css_selectors.specs.Documents.{NamespacedAttribute}
use Rattle.css_elements.specs.Rows.{Row, last_child, no_states, row_in}
use Rattle.css_elements.specs.declared.tree.States.{States}
use Rattle.css_tree.specs.Pages.{NamedState}
use Rattle.call_answers.specs.declared.elements.TreeAttribute.{TreeAttribute}
use Rattle.call_answers.specs.declared.elements.TreeElement.{TreeElement}
use Rattle.call_answers.specs.declared.elements.ElementFault.{ElementFault}
use Rattle.call_answers.specs.declared.elements.ElementFault.TheVariants.{BadDepth, EmptyName, BadStrings, RepeatedKey}

-- ---- the strings of a buffer

-- whether a character of a text begins at the offset, or the text ends there
abbrev pub is_boundary : List ℕ → ℕ → Bool
is_boundary text i =
    nat_le i (length text) && (nat_lt (slice_index text i) 128 || nat_le 192 (slice_index text i))

-- whether a string that begins at one offset may end at another
abbrev pub may_end : List ℕ → ℕ → ℕ → Bool
may_end buffer start end = nat_le start end && is_boundary buffer end

-- the strings up to the first end that none may have, and whether they are all of the buffer
pub record Strings : Type 0 where
  pub strings : List (List ℕ)
  pub are_all : Bool

-- one string more, before the others
abbrev pub with_string : List ℕ → Strings → Strings
with_string string more = record { strings = string ∷ more.strings; are_all = more.are_all }

-- the strings that end at these offsets, the first of which begins at `start` and each other one
-- where the one before ends
abbrev pub strings_from : List ℕ → ℕ → List ℕ → Strings
strings_from buffer start [] = record { strings = []; are_all = start == length buffer }
strings_from buffer start (end ∷ ends) =
    if may_end buffer start end
    then with_string (slice_range buffer start end) (strings_from buffer end ends)
    else record { strings = []; are_all = false }

-- the strings of a buffer, by where each ends
abbrev pub strings_in : List ℕ → List ℕ → Strings
strings_in buffer ends = strings_from buffer 0 ends

-- all strings but the last ones, which are this number of names
abbrev pub all_but : (names : ℕ) → Strings → Strings
all_but names all = record {
  strings = take (length all.strings - names) all.strings;
  are_all = all.are_all;
}

-- the last strings, which are this number of names
abbrev pub last_names : (names : ℕ) → Strings → List (List ℕ)
last_names names all = drop (length all.strings - names) all.strings

-- prefixes with the numbers of their namespaces, while there are both
abbrev pub prefixes_with : List (List ℕ) → List ℕ → List (List ℕ × ℕ)
prefixes_with [] numbers = []
prefixes_with (name ∷ names) [] = []
prefixes_with (name ∷ names) (number ∷ numbers) = (name, number) ∷ prefixes_with names numbers

-- ---- attributes in namespaces

-- Attributes in namespaces, each with the index of its element: the strings are a name and a value for each,
-- and there are as many as there are both.
abbrev pub attributes_with : List (List ℕ) → List TreeAttribute → List (ℕ × NamespacedAttribute)
attributes_with [] places = []
attributes_with (name ∷ []) places = []
attributes_with (name ∷ value ∷ strings) [] = []
attributes_with (name ∷ value ∷ strings) (place ∷ places) =
    (place.element, record { namespace = place.namespace; name = name; value = value })
    ∷ attributes_with strings places

-- an attribute, if it is in a namespace and of the element at this index
abbrev pub attribute_of : (index : ℕ) → ℕ × NamespacedAttribute → Option NamespacedAttribute
attribute_of index placed =
    if placed.0 == index && nat_lt 0 placed.1.namespace then Some placed.1 else None

-- those of the element at an index, in order
abbrev pub attributes_of : List (ℕ × NamespacedAttribute) → (index : ℕ) → List NamespacedAttribute
attributes_of placed index = filter_map (attribute_of index) placed

-- those of each element, of which there are this many
abbrev pub attributes_by : (count : ℕ) → List (ℕ × NamespacedAttribute) → List (List NamespacedAttribute)
attributes_by count placed = map (attributes_of placed) (range_with_len 0 count)

-- ---- where an element is among the others

-- the greatest depth of an element after others of these depths: a root's, or one more than that of
-- the last
abbrev pub limit_after : List ℕ → ℕ
limit_after [] = 0
limit_after (d ∷ []) = d + 1
limit_after (d ∷ e ∷ ds) = limit_after (e ∷ ds)

-- the last index at which a depth is
abbrev pub last_with : ℕ → List ℕ → Option ℕ
last_with depth [] = None
last_with depth (d ∷ ds) =
    elim (last_with depth ds) [
      | Some i ↦ Some (suc i)
      | None ↦ (if d == depth then Some 0 else None)
    ]

-- the parent of an element: the last one before it whose depth is one less; a root has none
abbrev pub parent_after : List ℕ → ℕ → Option ℕ
parent_after depths zero = None
parent_after depths (suc depth) = last_with depth depths

-- the indices of the last element and its ancestors, from the root on
pub record IsPath (path depths : List ℕ) : Type 0 where
  pub limit : length path ≡ limit_after depths
  pub each : (d : ℕ) → d < length path → last_with d depths ≡ Some (slice_index path d)

-- ---- what an element has, by its strings

-- the name
abbrev pub name_in : List (List ℕ) → List ℕ
name_in strings = slice_index_or strings 0 []

-- the strings after the name
abbrev pub fields_in : List (List ℕ) → List (List ℕ)
fields_in strings = drop 1 strings

-- the key of the attribute at an index, by the strings after the name
abbrev pub key_in : List (List ℕ) → ℕ → List ℕ
key_in fields i = slice_index_or fields (2 * i) []

-- its value
abbrev pub value_in : List (List ℕ) → ℕ → List ℕ
value_in fields i = slice_index_or fields (2 * i + 1) []

-- the keys of the first attributes
abbrev pub keys_in : List (List ℕ) → ℕ → List (List ℕ)
keys_in fields count = map (key_in fields) (range_with_len 0 count)

-- the first attributes, each a key and a value
abbrev pub attributes_in : List (List ℕ) → ℕ → List (List ℕ × List ℕ)
attributes_in fields count =
    map (λ i. (key_in fields i, value_in fields i)) (range_with_len 0 count)

-- whether one of the keys is this one
abbrev pub has_key : List (List ℕ) → List ℕ → Bool
has_key keys key = list_any (λ k. bytes_eq k key) keys

-- whether one of the first attributes has the key of an earlier one
abbrev pub repeats_key : List (List ℕ) → ℕ → Bool
repeats_key fields zero = false
repeats_key fields (suc i) = repeats_key fields i || has_key (keys_in fields i) (key_in fields i)

-- how many strings an element has
abbrev pub strings_of : TreeElement → ℕ
strings_of element = 2 * element.attributes + 1

-- whether the sum of different powers of two has this one
abbrev pub has_bit : ℕ → ℕ → Bool
has_bit sum power = (sum / power % 2) == 1

-- the states whose sum this is: 1 is `:link`, 2 `:visited`, 4 `:hover`, 8 `:active`, 16 `:focus`
abbrev pub states_in : ℕ → States
states_in sum = record {
  link = has_bit sum 1;
  visited = has_bit sum 2;
  hover = has_bit sum 4;
  active = has_bit sum 8;
  focus = has_bit sum 16;
}

-- whether an element has a text of its own that is not empty
abbrev pub has_text : TreeElement → Bool
has_text element = has_bit element.states 32

-- whether an element is the one that `:scope` matches
abbrev pub is_scope : TreeElement → Bool
is_scope element = has_bit element.states 64

-- the index of the first of these, if there is one
abbrev pub scope_in : List TreeElement → Option ℕ
scope_in = position is_scope

-- The states of these names, by the power of two that the first has in the sum of an element's states; each
-- other one has twice that of the one before it. A power past 2^62 is of no state.
abbrev pub states_from : (power : ℕ) → List (List ℕ) → List TreeElement → List NamedState
states_from power [] elements = []
states_from power (name ∷ names) elements =
    if nat_lt power (2 ^ 63)
    then record { name = name; elements = map (λ element. has_bit element.states power) elements }
    ∷ states_from (2 * power) names elements
    else []

-- the states of these names
abbrev pub named_states : List (List ℕ) → List TreeElement → List NamedState
named_states names elements = states_from 128 names elements

-- the element of a tree, where it is the last child of its parent, in no state
abbrev pub element_row : List Row → Option ℕ → List ℕ → List (List ℕ) → ℕ → Row
element_row rows parent name fields count = record {
  name = name;
  attributes = attributes_in fields count;
  parent = parent;
  previous = last_child rows parent;
  states = no_states;
}

-- ---- the tree

-- what is wrong with an element of this number, of which the strings that are left have the first
abbrev pub fault_in : ℕ → ℕ → TreeElement → List (List ℕ) → Option ElementFault
fault_in number limit element strings =
    if nat_lt limit element.depth then Some (BadDepth number)
    else (if nat_lt (length strings) (strings_of element) then Some (BadStrings number)
    else (if length (name_in strings) == 0 then Some (EmptyName number)
    else (if repeats_key (fields_in strings) element.attributes then Some (RepeatedKey number)
    else None)))

-- the rows before an element, and that of the element
abbrev pub with_element : List Row → List ℕ → TreeElement → List (List ℕ) → List Row
with_element rows depths element strings =
    rows ++ row_in (element_row rows (parent_after depths element.depth) (name_in strings)
    (fields_in strings) element.attributes) (states_in element.states) ∷ []

-- The tree whose first elements have these rows and depths, and whose other elements have the
-- strings that are left; or the fault of its first faulty element. Strings that no element has are
-- a fault of one more element.
abbrev pub tree_from : List Row → List ℕ → Strings → List TreeElement
    → Result (List Row) ElementFault
tree_from rows depths left [] =
    if length left.strings == 0 && left.are_all then Ok rows else Err (BadStrings (length rows + 1))
tree_from rows depths left (element ∷ elements) =
    elim (fault_in (length rows + 1) (limit_after depths) element left.strings) [
      | Some fault ↦ Err fault
      | None ↦
          tree_from (with_element rows depths element left.strings) (depths ++ element.depth ∷ [])
          (record { strings = drop (strings_of element) left.strings; are_all = left.are_all })
          elements
    ]

-- the tree of the elements, or the fault of the first that has one
abbrev pub tree_of : List TreeElement → List ℕ → List ℕ → (attributes states prefixes : ℕ)
    → Result (List Row) ElementFault
tree_of elements buffer ends attributes states prefixes =
    tree_from [] []
    (all_but (2 * attributes) (all_but states (all_but prefixes (strings_in buffer ends)))) elements

-- the number of the kind of fault
abbrev pub fault_number : ElementFault → ℕ
fault_number (BadDepth element) = 1
fault_number (EmptyName element) = 2
fault_number (BadStrings element) = 3
fault_number (RepeatedKey element) = 4

-- the number of the element that has the fault
abbrev pub fault_element : ElementFault → ℕ
fault_element (BadDepth element) = element
fault_element (EmptyName element) = element
fault_element (BadStrings element) = element
fault_element (RepeatedKey element) = element
