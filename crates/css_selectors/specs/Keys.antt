-- Keys: conditions of which each element that a selector matches satisfies one. By these an index
-- finds the selectors that can match an element.
use Rattle.std.specs.Prelude.{ℕ, ◌-◌, Bool, true, List, [], ◌∷◌, length, slice_get, min, nat_lt, if◌then◌else◌}
use Rattle.std.specs.Option.{option_map_or}
use Rattle.css_selectors.specs.Documents.{Document}
use Rattle.css_selector_text.specs.Components.Local.{any_type, a_type, some_attribute, an_attribute, implied}
use Rattle.css_selector_text.specs.Components.{Namespace, Local, is_absent, Simple, Condition, Conditions, Parts, Selectors, Part, Selector}
use Rattle.css_selector_text.specs.Components.Simple.{universal, type_name, id, class, has_attribute, attribute, structure, language, state, function, named_element, nesting, namespaced}
use Rattle.css_selector_text.specs.Components.Condition.{simple, negation, any_of, where_any, tested}
use Rattle.css_selector_text.specs.Components.Conditions.{end_of_compound, with_condition}
use Rattle.css_selector_text.specs.Components.Parts.{end_of_selector, with_part}
use Rattle.css_selector_text.specs.Components.Selectors.{end_of_list, with_selector}
use Rattle.css_selectors.specs.Meanings.{holds}

-- an id, a class, a type name, the name of an attribute in no namespace, or no condition
pub data Key : Type 0 where
  by_id : List ℕ → Key
  by_class : List ℕ → Key
  by_name : List ℕ → Key
  by_attribute : List ℕ → Key
  by_nothing : Key

-- whether a node has the key
abbrev pub has_key : {Node : Type 0} → Document Node → Node → Key → Bool
has_key document n (by_id text) = holds document n (id text)
has_key document n (by_class word) = holds document n (class word)
has_key document n (by_name name) = holds document n (type_name name)
has_key document n (by_attribute name) = holds document n (has_attribute name)
has_key document n by_nothing = true

-- the key that what is in a namespace requires: an attribute that may be in one has none
abbrev pub local_key : Namespace → Local → Key
local_key namespace any_type = by_nothing
local_key namespace (a_type name) = by_name name
local_key namespace (some_attribute name) =
    if is_absent namespace then by_attribute name else by_nothing
local_key namespace (an_attribute name comparison text ignores) =
    if is_absent namespace then by_attribute name else by_nothing
local_key namespace implied = by_nothing

-- the key that a simple selector requires
abbrev pub simple_key : Simple → Key
simple_key universal = by_nothing
simple_key (type_name name) = by_name name
simple_key (id text) = by_id text
simple_key (class word) = by_class word
simple_key (has_attribute name) = by_attribute name
simple_key (attribute name comparison text ignores) = by_attribute name
simple_key (structure s) = by_nothing
simple_key (language ranges) = by_nothing
simple_key (state name) = by_nothing
simple_key (function name argument) = by_nothing
simple_key (named_element name argument) = by_nothing
simple_key (nesting list) = by_nothing
simple_key (namespaced namespace local) = local_key namespace local

-- how few elements have a key: the greater, the fewer
abbrev pub rank : Key → ℕ
rank (by_id text) = 4
rank (by_class word) = 3
rank (by_name name) = 2
rank (by_attribute name) = 1
rank by_nothing = 0

-- the second key if it has a greater rank
abbrev pub better_key : Key → Key → Key
better_key one other = if nat_lt (rank one) (rank other) then other else one

-- the key that a condition of a compound selector in a list requires: a list in it has none
abbrev pub lone_key : Condition → Key
lone_key (simple s) = simple_key s
lone_key (negation selectors) = by_nothing
lone_key (any_of selectors) = by_nothing
lone_key (where_any selectors) = by_nothing
lone_key (tested test selectors) = by_nothing

-- the first key of the greatest rank among this one and those of conditions
abbrev pub best_key : Key → Conditions → Key
best_key best end_of_compound = best
best_key best (with_condition c conditions) = best_key (better_key best (lone_key c)) conditions

-- the key of a compound selector in a list
abbrev pub compound_key : Conditions → Key
compound_key conditions = best_key by_nothing conditions

-- the last compound selector of these parts, after one
abbrev pub subject_from : Conditions → Parts → Conditions
subject_from last end_of_selector = last
subject_from last (with_part k c parts) = subject_from c parts

-- the key of a complex selector in a list: that of its last compound selector
abbrev pub parts_key : Parts → Key
parts_key parts = compound_key (subject_from end_of_compound parts)

-- those of the complex selectors of a list
abbrev pub selector_keys : Selectors → List Key
selector_keys end_of_list = []
selector_keys (with_selector s selectors) = parts_key s ∷ selector_keys selectors

-- the keys of a condition, of which a node that satisfies it has one; nothing within `:not()`
-- is a key, nor within a list that is answered by its number
abbrev pub condition_keys : Condition → List Key
condition_keys (simple s) = simple_key s ∷ []
condition_keys (negation selectors) = by_nothing ∷ []
condition_keys (any_of selectors) = selector_keys selectors
condition_keys (where_any selectors) = selector_keys selectors
condition_keys (tested test selectors) = by_nothing ∷ []

-- the least rank of keys
abbrev pub least_rank : List Key → ℕ
least_rank [] = 4
least_rank (key ∷ keys) = min (rank key) (least_rank keys)

-- the second keys if their least rank is greater
abbrev pub better_keys : List Key → List Key → List Key
better_keys one other = if nat_lt (least_rank one) (least_rank other) then other else one

-- the first keys of the greatest least rank among these and those of conditions
abbrev pub best_keys : List Key → List Condition → List Key
best_keys best [] = best
best_keys best (c ∷ cs) = best_keys (better_keys best (condition_keys c)) cs

-- the conditions of the part at an index
abbrev pub conditions_at : List Part → ℕ → List Condition
conditions_at parts i = option_map_or (λ p. p.conditions) (slice_get parts i) []

-- the keys of a selector: those of a condition of its last compound selector
abbrev pub keys_of : Selector → List Key
keys_of s = best_keys (by_nothing ∷ []) (conditions_at s.parts (length s.parts - 1))
