-- The keys that a selector requires of an element's ancestors, and selectors that require nothing
-- but one of their keys.
use Rattle.std.specs.Prelude.{◌≡◌, ℕ, zero, suc, ◌-◌, ◌&&◌, Bool, true, false, List, [], ◌∷◌, ◌++◌, length, IsTrue, Some, is_none}
use Rattle.css_matching.specs.Placements.{IsBeyond}
use Rattle.css_matching.specs.declared.Combinator.{Combinator}
use Rattle.css_matching.specs.declared.Combinator.TheVariants.{Descendant, Child, Adjacent, Sibling}
use Rattle.css_selectors.specs.Documents.{Document}
use Rattle.css_selector_text.specs.Components.{Simple, Condition, Conditions, Parts, Selectors, Part, Selector, parts_from}
use Rattle.css_selector_text.specs.Components.Simple.{universal, type_name, id, class, has_attribute, attribute, structure, language, state, function, named_element, nesting, namespaced}
use Rattle.css_selector_text.specs.Components.Condition.{simple, negation, any_of, where_any, tested}
use Rattle.css_selector_text.specs.Components.Conditions.{end_of_compound, with_condition}
use Rattle.css_selector_text.specs.Components.Parts.{end_of_selector, with_part}
use Rattle.css_selector_text.specs.Components.Selectors.{end_of_list, with_selector}
use Rattle.css_selectors.specs.Keys.{Key, has_key, best_keys, conditions_at}
use Rattle.css_selectors.specs.Keys.Key.{by_id, by_class, by_name, by_attribute, by_nothing}
use Rattle.css_selectors.specs.Meanings.{combinator_at}

-- the keys of conditions: those of one of them
abbrev pub keys_among : List Condition → List Key
keys_among conditions = best_keys (by_nothing ∷ []) conditions

-- a key if it is one alone
abbrev pub alone : List Key → List Key
alone [] = []
alone (key ∷ []) = key ∷ []
alone (key ∷ other ∷ keys) = []

-- the key of the part before, if the combinator leads to an ancestor
abbrev pub step_keys : Combinator → List Condition → List Key
step_keys Descendant conditions = alone (keys_among conditions)
step_keys Child conditions = alone (keys_among conditions)
step_keys Adjacent conditions = []
step_keys Sibling conditions = []

-- the keys of the parts before the one at an index to which a child or a descendant combinator leads
-- back
abbrev pub keys_before : List Part → ℕ → List Key
keys_before parts zero = []
keys_before parts (suc i) =
    keys_before parts i ++ step_keys (combinator_at (parts_from parts) (suc i)) (conditions_at parts i)

-- the keys that an element's ancestors must have for the selector to match it
abbrev pub ancestor_keys : Selector → List Key
ancestor_keys s = keys_before s.parts (length s.parts - 1)

-- the key of the part before, if the combinator leads to the parent
abbrev pub parent_step_keys : Combinator → List Condition → List Key
parent_step_keys Descendant conditions = []
parent_step_keys Child conditions = alone (keys_among conditions)
parent_step_keys Adjacent conditions = []
parent_step_keys Sibling conditions = []

-- the key of the part before the one at an index, if the combinator leads to the parent
abbrev pub keys_of_parent : List Part → ℕ → List Key
keys_of_parent parts zero = []
keys_of_parent parts (suc i) =
    parent_step_keys (combinator_at (parts_from parts) (suc i)) (conditions_at parts i)

-- the keys that an element's parent must have for the selector to match it
abbrev pub parent_keys : Selector → List Key
parent_keys s = keys_of_parent s.parts (length s.parts - 1)

-- the node has a parent, which has the key
abbrev pub ParentHas : {Node : Type 0} → Document Node → Node → Key → Type 0
ParentHas {Node} document n key =
    (a : Node) × (document.parent n ≡ Some a) × IsTrue (has_key document a key)

-- an ancestor of the node has the key
abbrev pub SomeAncestorHas : {Node : Type 0} → Document Node → Node → Key → Type 0
SomeAncestorHas {Node} document n key =
    (a : Node) × IsBeyond document.parent a n × IsTrue (has_key document a key)

-- whether it is an id or a class
abbrev pub is_exact : Simple → Bool
is_exact universal = false
is_exact (type_name name) = false
is_exact (id text) = true
is_exact (class word) = true
is_exact (has_attribute name) = false
is_exact (attribute name comparison text ignores) = false
is_exact (structure s) = false
is_exact (language ranges) = false
is_exact (state name) = false
is_exact (function name argument) = false
is_exact (named_element name argument) = false
is_exact (nesting list) = false
is_exact (namespaced namespace local) = false

-- whether it is an id, a class or `*`
abbrev pub is_whole : Simple → Bool
is_whole universal = true
is_whole (type_name name) = false
is_whole (id text) = true
is_whole (class word) = true
is_whole (has_attribute name) = false
is_whole (attribute name comparison text ignores) = false
is_whole (structure s) = false
is_whole (language ranges) = false
is_whole (state name) = false
is_whole (function name argument) = false
is_whole (named_element name argument) = false
is_whole (nesting list) = false
is_whole (namespaced namespace local) = false

-- whether the key is an id, a class or no condition
abbrev pub is_exact_key : Key → Bool
is_exact_key (by_id text) = true
is_exact_key (by_class word) = true
is_exact_key (by_name name) = false
is_exact_key (by_attribute name) = false
is_exact_key by_nothing = true

abbrev pub is_exact_condition : Condition → Bool
is_exact_condition (simple s) = is_exact s
is_exact_condition (negation selectors) = false
is_exact_condition (any_of selectors) = false
is_exact_condition (where_any selectors) = false
is_exact_condition (tested test selectors) = false

-- whether it is one id or one class
abbrev pub is_one_id_or_class : Conditions → Bool
is_one_id_or_class end_of_compound = false
is_one_id_or_class (with_condition c end_of_compound) = is_exact_condition c
is_one_id_or_class (with_condition c (with_condition d conditions)) = false

-- whether it is a lone compound selector, of one id or one class
abbrev pub is_lone_id_or_class : Parts → Bool
is_lone_id_or_class end_of_selector = false
is_lone_id_or_class (with_part k c end_of_selector) = is_one_id_or_class c
is_lone_id_or_class (with_part k c (with_part l d parts)) = false

-- whether each is one id or one class
abbrev pub are_exact : Selectors → Bool
are_exact end_of_list = true
are_exact (with_selector s selectors) = is_lone_id_or_class s && are_exact selectors

-- whether it is an id, a class, `*`, or a list of ids and classes
abbrev pub is_only_key : Condition → Bool
is_only_key (simple s) = is_whole s
is_only_key (negation selectors) = false
is_only_key (any_of selectors) = are_exact selectors
is_only_key (where_any selectors) = are_exact selectors
is_only_key (tested test selectors) = false

-- whether it is one such condition
abbrev pub are_only_keys : List Condition → Bool
are_only_keys [] = false
are_only_keys (c ∷ []) = is_only_key c
are_only_keys (c ∷ d ∷ conditions) = false

-- whether it is one part, of one such condition
abbrev pub are_only_part : List Part → Bool
are_only_part [] = false
are_only_part (part ∷ []) = are_only_keys part.conditions
are_only_part (part ∷ next ∷ parts) = false

-- whether the selector requires nothing but one of its keys, each an id, a class or no condition
abbrev pub is_only_keys : Selector → Bool
is_only_keys s = is_none s.pseudo_element && are_only_part s.parts
