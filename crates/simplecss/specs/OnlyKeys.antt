-- Selectors that require nothing but their key.
use Rattle.std.specs.Prelude.{ℕ, ◌&&◌, List, [], ◌∷◌, Option, Some, None, Bool, true, false, bytes_eq, codes, not, filter}
use Rattle.std.specs.List.{list_all}
use Rattle.simplecss_grammar.specs.Components.{Component, Compound, Subselector, Operator}
use Rattle.simplecss_grammar.specs.Components.Subselector.{attribute, pseudo_class}
use Rattle.simplecss_grammar.specs.Components.Operator.{exists, equals, has_word, begins_with}
use Rattle.simplecss_selector.specs.Keys.{Key}
use Rattle.simplecss_selector.specs.Keys.Key.{by_id, by_class, by_name, by_attribute, by_nothing}
use Rattle.simplecss_selector.specs.Buckets.{Bucket, bucket_of}
use Rattle.simplecss_selector.specs.Buckets.Bucket.{of_element, of_parent, of_previous}

-- whether the operator is satisfied exactly by this text
abbrev pub is_equals : List ℕ → Operator → Bool
is_equals text exists = false
is_equals text (equals other) = bytes_eq text other
is_equals text (has_word other) = false
is_equals text (begins_with other) = false

-- whether the operator is satisfied exactly by values with this word
abbrev pub is_has_word : List ℕ → Operator → Bool
is_has_word word exists = false
is_has_word word (equals other) = false
is_has_word word (has_word other) = bytes_eq word other
is_has_word word (begins_with other) = false

-- whether the key is the name
abbrev pub only_named : Key → List ℕ → Bool
only_named (by_id text) name = false
only_named (by_class word) name = false
only_named (by_name known) name = bytes_eq known name
only_named (by_attribute known) name = false
only_named by_nothing name = false

-- whether the key is the id or the class that the operator on an attribute requires
abbrev pub only_has : Key → List ℕ → Operator → Bool
only_has (by_id text) name operator = is_equals text operator && bytes_eq name (codes "id")
only_has (by_class word) name operator = is_has_word word operator && bytes_eq name (codes "class")
only_has (by_name known) name operator = false
only_has (by_attribute known) name operator = false
only_has by_nothing name operator = false

-- whether the key is all that the type name requires, if there is one
abbrev pub only_name : Key → Option (List ℕ) → Bool
only_name key None = true
only_name key (Some name) = only_named key name

-- whether the key is all that the subselector requires
abbrev pub only_holds : Key → Subselector → Bool
only_holds key (attribute name operator) = only_has key name operator
only_holds key (pseudo_class class) = false

-- whether the key is all that the selector requires: it is one compound selector
abbrev pub only_meets : Key → List Component → Bool
only_meets key [] = false
only_meets key (c ∷ []) =
    only_name key c.compound.name && list_all (only_holds key) c.compound.subselectors
only_meets key (c ∷ d ∷ cs) = false

-- whether the key of the bucket, which the element itself must have, is all that the selector requires
abbrev pub requires_only : Bucket → List Component → Bool
requires_only (of_element key) selector = only_meets key selector
requires_only (of_parent key) selector = false
requires_only (of_previous key) selector = false

-- whether the selector requires nothing but its key
abbrev pub requires_only_key : List Component → Bool
requires_only_key selector = requires_only (bucket_of selector) selector
