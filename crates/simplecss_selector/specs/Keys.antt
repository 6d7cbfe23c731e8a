-- Keys: a condition that the last component of a selector includes, and what an element reports of
-- itself. By these an index finds the selectors that can match an element.
use Rattle.std.specs.Prelude.{ℕ, ◌-◌, List, [], ◌∷◌, Option, Some, None, Bool, true, false, IsTrue, bytes_eq, codes, length, if◌then◌else◌}
use Rattle.std.specs.Option.{option_or, option_map_or}
use Rattle.simplecss_grammar.specs.Components.{Operator, Subselector, Compound, Component}
use Rattle.simplecss_grammar.specs.Components.Operator.{exists, equals, has_word, begins_with}
use Rattle.simplecss_grammar.specs.Components.Subselector.{attribute, pseudo_class}
use Rattle.simplecss_selector.specs.Operators.{is_satisfied}
use Rattle.simplecss_selector.specs.Shapes.{component_at}
use Rattle.simplecss_selector.specs.Trees.{Tree}

-- an id, a class, a type name, an attribute's name, or no condition
pub data Key : Type 0 where
  by_id : List ℕ → Key
  by_class : List ℕ → Key
  by_name : List ℕ → Key
  by_attribute : List ℕ → Key
  by_nothing : Key

-- the text that the value must equal, if the operator requires one
abbrev pub equal_text : Operator → Option (List ℕ)
equal_text exists = None
equal_text (equals text) = Some text
equal_text (has_word word) = None
equal_text (begins_with start) = None

-- the word that the value must have, if the operator requires one
abbrev pub wanted_word : Operator → Option (List ℕ)
wanted_word exists = None
wanted_word (equals text) = None
wanted_word (has_word word) = Some word
wanted_word (begins_with start) = None

-- the id that a subselector requires: the text that an attribute `id` must equal
abbrev pub required_id : Subselector → Option (List ℕ)
required_id (attribute name operator) =
    if bytes_eq name (codes "id") then equal_text operator else None
required_id (pseudo_class class) = None

-- the class that a subselector requires: the word that an attribute `class` must have
abbrev pub required_class : Subselector → Option (List ℕ)
required_class (attribute name operator) =
    if bytes_eq name (codes "class") then wanted_word operator else None
required_class (pseudo_class class) = None

-- the name of the attribute that a subselector tests, whatever its value must be
abbrev pub required_attribute : Subselector → Option (List ℕ)
required_attribute (attribute name operator) = Some name
required_attribute (pseudo_class class) = None

-- the first text that one of the subselectors requires
abbrev pub first_required : (Subselector → Option (List ℕ)) → List Subselector → Option (List ℕ)
first_required required [] = None
first_required required (s ∷ ss) = option_or (required s) (first_required required ss)

-- the id, or else the class, or else the type name, or else the attribute, or else no condition
abbrev pub key_among : Option (List ℕ) → Option (List ℕ) → Option (List ℕ) → Option (List ℕ) → Key
key_among (Some text) class name other = by_id text
key_among None (Some word) name other = by_class word
key_among None None (Some name) other = by_name name
key_among None None None (Some other) = by_attribute other
key_among None None None None = by_nothing

-- the first id that a compound requires, or else the first class, or else its type name, or else
-- the first attribute, or else no condition
abbrev pub compound_key : Compound → Key
compound_key compound =
    key_among
    (first_required required_id compound.subselectors)
    (first_required required_class compound.subselectors)
    compound.name
    (first_required required_attribute compound.subselectors)

-- the key of a selector is that of its last component
abbrev pub key_of : List Component → Key
key_of components = compound_key (component_at components (length components - 1)).compound

-- the node has the key; an attribute may have any value
abbrev pub HasKey : {Node : Type 0} → Tree Node → Node → Key → Type 0
HasKey tree n (by_id text) = IsTrue (tree.has_attribute n (codes "id") (equals text))
HasKey tree n (by_class word) = IsTrue (tree.has_attribute n (codes "class") (has_word word))
HasKey tree n (by_name name) = IsTrue (tree.is_named n name)
HasKey tree n (by_attribute name) =
    (operator : Operator) × IsTrue (tree.has_attribute n name operator)
HasKey tree n by_nothing = IsTrue true

-- whether there is a value, and it satisfies the operator
abbrev pub has_satisfying_value : Operator → Option (List ℕ) → Bool
has_satisfying_value operator value = option_map_or (is_satisfied operator) value false

-- what an element reports of itself: its name, the values of its attributes `id` and `class`, if it
-- has them, and which attributes it has
pub record Reported : Type 0 where
  pub name : List ℕ
  pub id : Option (List ℕ)
  pub class : Option (List ℕ)
  pub has_attribute : List ℕ → Bool

-- whether what is reported includes the key
abbrev pub reports_key : Reported → Key → Bool
reports_key reported (by_id text) = has_satisfying_value (equals text) reported.id
reports_key reported (by_class word) = has_satisfying_value (has_word word) reported.class
reports_key reported (by_name name) = bytes_eq reported.name name
reports_key reported (by_attribute name) = reported.has_attribute name
reports_key reported by_nothing = true

-- every key that the node has is reported; more may be reported
abbrev pub ReportsKeys : {Node : Type 0} → Tree Node → Node → Reported → Type 0
ReportsKeys tree n reported = (key : Key) → HasKey tree n key → IsTrue (reports_key reported key)
