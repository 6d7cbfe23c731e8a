-- Selectors under a scope, as `css_selector_text` reads them.
use Rattle.std.specs.Prelude.{ℕ, Bool, true, false, ◌&&◌, List, [], ◌∷◌, if◌then◌else◌, bytes_eq, is_none, Option, Some, None}
use Rattle.css_matching.specs.declared.Combinator.{Combinator}
use Rattle.css_matching.specs.declared.Combinator.TheVariants.{Descendant, Child, Adjacent, Sibling}
use Rattle.css_selector_text.specs.Components.{Simple, Condition, Part, Selector, Placed}
use Rattle.css_selector_text.specs.Components.Simple.{type_name, id, class}
use Rattle.css_selector_text.specs.Components.Condition.{simple}
use Rattle.css_selector_text.specs.Names.{no_names}
use Rattle.css_selector_text.specs.reading.Readings.{Reading, got, refused}
use Rattle.css_selector_text.specs.reading.Supported.{supported_selector}

-- ---- compounds of names, ids and classes

abbrev pub is_type : (name : List ℕ) → Simple → Bool
is_type name (type_name other) = bytes_eq name other
is_type name _ = false

abbrev pub is_id : (name : List ℕ) → Simple → Bool
is_id name (id other) = bytes_eq name other
is_id name _ = false

abbrev pub is_class : (name : List ℕ) → Simple → Bool
is_class name (class other) = bytes_eq name other
is_class name _ = false

-- both are the same type selector, the same id or the same class
abbrev pub is_same_simple : Simple → Simple → Bool
is_same_simple (type_name name) other = is_type name other
is_same_simple (id name) other = is_id name other
is_same_simple (class name) other = is_class name other
is_same_simple _ other = false

abbrev pub is_simple : Simple → Condition → Bool
is_simple s (simple other) = is_same_simple s other
is_simple s _ = false

abbrev pub is_same : Condition → Condition → Bool
is_same (simple s) other = is_simple s other
is_same _ other = false

-- both compounds have the same of these, in the same order, and nothing else
abbrev pub are_same : (scope conditions : List Condition) → Bool
are_same [] [] = true
are_same [] (c ∷ conditions) = false
are_same (s ∷ scope) [] = false
are_same (s ∷ scope) (c ∷ conditions) = is_same s c && are_same scope conditions

-- ---- complex selectors

-- a compound that is joined so is on a descendant
abbrev pub leads_within : Combinator → Bool
leads_within Descendant = true
leads_within Child = true
leads_within Adjacent = false
leads_within Sibling = false

-- what may follow the scope: a descendant or a child of it, or nothing, if the scope itself may be meant
abbrev pub may_follow : (itself : Bool) → List Part → Bool
may_follow itself [] = itself
may_follow itself (part ∷ parts) = leads_within part.combinator

abbrev pub begins_with : (itself : Bool) → Part → (parts : List Part) → Bool
begins_with itself scope [] = false
begins_with itself scope (part ∷ parts) =
    are_same scope.conditions part.conditions && may_follow itself parts

-- the selector begins with the one compound of the scope, and what follows it is within
abbrev pub is_under_scope : (itself : Bool) → (scope parts : List Part) → Bool
is_under_scope itself [] parts = false
is_under_scope itself (part ∷ []) parts = begins_with itself part parts
is_under_scope itself (part ∷ more ∷ scope) parts = false

-- each selector of a list does
abbrev pub are_under_scope : (itself : Bool) → (scope : List Part) → List Placed → Bool
are_under_scope itself scope [] = true
are_under_scope itself scope (one ∷ all) =
    is_under_scope itself scope one.selector.parts && are_under_scope itself scope all

-- a text was read as a list of such selectors
abbrev pub is_read_under : (itself : Bool) → (scope : List Part) → Reading (List Placed) → Bool
is_read_under itself scope (got all rest) = are_under_scope itself scope all
is_read_under itself scope (refused why rest) = false

-- ---- the scope

-- it is one compound of names, ids and classes: one that it begins with itself
abbrev pub is_compound : Selector → Bool
is_compound s = is_none s.pseudo_element && is_under_scope true s.parts s.parts

abbrev pub if_compound : Selector → Option Selector
if_compound s = if is_compound s then Some s else None

abbrev pub if_read : Reading Selector → Option Selector
if_read (got s rest) = if_compound s
if_read (refused why rest) = None

-- the selector that the text is, if it is one such compound
abbrev pub compound_read : List ℕ → Option Selector
compound_read text = if_read (supported_selector no_names text)
