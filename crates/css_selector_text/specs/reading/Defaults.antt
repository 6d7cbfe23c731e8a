-- The default namespace (Selectors 4, sections 5.1 and 4.2): a type selector without a namespace is in it,
-- and so is a compound selector without a type selector. But not one that is the subject of a selector
-- within `:is()`, `:not()`, `:where()` or `:has()`.
use Rattle.std.specs.Prelude.{ℕ, Bool, true, false, not, ◌&&◌, ◌||◌, if◌then◌else◌, List, [], ◌∷◌, map, Option, None, Some}
use Rattle.css_selector_text.specs.Components.{Local, Simple, ListTest, Condition, Conditions, Parts, Selectors, Part, Selector}
use Rattle.css_selector_text.specs.Components.ListTest.{has, nth_child, nth_last_child}
use Rattle.css_selector_text.specs.Components.Namespace.{default}
use Rattle.css_selector_text.specs.Components.Local.{any_type, a_type, some_attribute, an_attribute, implied}
use Rattle.css_selector_text.specs.Components.Simple.{universal, type_name, namespaced}
use Rattle.css_selector_text.specs.Components.Condition.{simple, negation, any_of, where_any, tested}
use Rattle.css_selector_text.specs.Components.Conditions.{end_of_compound, with_condition}
use Rattle.css_selector_text.specs.Components.Parts.{end_of_selector, with_part}
use Rattle.css_selector_text.specs.Components.Selectors.{end_of_list, with_selector}
use Rattle.css_selector_text.specs.Names.{Names}

-- a type selector without a namespace is in this one
abbrev pub type_in : ℕ → Simple → Simple
type_in number universal = namespaced (default number) any_type
type_in number (type_name name) = namespaced (default number) (a_type name)
type_in number s = s

abbrev pub is_local_type : Local → Bool
is_local_type any_type = true
is_local_type (a_type name) = true
is_local_type (some_attribute name) = false
is_local_type (an_attribute name comparison text ignores) = false
is_local_type implied = true

-- a type selector, with a namespace or without one
abbrev pub is_type : Simple → Bool
is_type universal = true
is_type (type_name name) = true
is_type (namespaced namespace local) = is_local_type local
is_type s = false

abbrev pub is_type_condition : Condition → Bool
is_type_condition (simple s) = is_type s
is_type_condition (negation selectors) = false
is_type_condition (any_of selectors) = false
is_type_condition (where_any selectors) = false
is_type_condition (tested test selectors) = false

-- what is not written of a compound selector without a type selector
abbrev pub implied_in : ℕ → Condition
implied_in number = simple (namespaced (default number) implied)

-- the subjects of the selectors within a list of this kind are exempt
abbrev pub is_exempting : ListTest → Bool
is_exempting has = true
is_exempting (nth_child p) = false
is_exempting (nth_last_child p) = false

abbrev pub begins_typed : Conditions → Bool
begins_typed end_of_compound = false
begins_typed (with_condition c conditions) = is_type_condition c

abbrev pub with_implied : ℕ → Bool → Conditions → Conditions
with_implied number is_implied conditions =
    if is_implied then with_condition (implied_in number) conditions else conditions

abbrev pub is_end : Parts → Bool
is_end end_of_selector = true
is_end (with_part k c parts) = false

abbrev mutual
  -- a condition within a list, whose subjects may be exempt, or within none
  pub condition_in : ℕ → Bool → Condition → Condition
  condition_in number exempting (simple s) = simple (type_in number s)
  condition_in number exempting (negation selectors) = negation (selectors_in number true selectors)
  condition_in number exempting (any_of selectors) = any_of (selectors_in number true selectors)
  condition_in number exempting (where_any selectors) =
      where_any (selectors_in number true selectors)
  condition_in number exempting (tested test selectors) =
      tested test (selectors_in number (exempting || is_exempting test) selectors)

  -- the conditions that are written of a compound selector
  pub compound_in : ℕ → Bool → Conditions → Conditions
  compound_in number exempting end_of_compound = end_of_compound
  compound_in number exempting (with_condition c conditions) =
      with_condition (condition_in number exempting c) (compound_in number exempting conditions)

  -- a complex selector, of which the last compound selector may be exempt
  pub complex_in : ℕ → Bool → Parts → Parts
  complex_in number exempting end_of_selector = end_of_selector
  complex_in number exempting (with_part k c parts) =
      with_part k
      (with_implied number (not (begins_typed c || exempting && is_end parts))
      (compound_in number exempting c))
      (complex_in number exempting parts)

  pub selectors_in : ℕ → Bool → Selectors → Selectors
  selectors_in number exempting end_of_list = end_of_list
  selectors_in number exempting (with_selector s selectors) =
      with_selector (complex_in number exempting s) (selectors_in number exempting selectors)

abbrev pub is_typed : List Condition → Bool
is_typed [] = false
is_typed (c ∷ conditions) = is_type_condition c

-- a compound selector within a list, which is the last one or not
abbrev pub row_in : ℕ → (exempting is_last : Bool) → List Condition → List Condition
row_in number exempting is_last conditions =
    if not (is_typed conditions || exempting && is_last)
    then implied_in number ∷ map (condition_in number exempting) conditions
    else map (condition_in number exempting) conditions

abbrev pub part_in : ℕ → (exempting is_last : Bool) → Part → Part
part_in number exempting is_last part = record {
  combinator = part.combinator;
  conditions = row_in number exempting is_last part.conditions;
}

abbrev pub is_last_part : List Part → Bool
is_last_part [] = true
is_last_part (part ∷ parts) = false

-- compound selectors, of which the last may be exempt
abbrev pub parts_in : ℕ → Bool → List Part → List Part
parts_in number exempting [] = []
parts_in number exempting (part ∷ parts) =
    part_in number exempting (is_last_part parts) part ∷ parts_in number exempting parts

-- the compound selectors of a selector, where a default namespace may be declared
abbrev pub in_default : Option ℕ → List Part → List Part
in_default None parts = parts
in_default (Some number) parts = parts_in number false parts

-- What follows a pseudo-element has no meaning here, and stays.
abbrev pub selector_in : Names → Selector → Selector
selector_in names s = record {
  parts = in_default names.default_namespace s.parts;
  pseudo_element = s.pseudo_element;
}
