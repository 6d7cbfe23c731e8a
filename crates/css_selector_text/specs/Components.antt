-- The parts of a selector. Names and values are bytes, without the escapes that spelled them.
use Rattle.std.specs.Prelude.{ℕ, List, [], ◌∷◌, Bool, true, false, Option}
use Rattle.css_matching.specs.declared.Combinator.{Combinator}
use Rattle.css_selector_text.specs.declared.components.Nesting.{Nesting}

-- how an attribute's value is compared with the text of a selector (sections 6.3.1 and 6.3.2)
pub data Comparison : Type 0 where
  -- `=`: the value is the text
  equals : Comparison
  -- `~=`: the text is one of the words of the value
  has_word : Comparison
  -- `|=`: the value is the text, or the text and then a hyphen at its start
  has_subtag : Comparison
  -- `^=`: the value starts with the text
  starts : Comparison
  -- `$=`: the value ends with the text
  ends : Comparison
  -- `*=`: the text occurs in the value
  contains : Comparison

-- a number and its sign
pub record Signed : Type 0 where
  pub is_negative : Bool
  pub size : ℕ

-- `An+B`: A is the step, B the offset
pub record Progression : Type 0 where
  pub step : Signed
  pub offset : Signed

-- a structural pseudo-class (section 6.6.5), or `:scope`, which names an element by its place, too
pub data Structure : Type 0 where
  root : Structure
  scope : Structure
  empty : Structure
  first_child : Structure
  last_child : Structure
  only_child : Structure
  first_of_type : Structure
  last_of_type : Structure
  only_of_type : Structure
  nth_child : Progression → Structure
  nth_last_child : Progression → Structure
  nth_of_type : Progression → Structure
  nth_last_of_type : Progression → Structure

-- what namespace a name is in (Selectors 4, section 5)
pub data Namespace : Type 0 where
  -- `|`: none
  absent : Namespace
  -- `*|`: any
  any_namespace : Namespace
  -- `prefix|`: that of the prefix, which has this number
  of_prefix : (prefix : List ℕ) (number : ℕ) → Namespace
  -- the default one, which has this number: it is not written
  default : (number : ℕ) → Namespace

-- whether it is none
abbrev pub is_absent : Namespace → Bool
is_absent absent = true
is_absent any_namespace = false
is_absent (of_prefix prefix number) = false
is_absent (default number) = false

-- what is in a namespace: a type selector, or an attribute selector
pub data Local : Type 0 where
  -- `*`
  any_type : Local
  a_type : List ℕ → Local
  -- `[name]`
  some_attribute : List ℕ → Local
  -- `[name=text]`; the last is whether the case of ASCII letters is ignored
  an_attribute : List ℕ → Comparison → List ℕ → Bool → Local
  -- a `*` that is not written: a compound selector without a type selector is in the default namespace
  implied : Local

-- a simple selector that has no other selectors in it
pub data Simple : Type 0 where
  -- `*`
  universal : Simple
  type_name : List ℕ → Simple
  id : List ℕ → Simple
  class : List ℕ → Simple
  -- `[name]`
  has_attribute : List ℕ → Simple
  -- `[name=text]`; the last is whether the case of ASCII letters is ignored
  attribute : List ℕ → Comparison → List ℕ → Bool → Simple
  structure : Structure → Simple
  -- `:lang(..)`, with its language ranges
  language : List (List ℕ) → Simple
  -- any other pseudo-class without an argument, with its name
  state : List ℕ → Simple
  -- any other pseudo-class with an argument, as it is written: it has no meaning here
  function : (name argument : List ℕ) → Simple
  -- `::name` or `::name(..)`: a pseudo-element, which no element is
  named_element : (name : List ℕ) (argument : Option (List ℕ)) → Simple
  -- `&`: an element that the list matches for which it stands (CSS Nesting 1, section 3)
  nesting : Nesting → Simple
  -- a type or attribute selector with a namespace
  namespaced : Namespace → Local → Simple

-- What `&` stands for outside of nested rules: `:scope`, which is the list of number 0, and it counts
-- nothing (CSS Nesting 1, section 3).
abbrev pub outermost : Nesting
outermost = record { number = 0; specificity = record { ids = 0; classes = 0; names = 0 } }

-- what a pseudo-class asks of its list: `:has(..)`, `:nth-child(An+B of ..)` or
-- `:nth-last-child(An+B of ..)`
pub data ListTest : Type 0 where
  has : ListTest
  nth_child : Progression → ListTest
  nth_last_child : Progression → ListTest

mutual
  -- a simple selector, or a pseudo-class with a list of complex selectors
  pub data Condition : Type 0 where
    simple : Simple → Condition
    -- `:not(..)`
    negation : Selectors → Condition
    -- `:is(..)`
    any_of : Selectors → Condition
    -- `:where(..)`, which counts nothing
    where_any : Selectors → Condition
    -- `:has(..)`, `:nth-child(An+B of ..)` or `:nth-last-child(An+B of ..)`
    tested : ListTest → Selectors → Condition

  -- a compound selector: its conditions, one after another
  pub data Conditions : Type 0 where
    end_of_compound : Conditions
    with_condition : Condition → Conditions → Conditions

  -- A complex selector: its compound selectors from left to right, each with how it is joined to the
  -- one before it. In a list of `:has()` the first is joined to the element that is asked.
  pub data Parts : Type 0 where
    end_of_selector : Parts
    with_part : Combinator → Conditions → Parts → Parts

  -- a list of complex selectors, one after another
  pub data Selectors : Type 0 where
    end_of_list : Selectors
    with_selector : Parts → Selectors → Selectors

-- a compound selector, and how it is joined to the one before it
pub record Part : Type 0 where
  pub combinator : Combinator
  pub conditions : List Condition

-- the compound selector of these conditions
abbrev pub conditions_from : List Condition → Conditions
conditions_from [] = end_of_compound
conditions_from (c ∷ conditions) = with_condition c (conditions_from conditions)

-- the complex selector of these parts
abbrev pub parts_from : List Part → Parts
parts_from [] = end_of_selector
parts_from (p ∷ parts) = with_part p.combinator (conditions_from p.conditions) (parts_from parts)

-- the list of these complex selectors
abbrev pub selectors_from : List (List Part) → Selectors
selectors_from [] = end_of_list
selectors_from (s ∷ selectors) = with_selector (parts_from s) (selectors_from selectors)

-- a pseudo-element at the end of a selector: its name and its argument, and what follows it, which are
-- pseudo-classes and further pseudo-elements
pub record PseudoElement : Type 0 where
  pub name : List ℕ
  pub argument : Option (List ℕ)
  pub after : List Condition

-- a selector: its parts from left to right, and the pseudo-element at its end, if it has one
pub record Selector : Type 0 where
  pub parts : List Part
  pub pseudo_element : Option PseudoElement

-- A selector of a list, and what is left of the text where it begins, where its pseudo-element does,
-- and where it ends. Without a pseudo-element the last two are the same.
pub record Placed : Type 0 where
  pub selector : Selector
  pub from : List ℕ
  pub element : List ℕ
  pub to : List ℕ
