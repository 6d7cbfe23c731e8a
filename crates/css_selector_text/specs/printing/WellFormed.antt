-- Selectors that some text reads as.
use Rattle.std.specs.Prelude.{◌≡◌, ◌<◌, ◌≤◌, ◌&&◌, ℕ, Bool, true, false, List, [], ◌∷◌, ◌++◌, codes, length, All, Option, None, Some}
use Rattle.std.specs.Option.{ForSome, is_some}
use Rattle.css_matching.specs.declared.Combinator.{Combinator}
use Rattle.css_matching.specs.declared.Combinator.TheVariants.{Descendant}
use Rattle.css_syntax.specs.Escapes.{without_nul}
use Rattle.css_selector_text.specs.Components.{Signed, Progression, Structure, Namespace, Local, Simple, outermost, ListTest, Condition, Conditions, Parts, Selectors, Part, PseudoElement, Selector}
use Rattle.css_selector_text.specs.declared.components.ListKind.{ListKind}
use Rattle.css_selector_text.specs.declared.components.ListKind.TheVariants.{Not, Is, Where, Has}
use Rattle.css_selector_text.specs.reading.Rooms.{Room}
use Rattle.css_selector_text.specs.Components.ListTest.{has, nth_child as nth_child_list, nth_last_child as nth_last_child_list}
use Rattle.css_selector_text.specs.Components.Structure.{nth_child, nth_last_child, nth_of_type, nth_last_of_type}
use Rattle.css_selector_text.specs.Components.Namespace.{absent, any_namespace, of_prefix, default}
use Rattle.css_selector_text.specs.Components.Local.{any_type, a_type, some_attribute, an_attribute, implied}
use Rattle.css_selector_text.specs.Components.Simple.{universal, type_name, id, class, has_attribute, attribute, structure, language, state, function, named_element, nesting, namespaced}
use Rattle.css_selector_text.specs.Components.Condition.{simple, negation, any_of, where_any, tested}
use Rattle.css_selector_text.specs.Components.Conditions.{end_of_compound, with_condition}
use Rattle.css_selector_text.specs.Components.Parts.{end_of_selector, with_part}
use Rattle.css_selector_text.specs.Components.Selectors.{end_of_list, with_selector}
use Rattle.css_selector_text.specs.reading.KnownNames.{is_one_of, states, functions, is_element, element_functions}
use Rattle.css_selector_text.specs.reading.Readings.{got}
use Rattle.css_selector_text.specs.reading.Grammar.{argument, plain_structure, is_old_element, list_kind, function_named, is_forgiving, may_open, room_in, outside}
use Rattle.css_selector_text.specs.reading.Defaults.{selector_in}
use Rattle.css_selector_text.specs.Names.{Names, number_of}

-- a text that is denoted has no U+0000
abbrev pub IsDenoted : List ℕ → Type 0
IsDenoted text = without_nul text ≡ text

-- a name is not empty
abbrev pub IsName : List ℕ → Type 0
IsName name = 0 < length name × IsDenoted name

-- a number is at most the greatest `u32`
abbrev pub IsSize : Signed → Type 0
IsSize number = number.size ≤ 4294967295

abbrev pub IsProgression : Progression → Type 0
IsProgression p = IsSize p.step × IsSize p.offset

abbrev pub IsStructure : Structure → Type 0
IsStructure (nth_child p) = IsProgression p
IsStructure (nth_last_child p) = IsProgression p
IsStructure (nth_of_type p) = IsProgression p
IsStructure (nth_last_of_type p) = IsProgression p
IsStructure s = Unit {0}

-- an argument that is kept as it is written: before a parenthesis it is read as itself
abbrev pub IsArgument : List ℕ → Type 0
IsArgument a = argument (a ++ codes ")") ≡ got a []

-- the same of what has this name, which is one of these
abbrev pub IsArgumentOf : List (List ℕ) → List ℕ → List ℕ → Type 0
IsArgumentOf names name a = (is_one_of names name ≡ true) × IsArgument a

-- A namespace that is written: a prefix has the number that was declared.
abbrev pub IsNamespace : Names → Namespace → Type 0
IsNamespace names absent = Unit {0}
IsNamespace names any_namespace = Unit {0}
IsNamespace names (of_prefix prefix number) =
    IsName prefix × (number_of names prefix ≡ Some number)
IsNamespace names (default number) = ⊥

-- an attribute selector
abbrev pub IsAttribute : Local → Type 0
IsAttribute any_type = ⊥
IsAttribute (a_type name) = ⊥
IsAttribute (some_attribute name) = IsName name
IsAttribute (an_attribute name comparison value ignores_case) = IsName name × IsDenoted value
IsAttribute implied = ⊥

-- a type or attribute selector
abbrev pub IsLocal : Local → Type 0
IsLocal any_type = Unit {0}
IsLocal (a_type name) = IsName name
IsLocal local = IsAttribute local

-- A simple selector that may follow others. `*`, a type and a pseudo-element may not. A pseudo-class that
-- is a structural one by its name is no other, and none has the name of a pseudo-element that may have
-- one colon, or an unknown one. `&` stands for what it does outside of nested rules.
abbrev pub IsFurther : Names → Simple → Type 0
IsFurther names universal = ⊥
IsFurther names (type_name name) = ⊥
IsFurther names (id name) = IsName name
IsFurther names (class name) = IsName name
IsFurther names (has_attribute name) = IsName name
IsFurther names (attribute name comparison value ignores_case) = IsName name × IsDenoted value
IsFurther names (structure s) = IsStructure s
IsFurther names (language ranges) = 0 < length ranges × All IsDenoted ranges
IsFurther names (state name) =
    IsName name × (plain_structure name ≡ None) × (is_old_element name ≡ false)
    × (is_one_of (states names) name ≡ true)
IsFurther names (function name a) =
    IsName name × (list_kind name ≡ None) × (function_named name ≡ None)
    × IsArgumentOf (functions names) name a
IsFurther names (named_element name a) = ⊥
IsFurther names (nesting list) = list ≡ outermost
IsFurther names (namespaced namespace local) = IsNamespace names namespace × IsAttribute local

-- a simple selector that may be the first
abbrev pub IsFirst : Names → Simple → Type 0
IsFirst names universal = Unit {0}
IsFirst names (type_name name) = IsName name
IsFirst names (namespaced namespace local) = IsNamespace names namespace × IsLocal local
IsFirst names s = IsFurther names s

-- what joins the first compound selector of a list of this kind to what is before it
abbrev pub IsLeading : ListKind → Combinator → Type 0
IsLeading Not k = k ≡ Descendant
IsLeading Is k = k ≡ Descendant
IsLeading Where k = k ≡ Descendant
IsLeading Has k = Unit {0}

-- a list of this kind may be open
abbrev pub MayOpen : ListKind → Room → Type 0
MayOpen kind room = (0 < room.depth) × (may_open kind room.in_has ≡ true)

-- what is asked of a list, which is of such a kind
abbrev pub kind_of : ListTest → ListKind
kind_of has = Has
kind_of (nth_child_list p) = Not
kind_of (nth_last_child_list p) = Not

abbrev pub IsTest : ListTest → Type 0
IsTest has = Unit {0}
IsTest (nth_child_list p) = IsProgression p
IsTest (nth_last_child_list p) = IsProgression p

abbrev mutual
  -- a condition that may follow others, by which lists may be open
  pub IsFurtherCondition : Room → Condition → Type 0
  IsFurtherCondition n (simple s) = IsFurther n.names s
  IsFurtherCondition n (negation selectors) = IsList Not n selectors
  IsFurtherCondition n (any_of selectors) = IsList Is n selectors
  IsFurtherCondition n (where_any selectors) = IsList Where n selectors
  IsFurtherCondition n (tested test selectors) = IsTest test × IsList (kind_of test) n selectors

  -- a condition that may be the first
  pub IsFirstCondition : Room → Condition → Type 0
  IsFirstCondition n (simple s) = IsFirst n.names s
  IsFirstCondition n (negation selectors) = IsList Not n selectors
  IsFirstCondition n (any_of selectors) = IsList Is n selectors
  IsFirstCondition n (where_any selectors) = IsList Where n selectors
  IsFirstCondition n (tested test selectors) = IsTest test × IsList (kind_of test) n selectors

  -- a list is one of those that may be open; only a forgiving one may be empty
  pub IsList : ListKind → Room → Selectors → Type 0
  IsList kind n end_of_list = MayOpen kind n × (is_forgiving kind ≡ true)
  IsList kind n (with_selector s selectors) =
      MayOpen kind n × IsComplex kind (room_in kind n) s × AreComplex kind (room_in kind n) selectors

  pub AreComplex : ListKind → Room → Selectors → Type 0
  AreComplex kind n end_of_list = Unit {0}
  AreComplex kind n (with_selector s selectors) =
      IsComplex kind n s × AreComplex kind n selectors

  -- a complex selector in a list has a first compound selector
  pub IsComplex : ListKind → Room → Parts → Type 0
  IsComplex kind n end_of_selector = ⊥
  IsComplex kind n (with_part k c parts) = IsLeading kind k × IsCompound n c × AreJoined n parts

  pub AreJoined : Room → Parts → Type 0
  AreJoined n end_of_selector = Unit {0}
  AreJoined n (with_part k c parts) = IsCompound n c × AreJoined n parts

  -- a compound selector in a list has a condition at least
  pub IsCompound : Room → Conditions → Type 0
  IsCompound n end_of_compound = ⊥
  IsCompound n (with_condition c conditions) = IsFirstCondition n c × AreFurther n conditions

  pub AreFurther : Room → Conditions → Type 0
  AreFurther n end_of_compound = Unit {0}
  AreFurther n (with_condition c conditions) = IsFurtherCondition n c × AreFurther n conditions

-- the conditions of a compound selector: only before a pseudo-element there may be none
abbrev pub AreConditions : Names → Bool → List Condition → Type 0
AreConditions names before_element [] = before_element ≡ true
AreConditions names before_element (c ∷ conditions) =
    IsFirstCondition (outside names) c × All (IsFurtherCondition (outside names)) conditions

abbrev pub is_last : List Part → Bool
is_last [] = true
is_last (part ∷ parts) = false

-- compound selectors, with a pseudo-element after the last or without one
abbrev pub AreParts : Names → Bool → List Part → Type 0
AreParts names has_element [] = Unit {0}
AreParts names has_element (part ∷ parts) =
    AreConditions names (has_element && is_last parts) part.conditions
    × AreParts names has_element parts

-- there is a first compound selector, which is joined to none
abbrev pub BeginsPlain : List Part → Type 0
BeginsPlain [] = ⊥
BeginsPlain (part ∷ parts) = part.combinator ≡ Descendant

-- a pseudo-class
abbrev pub is_pseudo_class : Simple → Bool
is_pseudo_class (structure s) = true
is_pseudo_class (language ranges) = true
is_pseudo_class (state name) = true
is_pseudo_class (function name a) = true
is_pseudo_class s = false

-- the argument of a pseudo-element of this name, which has one or none
abbrev pub IsElementArgument : Names → List ℕ → Option (List ℕ) → Type 0
IsElementArgument names name None = is_element names name ≡ true
IsElementArgument names name (Some a) = IsArgumentOf (element_functions names) name a

-- the name of a pseudo-element, and its argument
abbrev pub IsElementName : Names → List ℕ → Option (List ℕ) → Type 0
IsElementName names name a = IsName name × IsElementArgument names name a

-- what may follow a pseudo-element
abbrev pub IsAfterElement : Names → Condition → Type 0
IsAfterElement names (simple (named_element name a)) = IsElementName names name a
IsAfterElement names (simple s) = (is_pseudo_class s ≡ true) × IsFurther names s
IsAfterElement names c = IsFurtherCondition (outside names) c

abbrev pub IsPseudoElement : Names → PseudoElement → Type 0
IsPseudoElement names e = IsElementName names e.name e.argument × All (IsAfterElement names) e.after

-- A selector as it is written, apart from the default namespace.
abbrev pub IsWritten : Names → Selector → Type 0
IsWritten names s =
    BeginsPlain s.parts × AreParts names (is_some s.pseudo_element) s.parts
    × ForSome s.pseudo_element (IsPseudoElement names)

-- A selector that some text reads as: what is written, in the default namespace if there is one.
abbrev pub IsWellFormed : Names → Selector → Type 0
IsWellFormed names s =
    (written : Selector) × IsWritten names written × (selector_in names written ≡ s)
