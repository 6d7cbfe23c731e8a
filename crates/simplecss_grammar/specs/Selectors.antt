-- The selector of a text.
use Rattle.std.specs.Prelude.{ℕ, List, [], ◌∷◌, map, codes, Option, None, Some, Ok, Err}
use Rattle.std.specs.Option.{option_map}
use Rattle.css_text.specs.Characters.{Edition}
use Rattle.simplecss_grammar.specs.Components.{Subselector, Combinator, Component}
use Rattle.simplecss_grammar.specs.Components.Operator.{equals, has_word}
use Rattle.simplecss_grammar.specs.Components.KnownPseudoClass.{lang}
use Rattle.simplecss_grammar.specs.Components.Subselector.{attribute, pseudo_class}
use Rattle.simplecss_grammar.specs.Components.Combinator.{none, descendant, child, adjacent}
pub use Rattle.simplecss_grammar.specs.PseudoClasses.{known_pseudo_class}
use Rattle.simplecss_grammar.specs.Tokens.{Token}
use Rattle.simplecss_grammar.specs.Tokens.Token.{universal_selector, type_selector, id_selector, class_selector, attribute_selector, named_pseudo_class, lang_pseudo_class, descendant_combinator, child_combinator, adjacent_combinator}
use Rattle.simplecss_grammar.specs.TokenSequences.{TokenSequence, sequence_of}
use Rattle.simplecss_grammar.specs.TokenSequences.TokenSequence.{item, sequence_end}

-- What a simple piece adds to its component.
pub data Part : Type 0 where
  any_type : Part
  of_type : List ℕ → Part
  with : Subselector → Part

-- The role of a token in a selector: a part of a component, or what joins two of them.
pub data Role : Type 0 where
  part : Part → Role
  joined_by : Combinator → Role

-- The role of a token in a selector: none, if it is a pseudo-class whose name is not known. A class
-- is an attribute `class` with a word, and an id is an attribute `id` that equals a text.
abbrev pub role_of : Token → Option Role
role_of universal_selector = Some (part any_type)
role_of (type_selector n) = Some (part (of_type n))
role_of (id_selector n) = Some (part (with (attribute (codes "id") (equals n))))
role_of (class_selector n) = Some (part (with (attribute (codes "class") (has_word n))))
role_of (attribute_selector n operator) = Some (part (with (attribute n operator)))
role_of (named_pseudo_class n) =
    option_map (λ class. part (with (pseudo_class class))) (known_pseudo_class n)
role_of (lang_pseudo_class value) = Some (part (with (pseudo_class (lang value))))
role_of descendant_combinator = Some (joined_by descendant)
role_of child_combinator = Some (joined_by child)
role_of adjacent_combinator = Some (joined_by adjacent)

-- A sequence is refused at its first fault or unknown pseudo-class, and else has the roles of its
-- tokens. With it comes the rest at that point.
pub data Outcome : Type 0 where
  refused : (left : List ℕ) → Outcome
  accepted : List Role → (left : List ℕ) → Outcome

-- the role, before those that were accepted
abbrev pub with_role : Role → Outcome → Outcome
with_role role (refused left) = refused left
with_role role (accepted roles left) = accepted (role ∷ roles) left

-- the role and what follows it; an unknown pseudo-class is refused, right after its name
abbrev pub after_role : Option Role → (after : List ℕ) → Outcome → Outcome
after_role (Some role) after rest = with_role role rest
after_role None after rest = refused after

-- the outcome of a sequence
abbrev pub outcome : TokenSequence → Outcome
outcome (sequence_end left) = accepted [] left
outcome (item (Err fault) after rest) = refused after
outcome (item (Ok token) after rest) = after_role (role_of token) after (outcome rest)

-- the parts up to the first combinator, and each combinator with the parts up to the next one
abbrev pub cut : List Role → List Part × List (Combinator × List Part)
cut [] = ([], [])
cut (joined_by combinator ∷ roles) = ([], (combinator, (cut roles).0) ∷ (cut roles).1)
cut (part x ∷ roles) = (x ∷ (cut roles).0, (cut roles).1)

-- the type name among the parts of a component, if there is one, else the one from before
abbrev pub type_among : Option (List ℕ) → List Part → Option (List ℕ)
type_among known [] = known
type_among known (of_type n ∷ parts) = type_among (Some n) parts
type_among known (any_type ∷ parts) = type_among known parts
type_among known (with subselector ∷ parts) = type_among known parts

-- the subselectors among the parts of a component, in their order
abbrev pub subselectors_among : List Part → List Subselector
subselectors_among [] = []
subselectors_among (with subselector ∷ parts) = subselector ∷ subselectors_among parts
subselectors_among (any_type ∷ parts) = subselectors_among parts
subselectors_among (of_type n ∷ parts) = subselectors_among parts

-- the component of a combinator and the parts after it
abbrev pub component_of : Combinator × List Part → Component
component_of (combinator, parts) = record {
  combinator = combinator;
  compound = record { name = type_among None parts; subselectors = subselectors_among parts };
}

-- one component for the parts before, between and after the combinators; the first has no
-- combinator
abbrev pub components_of : List Role → List Component
components_of roles = component_of (none, (cut roles).0) ∷ map component_of (cut roles).1

-- the selector of an outcome, or none, and the rest
abbrev pub selector_of : Outcome → Option (List Component) × List ℕ
selector_of (refused left) = (None, left)
selector_of (accepted roles left) = (Some (components_of roles), left)

-- the selector at the start of a text, or none, and the rest where reading ends
unfoldable pub reads : Edition → List ℕ → Option (List Component) × List ℕ
reads edition text = selector_of (outcome (sequence_of edition text))
