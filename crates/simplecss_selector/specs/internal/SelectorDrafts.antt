-- A selector under construction, one component after the other.
use Rattle.std.specs.Prelude.{ℕ, Bool, true, false, List, [], ◌∷◌, ◌++◌, Option, None, Some}
use Rattle.simplecss_grammar.specs.Components.{Subselector, Combinator, Component}
use Rattle.simplecss_grammar.specs.Components.Combinator.{none}
use Rattle.simplecss_grammar.specs.Selectors.{Part, Role, Outcome}
use Rattle.simplecss_grammar.specs.Selectors.Part.{any_type, of_type, with}
use Rattle.simplecss_grammar.specs.Selectors.Role.{part, joined_by}
use Rattle.simplecss_grammar.specs.Selectors.Outcome.{refused, accepted}

-- the finished components, and the current one
pub record Drafted : Type 0 where
  pub done : List Component
  pub last : Component

-- any type, with no further condition
abbrev pub bare : Combinator → Component
bare combinator =
    record { combinator = combinator; compound = record { name = None; subselectors = [] } }

-- the component with a type name
abbrev pub component_named : List ℕ → Component → Component
component_named name c =
    record {
      combinator = c.combinator;
      compound = record { name = Some name; subselectors = c.compound.subselectors };
    }

-- the component with one more subselector
abbrev pub narrowed : Subselector → Component → Component
narrowed subselector c =
    record {
      combinator = c.combinator;
      compound =
          record {
            name = c.compound.name;
            subselectors = c.compound.subselectors ++ subselector ∷ [];
          };
    }

abbrev pub empty_draft : Drafted
empty_draft = record { done = []; last = bare none }

abbrev pub with_name : List ℕ → Drafted → Drafted
with_name name d = record { done = d.done; last = component_named name d.last }

abbrev pub with_subselector : Subselector → Drafted → Drafted
with_subselector subselector d = record { done = d.done; last = narrowed subselector d.last }

-- the last component is finished, and the next one is joined to it
abbrev pub joined : Combinator → Drafted → Drafted
joined combinator d = record { done = d.done ++ d.last ∷ []; last = bare combinator }

abbrev pub finished : Drafted → List Component
finished d = d.done ++ d.last ∷ []

-- what a part adds to the last component
abbrev pub with_part : Part → Drafted → Drafted
with_part any_type d = d
with_part (of_type name) d = with_name name d
with_part (with subselector) d = with_subselector subselector d

-- what a role adds to the draft
abbrev pub drafted_after : Role → Drafted → Drafted
drafted_after (part x) d = with_part x d
drafted_after (joined_by combinator) d = joined combinator d

-- the same of a token, which may have no role, and then adds nothing
abbrev pub drafted_if : Option Role → Drafted → Drafted
drafted_if (Some role) d = drafted_after role d
drafted_if None d = d

-- the components of the draft and of the roles that follow
abbrev pub continued : Drafted → List Role → List Component
continued d [] = finished d
continued d (role ∷ roles) = continued (drafted_after role d) roles

-- the selector of the draft and of what is still to be read, or none, and the rest where reading
-- ends
abbrev pub selector_after : Drafted → Outcome → Option (List Component) × List ℕ
selector_after d (refused left) = (None, left)
selector_after d (accepted roles left) = (Some (continued d roles), left)

-- the selector in the draft, if all of it was read, and the rest
abbrev pub selector_read : Bool → Drafted → (left : List ℕ) → Option (List Component) × List ℕ
selector_read true d left = (Some (finished d), left)
selector_read false d left = (None, left)
