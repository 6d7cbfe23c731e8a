-- The keys that a selector requires of an element's ancestors: those of the components to which a
-- child or a descendant combinator leads back.
use Rattle.std.specs.Prelude.{List, [], ◌∷◌, ◌++◌, Option, Some, None, length}
use Rattle.std.specs.List.{cons_option}
use Rattle.simplecss_grammar.specs.Components.{Component, Combinator}
use Rattle.simplecss_grammar.specs.Components.Combinator.{none, descendant, child, adjacent}
use Rattle.simplecss_selector.specs.Keys.{Key, compound_key, HasKey}
use Rattle.simplecss_selector.specs.Placements.{IsAncestor}
use Rattle.simplecss_selector.specs.Shapes.{first_of}
use Rattle.simplecss_selector.specs.Trees.{Tree}

-- the key of the component before, if the combinator leads to an ancestor
abbrev pub step_key : Combinator → List Component → Option Key
step_key combinator [] = None
step_key none (c ∷ cs) = None
step_key descendant (c ∷ cs) = Some (compound_key c.compound)
step_key child (c ∷ cs) = Some (compound_key c.compound)
step_key adjacent (c ∷ cs) = None

-- the keys that ancestors must have, from the components in reverse order
abbrev pub keys_among : List Component → List Key
keys_among [] = []
keys_among (c ∷ cs) = keys_among cs ++ cons_option (step_key c.combinator cs) []

-- the keys that an element's ancestors must have for the selector to match it
abbrev pub ancestor_keys : List Component → List Key
ancestor_keys components = keys_among (first_of components (length components))

-- an ancestor of the node has the key
abbrev pub SomeAncestorHas : {Node : Type 0} → Tree Node → Node → Key → Type 0
SomeAncestorHas {Node} tree n key = (a : Node) × IsAncestor tree a n × HasKey tree a key
