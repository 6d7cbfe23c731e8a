-- Selectors of one condition, and of parts without a pseudo-element.
use Rattle.std.specs.Prelude.{List, [], ◌∷◌, None}
use Rattle.css_matching.specs.declared.Combinator.TheVariants.{Descendant}
use Rattle.css_selector_text.specs.Components.{Condition, Part, Selector}

-- the selector of these parts alone
abbrev pub of_parts : List Part → Selector
of_parts parts = record { parts = parts; pseudo_element = None }

-- the selector of one condition
abbrev pub of_condition : Condition → Selector
of_condition c = of_parts (record { combinator = Descendant; conditions = c ∷ [] } ∷ [])
