-- The elements that pseudo-elements are of: their originating elements (Selectors 4, section 3.6).
use Rattle.std.specs.Prelude.{List, [], ◌∷◌, map, None}
use Rattle.css_selector_text.specs.Components.{Condition, Part, Selector}
use Rattle.css_selector_text.specs.Components.Simple.{universal}
use Rattle.css_selector_text.specs.Components.Condition.{simple}

-- the conditions of a compound selector, or `*` if there are none before its pseudo-element
abbrev pub or_any : List Condition → List Condition
or_any [] = simple universal ∷ []
or_any (c ∷ conditions) = c ∷ conditions

abbrev pub part_or_any : Part → Part
part_or_any part = record { combinator = part.combinator; conditions = or_any part.conditions }

-- The selector without its pseudo-element: that of the elements that the pseudo-element is of.
abbrev pub originating : Selector → Selector
originating s = record { parts = map part_or_any s.parts; pseudo_element = None }
