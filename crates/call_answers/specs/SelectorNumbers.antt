-- The selectors of lists as numbers.
use Rattle.std.specs.Prelude.{ℕ, ◌-◌, Bool, false, ◌==◌, List, [], ◌∷◌, ◌++◌, length, slice_get, Option, None, Some}
use Rattle.std.specs.List.{flat_map}
use Rattle.std.specs.Option.{is_some}
use Rattle.css_sheet.specs.NestedSelectors.{read_counts}
use Rattle.css_sheet.specs.RuleSelectors.{SelectorRead, selector_read}
use Rattle.css_selector_text.specs.Components.{Part, Placed, Selector}
use Rattle.css_selector_text.specs.printing.Printing.{selector_text}
use Rattle.css_selector_text.specs.Specificities.{Counts}
use Rattle.simplecss.specs.Components.{Component}
use Rattle.simplecss.specs.Printing.{selector_text as port_text}
use Rattle.simplecss.specs.Specificity.{specificity}
use Rattle.call_answers.specs.Numbers.{number_if, offset}

-- ---- of a selector that is modern

-- whether a selector is supported, and its specificity with its pseudo-element, or three times 0
abbrev pub read_numbers : SelectorRead → List ℕ
read_numbers read =
    (λ (c : Counts). number_if (is_some read.selector) ∷ c.ids ∷ c.classes ∷ c.names ∷ [])
    (read_counts read)

abbrev pub is_empty_part : Option Part → Bool
is_empty_part None = false
is_empty_part (Some part) = length part.conditions == 0

-- The last compound selector has no condition: a pseudo-element stands alone there, and is one of any
-- element.
abbrev pub is_of_any : Selector → Bool
is_of_any s = is_empty_part (slice_get s.parts (length s.parts - 1))

-- Of the pseudo-element at the end of a selector, if it has one: the offset at which it begins, from its
-- first colon on, that of its name, which is the end of the selector, and whether it is one of any element.
-- If it has none, twice the offset at which the selector ends, and 0.
abbrev pub element_numbers : (end : ℕ) → (element to : List ℕ) → (is_any : Bool)
    → (pseudo_element : Option (List ℕ)) → List ℕ
element_numbers end element to is_any None = offset end to ∷ offset end to ∷ 0 ∷ []
element_numbers end element to is_any (Some name) =
    offset end element ∷ (offset end to - length name) ∷ number_if is_any ∷ []

-- Nine numbers of a selector of a list whose text ends at this offset: its offset and its length; whether it
-- is a modern one without its pseudo-element, and its specificity; and three of its pseudo-element.
abbrev pub selector_row : (end : ℕ) → Placed → List ℕ
selector_row end p =
    offset end p.from ∷ (length p.from - length p.to)
    ∷ (read_numbers (selector_read p)
    ++ element_numbers end p.element p.to (is_of_any p.selector) (selector_read p).pseudo_element)

-- those of the selectors of a list whose text ends at this offset
abbrev pub selector_numbers : (end : ℕ) → List Placed → List ℕ
selector_numbers end all = flat_map (selector_row end) all

-- ---- with the printed text

-- ten numbers of a selector: those, and the length of its printed text
abbrev pub listed_row : (end : ℕ) → Placed → List ℕ
listed_row end p = selector_row end p ++ length (selector_text p.selector) ∷ []

-- those of the selectors of a list whose text ends at this offset
abbrev pub listed_numbers : (end : ℕ) → List Placed → List ℕ
listed_numbers end all = flat_map (listed_row end) all

-- their printed texts, one after another
abbrev pub printed_texts : List Placed → List ℕ
printed_texts all = flat_map (λ p. selector_text p.selector) all

-- ---- of the port

-- Ten numbers of a selector of the port: that it is one, its specificity, and the length of its printed
-- text. It is not said where it is, and so those of places are 0.
abbrev pub port_row : List Component → List ℕ
port_row selector =
    0 ∷ 0 ∷ 1 ∷ (specificity selector ++ 0 ∷ 0 ∷ 0 ∷ length (port_text selector) ∷ [])

-- those of selectors, in order
abbrev pub port_numbers : List (List Component) → List ℕ
port_numbers selectors = flat_map port_row selectors

-- their printed texts, one after another
abbrev pub port_texts : List (List Component) → List ℕ
port_texts selectors = flat_map port_text selectors
