-- Selectors that have a meaning here. A text may be a selector and have none: it is unsupported.
use Rattle.std.specs.Prelude.{◌&&◌, ◌+◌, ◌-◌, ◌==◌, nat_le, ℕ, Bool, true, false, not, if◌then◌else◌, List, [], ◌∷◌, map, codes, Option, None, Some, is_none, is_some}
use Rattle.css_selector_text.specs.declared.refusal.Why.TheVariants.{Unsupported}
use Rattle.css_selector_text.specs.Components.{Namespace, Simple, Condition, Conditions, Parts, Selectors, parts_from, PseudoElement, Selector, Placed}
use Rattle.css_selector_text.specs.Components.Namespace.{of_prefix}
use Rattle.css_selector_text.specs.Components.Simple.{state, function, named_element, namespaced}
use Rattle.css_selector_text.specs.Components.Condition.{simple, negation, any_of, where_any, tested}
use Rattle.css_selector_text.specs.Components.Conditions.{end_of_compound, with_condition}
use Rattle.css_selector_text.specs.Components.Parts.{end_of_selector, with_part}
use Rattle.css_selector_text.specs.Components.Selectors.{end_of_list, with_selector}
use Rattle.css_selector_text.specs.reading.Directions.{direction_state}
use Rattle.css_selector_text.specs.reading.Grammar.{is_word, placed_selector, placed_list}
use Rattle.css_selector_text.specs.Names.{unknown_namespace}
use Rattle.css_selector_text.specs.reading.SearchCounts.{search_count}
use Rattle.css_selector_text.specs.reading.Readings.{Reading, got, refused, Reader}
use Rattle.css_selector_text.specs.Names.{Names}

-- the namespace is known
abbrev pub is_known_namespace : Namespace → Bool
is_known_namespace (of_prefix prefix number) = not (number == unknown_namespace)
is_known_namespace namespace = true

-- What is in a namespace has a meaning if the namespace is known. Of what has an argument that is kept as it
-- is written only `:dir()` with a direction has a meaning. `:host`, which is an element outside of the tree,
-- has none.
abbrev pub is_supported_simple : Simple → Bool
is_supported_simple (state name) = not (is_word (codes "host") name)
is_supported_simple (function name argument) = is_some (direction_state name argument)
is_supported_simple (named_element name argument) = false
is_supported_simple (namespaced namespace local) = is_known_namespace namespace
is_supported_simple s = true

-- How many selectors with combinators that stand in lists may be within one another: their tests
-- multiply. (Selectors 4 has no limit.)
abbrev pub deepest_joined : ℕ
deepest_joined = 1

abbrev mutual
  -- A condition has a meaning, if all in its list has, and at most `k` selectors with combinators are
  -- within one another there. The list of `:has()`, and one after `An+B`, is answered on its own: its
  -- selectors are as those that stand in no list, of which the own search counts there.
  pub is_supported : ℕ → Condition → Bool
  is_supported k (simple s) = is_supported_simple s
  is_supported k (negation selectors) = are_supported k true selectors
  is_supported k (any_of selectors) = are_supported k true selectors
  is_supported k (where_any selectors) = are_supported k true selectors
  is_supported k (tested test selectors) = are_supported (deepest_joined + 1) true selectors

  -- what was found so far has a meaning, and the conditions of a compound selector have
  pub have_meaning : ℕ → Bool → Conditions → Bool
  have_meaning k so_far end_of_compound = so_far
  have_meaning k so_far (with_condition c conditions) =
      have_meaning k (so_far && is_supported k c) conditions

  -- and the compound selectors of a complex selector
  pub parts_supported : ℕ → Bool → Parts → Bool
  parts_supported k so_far end_of_selector = so_far
  parts_supported k so_far (with_part l c parts) =
      parts_supported k (have_meaning k so_far c) parts

  -- and the complex selectors of a list, of which one with combinators counts
  pub are_supported : ℕ → Bool → Selectors → Bool
  are_supported k so_far end_of_list = so_far
  are_supported k so_far (with_selector s selectors) =
      are_supported k
      (parts_supported (k - search_count s) (so_far && nat_le (search_count s) k) s) selectors

-- nothing follows
abbrev pub is_last_condition : List Condition → Bool
is_last_condition [] = true
is_last_condition (c ∷ conditions) = false

-- a pseudo-element without an argument, which nothing follows
abbrev pub is_plain_element : Option PseudoElement → Bool
is_plain_element None = true
is_plain_element (Some e) = is_none e.argument && is_last_condition e.after

-- the selector has a meaning
abbrev pub is_supported_selector : Selector → Bool
is_supported_selector s =
    parts_supported deepest_joined true (parts_from s.parts) && is_plain_element s.pseudo_element

-- the first of them has none: what is left from it on
abbrev pub first_unsupported : List Placed → Option (List ℕ)
first_unsupported [] = None
first_unsupported (p ∷ all) =
    if is_supported_selector p.selector then first_unsupported all else Some p.from

-- the selector, if it has a meaning
abbrev pub supported_reading : Reading Placed → Reading Selector
supported_reading (got p rest) =
    if is_supported_selector p.selector then got p.selector rest else refused Unsupported p.from
supported_reading (refused why rest) = refused why rest

-- the text is a selector, and has a meaning
abbrev pub supported_selector : Names → Reader Selector
supported_selector names text = supported_reading (placed_selector names text)

abbrev pub if_all : List Placed → List ℕ → Option (List ℕ) → Reading (List Selector)
if_all all rest None = got (map (λ p. p.selector) all) rest
if_all all rest (Some from) = refused Unsupported from

-- the selectors, if all have a meaning
abbrev pub supported_readings : Reading (List Placed) → Reading (List Selector)
supported_readings (got all rest) = if_all all rest (first_unsupported all)
supported_readings (refused why rest) = refused why rest

-- the text is a list of selectors, and all have a meaning
abbrev pub supported_list : Names → Reader (List Selector)
supported_list names text = supported_readings (placed_list names text)
