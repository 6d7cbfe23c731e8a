-- A selector in the default namespace is printed as it is written.
-- Serves `printing_laws::printing_law`.
use Rattle.std.proofs.Common.{◌≡◌, ℕ, Bool, true, false, not, ◌&&◌, ◌||◌, List, [], ◌∷◌, ◌++◌, Option, None, Some, flat_map, map, refl, ap, ◌∙◌}
use Rattle.std.specs.Prelude.{codes, if◌then◌else◌}
use Rattle.css_selector_text.specs.Components.{Simple, Condition, Conditions, Parts, Selectors, Part, Selector}
use Rattle.css_selector_text.specs.Components.Simple.{universal, type_name, id, class, has_attribute, attribute, structure, language, state, function, named_element, nesting, namespaced}
use Rattle.css_selector_text.specs.Components.Condition.{simple, negation, any_of, where_any, tested}
use Rattle.css_selector_text.specs.Components.Conditions.{end_of_compound, with_condition}
use Rattle.css_selector_text.specs.Components.Parts.{end_of_selector, with_part}
use Rattle.css_selector_text.specs.Components.Selectors.{end_of_list, with_selector}
use Rattle.css_selector_text.specs.reading.Defaults.{type_in, implied_in, is_exempting, with_implied, begins_typed, is_end, condition_in, compound_in, complex_in, selectors_in, is_typed, row_in, is_last_part, parts_in, in_default, selector_in}
use Rattle.css_selector_text.specs.Names.{Names}
use Rattle.css_selector_text.specs.printing.Printing.{function_text, test_text, simple_text, leading_text, combinator_text, condition_text, compound_text, complex_text, further_parts_text, selectors_text, further_selectors_text, part_text, parts_text, pseudo_element_text, selector_text}

module _ (number : ℕ) where
  simple_prints : (s : Simple) → simple_text (type_in number s) ≡ simple_text s
  simple_prints universal = refl
  simple_prints (type_name name) = refl
  simple_prints (id text) = refl
  simple_prints (class word) = refl
  simple_prints (has_attribute name) = refl
  simple_prints (attribute name comparison text ignores) = refl
  simple_prints (structure s) = refl
  simple_prints (language ranges) = refl
  simple_prints (state name) = refl
  simple_prints (function name argument) = refl
  simple_prints (named_element name argument) = refl
  simple_prints (nesting list) = refl
  simple_prints (namespaced namespace local) = refl

  implied_prints : (b : Bool) (c : Conditions)
      → compound_text (with_implied number b c) ≡ compound_text c
  implied_prints true c = refl
  implied_prints false c = refl

  mutual
    condition_prints : (exempting : Bool) (c : Condition)
        → condition_text (condition_in number exempting c) ≡ condition_text c
    condition_prints exempting (simple s) = simple_prints s
    condition_prints exempting (negation selectors) =
        ap (function_text (codes ":not(")) (list_prints true selectors)
    condition_prints exempting (any_of selectors) =
        ap (function_text (codes ":is(")) (list_prints true selectors)
    condition_prints exempting (where_any selectors) =
        ap (function_text (codes ":where(")) (list_prints true selectors)
    condition_prints exempting (tested test selectors) =
        ap (test_text test) (list_prints (exempting || is_exempting test) selectors)

    compound_prints : (exempting : Bool) (c : Conditions)
        → compound_text (compound_in number exempting c) ≡ compound_text c
    compound_prints exempting end_of_compound = refl
    compound_prints exempting (with_condition c conditions) =
        ap (λ t. t ++ compound_text (compound_in number exempting conditions))
        (condition_prints exempting c)
        ∙ ap (λ t. condition_text c ++ t) (compound_prints exempting conditions)

    further_prints : (exempting : Bool) (parts : Parts)
        → further_parts_text (complex_in number exempting parts) ≡ further_parts_text parts
    further_prints exempting end_of_selector = refl
    further_prints exempting (with_part k c parts) =
        ap (λ t. combinator_text k ++ t ++ further_parts_text (complex_in number exempting parts))
        (implied_prints (not (begins_typed c || exempting && is_end parts)) (compound_in number exempting c)
        ∙ compound_prints exempting c)
        ∙ ap (λ t. combinator_text k ++ compound_text c ++ t) (further_prints exempting parts)

    complex_prints : (exempting : Bool) (parts : Parts)
        → complex_text (complex_in number exempting parts) ≡ complex_text parts
    complex_prints exempting end_of_selector = refl
    complex_prints exempting (with_part k c parts) =
        ap (λ t. leading_text k ++ (t ++ further_parts_text (complex_in number exempting parts)))
        (implied_prints (not (begins_typed c || exempting && is_end parts)) (compound_in number exempting c)
        ∙ compound_prints exempting c)
        ∙ ap (λ t. leading_text k ++ (compound_text c ++ t)) (further_prints exempting parts)

    list_prints : (exempting : Bool) (selectors : Selectors)
        → selectors_text (selectors_in number exempting selectors) ≡ selectors_text selectors
    list_prints exempting end_of_list = refl
    list_prints exempting (with_selector s selectors) =
        ap (λ t. t ++ further_selectors_text (selectors_in number exempting selectors))
        (complex_prints exempting s)
        ∙ ap (λ t. complex_text s ++ t) (others_print exempting selectors)

    others_print : (exempting : Bool) (selectors : Selectors)
        → further_selectors_text (selectors_in number exempting selectors)
        ≡ further_selectors_text selectors
    others_print exempting end_of_list = refl
    others_print exempting (with_selector s selectors) =
        ap (λ t. codes ", " ++ t ++ further_selectors_text (selectors_in number exempting selectors))
        (complex_prints exempting s)
        ∙ ap (λ t. codes ", " ++ complex_text s ++ t) (others_print exempting selectors)

  conditions_print : (exempting : Bool) (cs : List Condition)
      → flat_map condition_text (map (condition_in number exempting) cs)
      ≡ flat_map condition_text cs
  conditions_print exempting [] = refl
  conditions_print exempting (c ∷ cs) =
      ap (λ t. t ++ flat_map condition_text (map (condition_in number exempting) cs))
      (condition_prints exempting c)
      ∙ ap (λ t. condition_text c ++ t) (conditions_print exempting cs)

  row_prints : (exempting is_last : Bool) (cs : List Condition)
      → flat_map condition_text (row_in number exempting is_last cs) ≡ flat_map condition_text cs
  row_prints exempting is_last cs = by (not (is_typed cs || exempting && is_last))
    where
      others : List Condition
      others = map (condition_in number exempting) cs

      by : (b : Bool) → flat_map condition_text (if b then implied_in number ∷ others else others)
          ≡ flat_map condition_text cs
      by true = conditions_print exempting cs
      by false = conditions_print exempting cs

  links_print : (exempting : Bool) (ps : List Part)
      → flat_map part_text (parts_in number exempting ps) ≡ flat_map part_text ps
  links_print exempting [] = refl
  links_print exempting (p ∷ ps) =
      ap (λ t. (combinator_text p.combinator ++ t) ++ flat_map part_text (parts_in number exempting ps))
      (row_prints exempting (is_last_part ps) p.conditions)
      ∙ ap (λ t. part_text p ++ t) (links_print exempting ps)

  parts_print : (exempting : Bool) (ps : List Part)
      → parts_text (parts_in number exempting ps) ≡ parts_text ps
  parts_print exempting [] = refl
  parts_print exempting (p ∷ ps) =
      ap (λ t. t ++ flat_map part_text (parts_in number exempting ps))
      (row_prints exempting (is_last_part ps) p.conditions)
      ∙ ap (λ t. flat_map condition_text p.conditions ++ t) (links_print exempting ps)

in_default-prints : (o : Option ℕ) (ps : List Part) → parts_text (in_default o ps) ≡ parts_text ps
in_default-prints None ps = refl
in_default-prints (Some number) ps = parts_print number false ps

pub selector_in-prints : (names : Names) (s : Selector)
    → selector_text (selector_in names s) ≡ selector_text s
selector_in-prints names s =
    ap (λ t. t ++ pseudo_element_text s.pseudo_element)
    (in_default-prints names.default_namespace s.parts)
