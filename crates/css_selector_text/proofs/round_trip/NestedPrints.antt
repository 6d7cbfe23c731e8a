-- A selector is printed as before if it stands under a list.
-- Serves `printing_laws`.
use Rattle.std.proofs.Common.{◌≡◌, List, [], ◌∷◌, ◌++◌, map, Option, None, Some, refl, ap, ◌∙◌}
use Rattle.std.specs.Prelude.{codes}
use Rattle.std.specs.List.{flat_map}
use Rattle.std.specs.Option.{option_map}
use Rattle.css_selector_text.specs.declared.components.Nesting.{Nesting}
use Rattle.css_selector_text.specs.Components.{Simple, Condition, Conditions, Parts, Selectors, Part, PseudoElement, Selector}
use Rattle.css_selector_text.specs.Components.Simple.{universal, type_name, id, class, has_attribute, attribute, structure, language, state, function, named_element, nesting, namespaced}
use Rattle.css_selector_text.specs.Components.Condition.{simple, negation, any_of, where_any, tested}
use Rattle.css_selector_text.specs.Components.Conditions.{end_of_compound, with_condition}
use Rattle.css_selector_text.specs.Components.Parts.{end_of_selector, with_part}
use Rattle.css_selector_text.specs.Components.Selectors.{end_of_list, with_selector}
use Rattle.css_selector_text.specs.reading.Nested.{simple_under, selector_under}
use Rattle.css_selector_text.specs.printing.Printing.{simple_text, condition_text, compound_text, complex_text, further_parts_text, selectors_text, further_selectors_text, part_text, parts_text, combinator_text, leading_text, function_text, test_text, pseudo_element_text, selector_text}
use Rattle.css_selector_text.specs.Simples.{condition_with, compound_with, complex_with, selectors_with, part_with, pseudo_element_with}

module _ (list : Nesting) where
  simple_prints : (s : Simple) → simple_text (simple_under list s) ≡ simple_text s
  simple_prints universal = refl
  simple_prints (type_name name) = refl
  simple_prints (id text) = refl
  simple_prints (class word) = refl
  simple_prints (has_attribute name) = refl
  simple_prints (attribute name c text ignores) = refl
  simple_prints (structure s) = refl
  simple_prints (language ranges) = refl
  simple_prints (state name) = refl
  simple_prints (function name argument) = refl
  simple_prints (named_element name argument) = refl
  simple_prints (nesting other) = refl
  simple_prints (namespaced namespace local) = refl

  mutual
    condition_prints : (c : Condition)
        → condition_text (condition_with (simple_under list) c) ≡ condition_text c
    condition_prints (simple s) = simple_prints s
    condition_prints (negation ss) = ap (function_text (codes ":not(")) (list_prints ss)
    condition_prints (any_of ss) = ap (function_text (codes ":is(")) (list_prints ss)
    condition_prints (where_any ss) = ap (function_text (codes ":where(")) (list_prints ss)
    condition_prints (tested test ss) = ap (test_text test) (list_prints ss)

    compound_prints : (cs : Conditions)
        → compound_text (compound_with (simple_under list) cs) ≡ compound_text cs
    compound_prints end_of_compound = refl
    compound_prints (with_condition c cs) =
        ap (λ t. t ++ compound_text (compound_with (simple_under list) cs)) (condition_prints c)
        ∙ ap (λ t. condition_text c ++ t) (compound_prints cs)

    complex_prints : (ps : Parts)
        → complex_text (complex_with (simple_under list) ps) ≡ complex_text ps
    complex_prints end_of_selector = refl
    complex_prints (with_part k c ps) =
        ap (λ t. leading_text k ++ (t ++ further_parts_text (complex_with (simple_under list) ps)))
        (compound_prints c)
        ∙ ap (λ t. leading_text k ++ (compound_text c ++ t)) (further_prints ps)

    further_prints : (ps : Parts)
        → further_parts_text (complex_with (simple_under list) ps) ≡ further_parts_text ps
    further_prints end_of_selector = refl
    further_prints (with_part k c ps) =
        ap (λ t. combinator_text k ++ t ++ further_parts_text (complex_with (simple_under list) ps))
        (compound_prints c)
        ∙ ap (λ t. combinator_text k ++ compound_text c ++ t) (further_prints ps)

    list_prints : (ss : Selectors)
        → selectors_text (selectors_with (simple_under list) ss) ≡ selectors_text ss
    list_prints end_of_list = refl
    list_prints (with_selector s ss) =
        ap (λ t. t ++ further_selectors_text (selectors_with (simple_under list) ss))
        (complex_prints s)
        ∙ ap (λ t. complex_text s ++ t) (more_prints ss)

    more_prints : (ss : Selectors)
        → further_selectors_text (selectors_with (simple_under list) ss) ≡ further_selectors_text ss
    more_prints end_of_list = refl
    more_prints (with_selector s ss) =
        ap (λ t. codes ", " ++ t ++ further_selectors_text (selectors_with (simple_under list) ss))
        (complex_prints s)
        ∙ ap (λ t. codes ", " ++ complex_text s ++ t) (more_prints ss)

  row_prints : (cs : List Condition)
      → flat_map condition_text (map (condition_with (simple_under list)) cs)
      ≡ flat_map condition_text cs
  row_prints [] = refl
  row_prints (c ∷ cs) =
      ap (λ t. t ++ flat_map condition_text (map (condition_with (simple_under list)) cs))
      (condition_prints c)
      ∙ ap (λ t. condition_text c ++ t) (row_prints cs)

  joined_prints : (ps : List Part)
      → flat_map part_text (map (part_with (simple_under list)) ps) ≡ flat_map part_text ps
  joined_prints [] = refl
  joined_prints (p ∷ ps) =
      ap (λ t. (combinator_text p.combinator ++ t)
      ++ flat_map part_text (map (part_with (simple_under list)) ps)) (row_prints p.conditions)
      ∙ ap (λ t. part_text p ++ t) (joined_prints ps)

  parts_print : (ps : List Part)
      → parts_text (map (part_with (simple_under list)) ps) ≡ parts_text ps
  parts_print [] = refl
  parts_print (p ∷ ps) =
      ap (λ t. t ++ flat_map part_text (map (part_with (simple_under list)) ps))
      (row_prints p.conditions)
      ∙ ap (λ t. flat_map condition_text p.conditions ++ t) (joined_prints ps)

  element_prints : (e : Option PseudoElement)
      → pseudo_element_text (option_map (pseudo_element_with (simple_under list)) e)
      ≡ pseudo_element_text e
  element_prints None = refl
  element_prints (Some e) =
      ap (λ t. simple_text (named_element e.name e.argument) ++ t) (row_prints e.after)

  pub selector_prints : (s : Selector) → selector_text (selector_under list s) ≡ selector_text s
  selector_prints s =
      ap (λ t. t ++ pseudo_element_text
      (option_map (pseudo_element_with (simple_under list)) s.pseudo_element)) (parts_print s.parts)
      ∙ ap (λ t. parts_text s.parts ++ t) (element_prints s.pseudo_element)
