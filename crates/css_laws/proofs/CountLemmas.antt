-- A selector with numbers counts as before.
-- Serves `winners_law`.
use Rattle.std.proofs.Common.{◌≡◌, ℕ, List, [], ◌∷◌, Option, None, Some, refl, sym, ap, ◌∙◌}
use Rattle.css_selector_text.specs.Components.{Simple, Condition, Conditions, Part, Parts, Selectors, PseudoElement, Selector, conditions_from, parts_from}
use Rattle.css_selector_text.specs.Components.Simple.{universal, type_name, id, class, has_attribute, attribute, structure, language, state, function, named_element, nesting, namespaced}
use Rattle.css_selector_text.specs.Components.Condition.{simple, negation, any_of, where_any, tested}
use Rattle.css_selector_text.specs.Components.Conditions.{end_of_compound, with_condition}
use Rattle.css_selector_text.specs.Components.Parts.{end_of_selector, with_part}
use Rattle.css_selector_text.specs.Components.Selectors.{end_of_list, with_selector}
use Rattle.css_selector_text.specs.Specificities.{Counts, nothing, one_name, plus, greater, of_simple, of_condition, of_compound, of_parts, greatest, of_pseudo_element, specificity}
use Rattle.css_selectors.specs.MarkedLists.{ListText}
use Rattle.css_selectors.specs.Numberings.{NumberingText, made_of, one_then, numbered_simple, numbered_condition, numbered_conditions, numbered_compound, numbered_complex, numbered_list, numbered_parts, numbered_element, numbered_selector}

module _ (numbers : List ℕ) where
  compound-from : (lists : List ListText) (cs : List Condition)
      → numbered_compound numbers lists (conditions_from cs)
      ≡ made_of conditions_from (numbered_conditions numbers lists cs)
  compound-from lists [] = refl
  compound-from lists (c ∷ cs) =
      let one = numbered_condition numbers lists c in
      ap (λ m. (with_condition one.0 m.0, m.1)) (compound-from one.1 cs)

  complex-from : (lists : List ListText) (ps : List Part)
      → numbered_complex numbers lists (parts_from ps)
      ≡ made_of parts_from (numbered_parts numbers lists ps)
  complex-from lists [] = refl
  complex-from lists (p ∷ ps) =
      let one = numbered_conditions numbers lists p.conditions in
      ap (λ m. one_then (with_part p.combinator) m
      (λ more. numbered_complex numbers more (parts_from ps))) (compound-from lists p.conditions)
      ∙ ap (λ m. (with_part p.combinator (conditions_from one.0) m.0, m.1)) (complex-from one.1 ps)

  simple_counts : (s : Simple) → of_simple (numbered_simple numbers s) ≡ of_simple s
  simple_counts universal = refl
  simple_counts (type_name name) = refl
  simple_counts (id text) = refl
  simple_counts (class word) = refl
  simple_counts (has_attribute name) = refl
  simple_counts (attribute name c text ignores) = refl
  simple_counts (structure s) = refl
  simple_counts (language ranges) = refl
  simple_counts (state name) = refl
  simple_counts (function name argument) = refl
  simple_counts (named_element name argument) = refl
  simple_counts (nesting list) = refl
  simple_counts (namespaced namespace local) = refl

  mutual
    condition_counts : (lists : List ListText) (c : Condition)
        → of_condition (numbered_condition numbers lists c).0 ≡ of_condition c
    condition_counts lists (simple s) = simple_counts s
    condition_counts lists (negation ss) = list_counts lists ss nothing
    condition_counts lists (any_of ss) = list_counts lists ss nothing
    condition_counts lists (where_any ss) = refl
    condition_counts lists (tested test ss) = refl

    compound_counts : (lists : List ListText) (cs : Conditions) (so_far : Counts)
        → of_compound so_far (numbered_compound numbers lists cs).0 ≡ of_compound so_far cs
    compound_counts lists end_of_compound so_far = refl
    compound_counts lists (with_condition c cs) so_far =
        let one = numbered_condition numbers lists c in
        ap (λ x. of_compound (plus so_far x) (numbered_compound numbers one.1 cs).0)
        (condition_counts lists c)
        ∙ compound_counts one.1 cs (plus so_far (of_condition c))

    parts_count : (lists : List ListText) (ps : Parts) (so_far : Counts)
        → of_parts so_far (numbered_complex numbers lists ps).0 ≡ of_parts so_far ps
    parts_count lists end_of_selector so_far = refl
    parts_count lists (with_part k c ps) so_far =
        let one = numbered_compound numbers lists c in
        ap (λ x. of_parts x (numbered_complex numbers one.1 ps).0) (compound_counts lists c so_far)
        ∙ parts_count one.1 ps (of_compound so_far c)

    list_counts : (lists : List ListText) (ss : Selectors) (so_far : Counts)
        → greatest so_far (numbered_list numbers lists ss).0 ≡ greatest so_far ss
    list_counts lists end_of_list so_far = refl
    list_counts lists (with_selector s ss) so_far =
        let one = numbered_complex numbers lists s in
        ap (λ x. greatest (greater so_far x) (numbered_list numbers one.1 ss).0)
        (parts_count lists s nothing)
        ∙ list_counts one.1 ss (greater so_far (of_parts nothing s))

  element_counts : (lists : List ListText) (e : Option PseudoElement)
      → of_pseudo_element (numbered_element numbers lists e).0 ≡ of_pseudo_element e
  element_counts lists None = refl
  element_counts lists (Some e) =
      ap (λ m. of_compound one_name m.0) (sym (compound-from lists e.after))
      ∙ compound_counts lists (conditions_from e.after) one_name

pub counts_same : (n : NumberingText) (s : Selector)
    → specificity (numbered_selector n s).0 ≡ specificity s
counts_same n s =
    let one = numbered_parts n.numbers n.lists s.parts in
    ap (λ m. plus (of_parts nothing m.0)
    (of_pseudo_element (numbered_element n.numbers one.1 s.pseudo_element).0))
    (sym (complex-from n.numbers n.lists s.parts))
    ∙ ap (λ x. plus x (of_pseudo_element (numbered_element n.numbers one.1 s.pseudo_element).0))
    (parts_count n.numbers n.lists (parts_from s.parts) nothing)
    ∙ ap (plus (of_parts nothing (parts_from s.parts)))
    (element_counts n.numbers one.1 s.pseudo_element)
