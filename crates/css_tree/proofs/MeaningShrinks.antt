-- Lists are only appended: what holds of lists, whatever is appended, holds of those before.
-- Serves `meaning_law`.
use Rattle.std.proofs.Common.{◌≡◌, ℕ, List, [], ◌∷◌, ◌++◌, Option, None, Some, refl, sym, ap, subst, ◌∙◌}
use Rattle.css_selector_text.specs.Components.{Condition, Conditions, Parts, Selectors, Part, PseudoElement, Selector, conditions_from, parts_from}
use Rattle.css_selector_text.specs.Components.Condition.{simple, negation, any_of, where_any, tested}
use Rattle.css_selector_text.specs.Components.Conditions.{end_of_compound, with_condition}
use Rattle.css_selector_text.specs.Components.Parts.{end_of_selector, with_part}
use Rattle.css_selector_text.specs.Components.Selectors.{end_of_list, with_selector}
use Rattle.css_selectors.specs.MarkedLists.{ListText}
use Rattle.css_selectors.specs.MarkedLists.ListText.{tested as tested_list, matched}
use Rattle.css_selectors.specs.Numberings.{NumberingText, one_then, made_of, numbered_condition, numbered_compound, numbered_complex, numbered_list, numbered_conditions, numbered_parts, numbered_element, numbered_selector, numbered_selectors, with_each_list, with_numbered}

-- as parts and conditions in lists
module _ (numbers : List ℕ) where
  pub compound-from : (lists : List ListText) (cs : List Condition)
      → numbered_compound numbers lists (conditions_from cs)
      ≡ made_of conditions_from (numbered_conditions numbers lists cs)
  compound-from lists [] = refl
  compound-from lists (c ∷ cs) =
      let one = numbered_condition numbers lists c in
      ap (λ m. (with_condition one.0 m.0, m.1)) (compound-from one.1 cs)

  pub complex-from : (lists : List ListText) (ps : List Part)
      → numbered_complex numbers lists (parts_from ps)
      ≡ made_of parts_from (numbered_parts numbers lists ps)
  complex-from lists [] = refl
  complex-from lists (p ∷ ps) =
      let one = numbered_conditions numbers lists p.conditions in
      ap (λ m. one_then (with_part p.combinator) m
      (λ more. numbered_complex numbers more (parts_from ps))) (compound-from lists p.conditions)
      ∙ ap (λ m. (with_part p.combinator (conditions_from one.0) m.0, m.1)) (complex-from one.1 ps)

module _ (Holds : List ListText → Type 0)
    (shrinks : (lists : List ListText) (l : ListText) → Holds (lists ++ (l ∷ [])) → Holds lists) where
  module _ (numbers : List ℕ) where
    mutual
      pub condition_shrinks : (lists : List ListText) (c : Condition) → Holds (numbered_condition numbers lists c).1
          → Holds lists
      condition_shrinks lists (simple s) h = h
      condition_shrinks lists (negation ss) h = list_shrinks lists ss h
      condition_shrinks lists (any_of ss) h = list_shrinks lists ss h
      condition_shrinks lists (where_any ss) h = list_shrinks lists ss h
      condition_shrinks lists (tested t ss) h =
          let made = numbered_list numbers lists ss in
          list_shrinks lists ss (shrinks made.1 (tested_list t made.0) h)

      pub compound_shrinks : (lists : List ListText) (cs : Conditions) → Holds (numbered_compound numbers lists cs).1
          → Holds lists
      compound_shrinks lists end_of_compound h = h
      compound_shrinks lists (with_condition c cs) h =
          condition_shrinks lists c (compound_shrinks (numbered_condition numbers lists c).1 cs h)

      pub complex_shrinks : (lists : List ListText) (ps : Parts) → Holds (numbered_complex numbers lists ps).1
          → Holds lists
      complex_shrinks lists end_of_selector h = h
      complex_shrinks lists (with_part k cs ps) h =
          compound_shrinks lists cs (complex_shrinks (numbered_compound numbers lists cs).1 ps h)

      pub list_shrinks : (lists : List ListText) (ss : Selectors) → Holds (numbered_list numbers lists ss).1 → Holds lists
      list_shrinks lists end_of_list h = h
      list_shrinks lists (with_selector ps ss) h =
          complex_shrinks lists ps (list_shrinks (numbered_complex numbers lists ps).1 ss h)

    pub parts_shrink : (lists : List ListText) (ps : List Part) → Holds (numbered_parts numbers lists ps).1 → Holds lists
    parts_shrink lists ps h =
        complex_shrinks lists (parts_from ps) (subst Holds (sym (ap (λ m. m.1) (complex-from numbers lists ps))) h)

    pub element_shrinks : (lists : List ListText) (e : Option PseudoElement) → Holds (numbered_element numbers lists e).1
        → Holds lists
    element_shrinks lists None h = h
    element_shrinks lists (Some e) h =
        compound_shrinks lists (conditions_from e.after)
        (subst Holds (sym (ap (λ m. m.1) (compound-from numbers lists e.after))) h)

  pub selectors_shrink : (n : NumberingText) (ss : List Selector) → Holds (numbered_selectors n ss).1.lists
      → Holds n.lists
  selectors_shrink n [] h = h
  selectors_shrink n (s ∷ ss) h =
      parts_shrink n.numbers n.lists s.parts
      (element_shrinks n.numbers (numbered_parts n.numbers n.lists s.parts).1 s.pseudo_element
      (selectors_shrink (numbered_selector n s).1 ss h))

  pub each_shrinks : (n : NumberingText) (lists : List (List Selector)) → Holds (with_each_list n lists).lists
      → Holds n.lists
  each_shrinks n [] h = h
  each_shrinks n (list ∷ lists) h =
      let made = numbered_selectors n list in
      selectors_shrink n list (shrinks made.1.lists (matched made.0) (each_shrinks (with_numbered made) lists h))
