-- `&` is `:is()` of the list that it stands for: it matches the same and counts the same.
-- Serves `nesting_laws::nesting_law`.
use Rattle.std.proofs.Common.{◌≡◌, ◌↔◌, List, [], ◌∷◌, map, IsTrue, Option, None, Some, refl, sym, ap, ◌∙◌, subst}
use Rattle.std.specs.Option.{option_map}
use Rattle.css_matching.specs.declared.Combinator.{Combinator}
use Rattle.css_matching.specs.Placements.{Relates}
use Rattle.css_selector_text.specs.declared.components.Nesting.{Nesting}
use Rattle.css_selectors.specs.Documents.{Document, shape}
use Rattle.css_selector_text.specs.Components.{Simple, Condition, Conditions, Parts, Selectors, Part, PseudoElement, Selector, conditions_from, parts_from}
use Rattle.css_selector_text.specs.Components.Simple.{universal, type_name, id, class, has_attribute, attribute, structure, language, state, function, named_element, nesting, namespaced}
use Rattle.css_selector_text.specs.Components.Condition.{simple, negation, any_of, where_any, tested}
use Rattle.css_selector_text.specs.Components.Conditions.{end_of_compound, with_condition}
use Rattle.css_selector_text.specs.Components.Parts.{end_of_selector, with_part}
use Rattle.css_selector_text.specs.Components.Selectors.{end_of_list, with_selector}
use Rattle.css_selectors.specs.Meanings.{MatchesAny, IsPlaced, Matches}
use Rattle.css_selector_text.specs.reading.Nested.{simple_under, selector_under}
use Rattle.css_selector_text.specs.Simples.{condition_with, compound_with, complex_with, selectors_with, pseudo_element_with}
use Rattle.css_selector_text.specs.Specificities.{Counts, nothing, one_name, plus, greater, of_simple, of_test, of_condition, of_compound, of_parts, greatest, of_pseudo_element, specificity}
use Rattle.css_selector_text.specs.SpecificityViews.{counts_of}
use Rattle.css_selectors.specs.SpelledOut.{as_list, spelled_simple, spelled_condition, spelled_compound, spelled_complex, spelled_list, spelled_part, spelled_element, spelled_selector}
use Rattle.css_selectors.proofs.AlikeSelectors.{Alike, CompoundsAlike, PartsAlike, ListsAlike, AsksSame, complex_alike}
use Rattle.css_selectors.proofs.AlikeSelectors.Alike.{simples, negations, anys, wheres, tests}
use Rattle.css_selectors.proofs.AlikeSelectors.CompoundsAlike.{no_condition, one_condition}
use Rattle.css_selectors.proofs.AlikeSelectors.PartsAlike.{no_part, one_part}
use Rattle.css_selectors.proofs.AlikeSelectors.ListsAlike.{no_selector, one_selector}
use Rattle.css_selector_text.proofs.NestingLemmas.{compound_with-from, complex_with-from}

-- ---- as lists

module _ (spell : Nesting → Condition) where
  spelled_compound-from : (cs : List Condition)
      → spelled_compound spell (conditions_from cs)
      ≡ conditions_from (map (spelled_condition spell) cs)
  spelled_compound-from [] = refl
  spelled_compound-from (c ∷ cs) =
      ap (with_condition (spelled_condition spell c)) (spelled_compound-from cs)

  pub spelled_complex-from : (ps : List Part)
      → spelled_complex spell (parts_from ps) ≡ parts_from (map (spelled_part spell) ps)
  spelled_complex-from [] = refl
  spelled_complex-from (p ∷ ps) =
      ap (λ x. with_part p.combinator x (spelled_complex spell (parts_from ps)))
      (spelled_compound-from p.conditions)
      ∙ ap (with_part p.combinator (conditions_from (map (spelled_condition spell) p.conditions)))
      (spelled_complex-from ps)

-- ---- matching

module _ (list : Nesting) (all : Selectors) where
  no_element : (e : Option PseudoElement)
      → (option_map (pseudo_element_with (simple_under list)) e ≡ None)
      ↔ (option_map (spelled_element (as_list all)) e ≡ None)
  no_element None = (λ h. refl, λ h. refl)
  no_element (Some e) = (λ h. absurd (cc), λ h. absurd (cc))

  module _ {Node : Type 0} (d : Document Node) (Is : Node → Type 0)
      (answers : (n : Node) → Is n → IsTrue (d.is_in_list n list.number) ↔ MatchesAny d all n) where
    simple_same : (s : Simple)
        → AsksSame d Is (simple_under list s) (spelled_simple (as_list all) s)
    simple_same universal n is = (λ h. h, λ h. h)
    simple_same (type_name name) n is = (λ h. h, λ h. h)
    simple_same (id text) n is = (λ h. h, λ h. h)
    simple_same (class word) n is = (λ h. h, λ h. h)
    simple_same (has_attribute name) n is = (λ h. h, λ h. h)
    simple_same (attribute name c text ignores) n is = (λ h. h, λ h. h)
    simple_same (structure s) n is = (λ h. h, λ h. h)
    simple_same (language ranges) n is = (λ h. h, λ h. h)
    simple_same (state name) n is = (λ h. h, λ h. h)
    simple_same (function name argument) n is = (λ h. h, λ h. h)
    simple_same (named_element name argument) n is = (λ h. h, λ h. h)
    simple_same (nesting other) n is = answers n is
    simple_same (namespaced namespace local) n is = (λ h. h, λ h. h)

    mutual
      condition_same : (c : Condition) → Alike (AsksSame d Is)
          (condition_with (simple_under list) c) (spelled_condition (as_list all) c)
      condition_same (simple s) = simples (simple_same s)
      condition_same (negation ss) = negations (list_same ss)
      condition_same (any_of ss) = anys (list_same ss)
      condition_same (where_any ss) = wheres (list_same ss)
      condition_same (tested test ss) = tests (list_same ss)

      compound_same : (cs : Conditions) → CompoundsAlike (AsksSame d Is)
          (compound_with (simple_under list) cs) (spelled_compound (as_list all) cs)
      compound_same end_of_compound = no_condition
      compound_same (with_condition c cs) = one_condition (condition_same c) (compound_same cs)

      complex_same : (ps : Parts) → PartsAlike (AsksSame d Is)
          (complex_with (simple_under list) ps) (spelled_complex (as_list all) ps)
      complex_same end_of_selector = no_part
      complex_same (with_part k c ps) = one_part (compound_same c) (complex_same ps)

      list_same : (ss : Selectors) → ListsAlike (AsksSame d Is)
          (selectors_with (simple_under list) ss) (spelled_list (as_list all) ss)
      list_same end_of_list = no_selector
      list_same (with_selector ps ss) = one_selector (complex_same ps) (list_same ss)

    -- On nodes of a kind, which are related to such nodes alone, `&` matches what the list does.
    pub matches_same : ((c : Combinator) (a b : Node) → Relates (shape d) c a b → Is b → Is a)
        → (s : Selector) (n : Node) → Is n
        → Matches d (selector_under list s) n ↔ Matches d (spelled_selector all s) n
    matches_same stays s n is =
        let k = complex_alike d Is stays (complex_with (simple_under list) (parts_from s.parts))
        (spelled_complex (as_list all) (parts_from s.parts)) (complex_same (parts_from s.parts)) n is
        in
        let e = no_element s.pseudo_element in (
          λ h. (
            e.0 h.0,
            subst (λ p. IsPlaced d p n) (spelled_complex-from (as_list all) s.parts)
                (k.0 (subst (λ p. IsPlaced d p n)
                (sym (complex_with-from (simple_under list) s.parts)) h.1)),
          ),
          λ h. (
            e.1 h.0,
            subst (λ p. IsPlaced d p n) (complex_with-from (simple_under list) s.parts)
                (k.1 (subst (λ p. IsPlaced d p n)
                (sym (spelled_complex-from (as_list all) s.parts)) h.1)),
          ),
        )

  -- ---- specificity

  module _ (counts : counts_of list.specificity ≡ greatest nothing all) where
    simple_counts : (s : Simple)
        → of_simple (simple_under list s) ≡ of_condition (spelled_simple (as_list all) s)
    simple_counts universal = refl
    simple_counts (type_name name) = refl
    simple_counts (id text) = refl
    simple_counts (class word) = refl
    simple_counts (has_attribute name) = refl
    simple_counts (attribute name c text ignores) = refl
    simple_counts (structure s) = refl
    simple_counts (language ranges) = refl
    simple_counts (state name) = refl
    simple_counts (function name argument) = refl
    simple_counts (named_element name argument) = refl
    simple_counts (nesting other) = counts
    simple_counts (namespaced namespace local) = refl

    mutual
      condition_counts : (c : Condition)
          → of_condition (condition_with (simple_under list) c)
          ≡ of_condition (spelled_condition (as_list all) c)
      condition_counts (simple s) = simple_counts s
      condition_counts (negation ss) = list_counts ss nothing
      condition_counts (any_of ss) = list_counts ss nothing
      condition_counts (where_any ss) = refl
      condition_counts (tested test ss) = ap (of_test test) (list_counts ss nothing)

      compound_counts : (cs : Conditions) (so_far : Counts)
          → of_compound so_far (compound_with (simple_under list) cs)
          ≡ of_compound so_far (spelled_compound (as_list all) cs)
      compound_counts end_of_compound so_far = refl
      compound_counts (with_condition c cs) so_far =
          ap (λ x. of_compound (plus so_far x) (compound_with (simple_under list) cs))
          (condition_counts c)
          ∙ compound_counts cs (plus so_far (of_condition (spelled_condition (as_list all) c)))

      parts_count : (ps : Parts) (so_far : Counts)
          → of_parts so_far (complex_with (simple_under list) ps)
          ≡ of_parts so_far (spelled_complex (as_list all) ps)
      parts_count end_of_selector so_far = refl
      parts_count (with_part k c ps) so_far =
          ap (λ x. of_parts x (complex_with (simple_under list) ps)) (compound_counts c so_far)
          ∙ parts_count ps (of_compound so_far (spelled_compound (as_list all) c))

      list_counts : (ss : Selectors) (so_far : Counts)
          → greatest so_far (selectors_with (simple_under list) ss)
          ≡ greatest so_far (spelled_list (as_list all) ss)
      list_counts end_of_list so_far = refl
      list_counts (with_selector s ss) so_far =
          ap (λ x. greatest (greater so_far x) (selectors_with (simple_under list) ss))
          (parts_count s nothing)
          ∙ list_counts ss (greater so_far (of_parts nothing (spelled_complex (as_list all) s)))

    element_counts : (e : Option PseudoElement)
        → of_pseudo_element (option_map (pseudo_element_with (simple_under list)) e)
        ≡ of_pseudo_element (option_map (spelled_element (as_list all)) e)
    element_counts None = refl
    element_counts (Some e) =
        ap (of_compound one_name) (sym (compound_with-from (simple_under list) e.after))
        ∙ compound_counts (conditions_from e.after) one_name
        ∙ ap (of_compound one_name) (spelled_compound-from (as_list all) e.after)

    pub specificity_same : (s : Selector)
        → specificity (selector_under list s) ≡ specificity (spelled_selector all s)
    specificity_same s =
        ap (λ x. plus x (of_pseudo_element
        (option_map (pseudo_element_with (simple_under list)) s.pseudo_element)))
        (ap (of_parts nothing) (sym (complex_with-from (simple_under list) s.parts))
        ∙ parts_count (parts_from s.parts) nothing
        ∙ ap (of_parts nothing) (spelled_complex-from (as_list all) s.parts))
        ∙ ap (plus (of_parts nothing (parts_from (map (spelled_part (as_list all)) s.parts))))
        (element_counts s.pseudo_element)
