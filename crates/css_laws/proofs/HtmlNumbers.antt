-- Numbering goes through the reading of an HTML document.
-- Serves `winners_law`.
use Rattle.std.proofs.Common.{◌≡◌, ℕ, ◌+◌, List, [], ◌∷◌, ◌++◌, length, map, refl, sym, ap, ◌∙◌}
use Rattle.std.proofs.lemmas.List.{length-map, map-append}
use Rattle.css_selector_text.specs.Components.{Namespace, Local, Simple, Condition, Conditions, Parts, Selectors}
use Rattle.css_selector_text.specs.Components.Local.{any_type, a_type, some_attribute, an_attribute, implied}
use Rattle.css_selector_text.specs.Components.Simple.{universal, type_name, id, class, has_attribute, attribute, structure, language, state, function, named_element, nesting, namespaced}
use Rattle.css_selector_text.specs.Components.Condition.{simple, negation, any_of, where_any, tested}
use Rattle.css_selector_text.specs.Components.Conditions.{end_of_compound, with_condition}
use Rattle.css_selector_text.specs.Components.Parts.{end_of_selector, with_part}
use Rattle.css_selector_text.specs.Components.Selectors.{end_of_list, with_selector}
use Rattle.css_selectors.specs.MarkedLists.{ListText}
use Rattle.css_selectors.specs.MarkedLists.ListText.{tested as tested_list}
use Rattle.css_selectors.specs.Numberings.{one_then, made_of, numbered_simple, numbered_test, numbered_condition, numbered_compound, numbered_complex, numbered_list, specificity_of}
use Rattle.css_selector_text.specs.Specificities.{Counts, nothing, plus, greater, of_test, of_simple, of_local, of_condition, of_compound, of_parts, greatest}
use Rattle.css_tree.specs.Html.{local_in, simple_in, condition_in, compound_in, complex_in, selectors_in, list_in}
use Rattle.css_tree.specs.declared.html.HtmlMode.{HtmlMode}

module _ (mode : HtmlMode) where
  -- ---- a document changes no specificity

  local_counts : (n : Namespace) (l : Local) → of_local (local_in mode n l) ≡ of_local l
  local_counts n any_type = refl
  local_counts n (a_type name) = refl
  local_counts n (some_attribute name) = refl
  local_counts n (an_attribute name c text ignores) = refl
  local_counts n implied = refl

  simple_counts : (s : Simple) → of_simple (simple_in mode s) ≡ of_simple s
  simple_counts universal = refl
  simple_counts (type_name name) = refl
  simple_counts (id text) = refl
  simple_counts (class word) = refl
  simple_counts (has_attribute name) = refl
  simple_counts (attribute name c text ignores) = refl
  simple_counts (structure s) = refl
  simple_counts (language ranges) = refl
  simple_counts (state name) = refl
  simple_counts (function name argument) = refl
  simple_counts (named_element name argument) = refl
  simple_counts (nesting list) = refl
  simple_counts (namespaced n l) = local_counts n l

  mutual
    condition_counts : (c : Condition) → of_condition (condition_in mode c) ≡ of_condition c
    condition_counts (simple s) = simple_counts s
    condition_counts (negation ss) = list_counts nothing ss
    condition_counts (any_of ss) = list_counts nothing ss
    condition_counts (where_any ss) = refl
    condition_counts (tested t ss) = ap (of_test t) (list_counts nothing ss)

    compound_counts : (so_far : Counts) (cs : Conditions) → of_compound so_far (compound_in mode cs) ≡ of_compound so_far cs
    compound_counts so_far end_of_compound = refl
    compound_counts so_far (with_condition c cs) =
        compound_counts (plus so_far (of_condition (condition_in mode c))) cs
        ∙ ap (λ k. of_compound (plus so_far k) cs) (condition_counts c)

    parts_counts : (so_far : Counts) (ps : Parts) → of_parts so_far (complex_in mode ps) ≡ of_parts so_far ps
    parts_counts so_far end_of_selector = refl
    parts_counts so_far (with_part k cs ps) =
        parts_counts (of_compound so_far (compound_in mode cs)) ps
        ∙ ap (λ n. of_parts n ps) (compound_counts so_far cs)

    list_counts : (so_far : Counts) (ss : Selectors) → greatest so_far (selectors_in mode ss) ≡ greatest so_far ss
    list_counts so_far end_of_list = refl
    list_counts so_far (with_selector ps ss) =
        list_counts (greater so_far (of_parts nothing (complex_in mode ps))) ss
        ∙ ap (λ n. greatest (greater so_far n) ss) (parts_counts nothing ps)

  -- ---- numbers

  module _ (numbers : List ℕ) where
    abbrev read : List ListText → List ListText
    read lists = map (list_in mode) lists

    html_simple : (s : Simple) → numbered_simple numbers (simple_in mode s) ≡ simple_in mode (numbered_simple numbers s)
    html_simple universal = refl
    html_simple (type_name name) = refl
    html_simple (id text) = refl
    html_simple (class word) = refl
    html_simple (has_attribute name) = refl
    html_simple (attribute name c text ignores) = refl
    html_simple (structure s) = refl
    html_simple (language ranges) = refl
    html_simple (state name) = refl
    html_simple (function name argument) = refl
    html_simple (named_element name argument) = refl
    html_simple (nesting list) = refl
    html_simple (namespaced n l) = refl

    mutual
      pub html_condition : (lists : List ListText) (c : Condition)
          → numbered_condition numbers (read lists) (condition_in mode c)
          ≡ (condition_in mode (numbered_condition numbers lists c).0, read (numbered_condition numbers lists c).1)
      html_condition lists (simple s) = ap (λ x. (simple x, read lists)) (html_simple s)
      html_condition lists (negation ss) = ap (made_of negation) (html_list lists ss)
      html_condition lists (any_of ss) = ap (made_of any_of) (html_list lists ss)
      html_condition lists (where_any ss) = ap (made_of where_any) (html_list lists ss)
      html_condition lists (tested t ss) =
          let made = numbered_list numbers lists ss in
          let one = tested_list t (selectors_in mode made.0) in
          ap (numbered_test (of_test t (greatest nothing (selectors_in mode ss))) t) (html_list lists ss)
          ∙ ap (λ n. numbered_test (of_test t n) t (selectors_in mode made.0, read made.1)) (list_counts nothing ss)
          ∙ ap (λ k. (
            simple (nesting (record {
              number = k + 1;
              specificity = specificity_of (of_test t (greatest nothing ss));
            })),
            read made.1 ++ (one ∷ []),
          )) (length-map made.1 (list_in mode))
          ∙ ap (λ l. (
            simple (nesting (record {
              number = length made.1 + 1;
              specificity = specificity_of (of_test t (greatest nothing ss));
            })),
            l,
          )) (sym (map-append (list_in mode) made.1 (tested_list t made.0 ∷ [])))

      html_compound : (lists : List ListText) (cs : Conditions)
          → numbered_compound numbers (read lists) (compound_in mode cs)
          ≡ (compound_in mode (numbered_compound numbers lists cs).0, read (numbered_compound numbers lists cs).1)
      html_compound lists end_of_compound = refl
      html_compound lists (with_condition c cs) =
          let one = numbered_condition numbers lists c in
          ap (λ m. one_then with_condition m (λ more. numbered_compound numbers more (compound_in mode cs)))
          (html_condition lists c)
          ∙ ap (λ m. (with_condition (condition_in mode one.0) m.0, m.1)) (html_compound one.1 cs)

      html_complex : (lists : List ListText) (ps : Parts)
          → numbered_complex numbers (read lists) (complex_in mode ps)
          ≡ (complex_in mode (numbered_complex numbers lists ps).0, read (numbered_complex numbers lists ps).1)
      html_complex lists end_of_selector = refl
      html_complex lists (with_part k cs ps) =
          let one = numbered_compound numbers lists cs in
          ap (λ m. one_then (with_part k) m (λ more. numbered_complex numbers more (complex_in mode ps)))
          (html_compound lists cs)
          ∙ ap (λ m. (with_part k (compound_in mode one.0) m.0, m.1)) (html_complex one.1 ps)

      html_list : (lists : List ListText) (ss : Selectors)
          → numbered_list numbers (read lists) (selectors_in mode ss)
          ≡ (selectors_in mode (numbered_list numbers lists ss).0, read (numbered_list numbers lists ss).1)
      html_list lists end_of_list = refl
      html_list lists (with_selector ps ss) =
          let one = numbered_complex numbers lists ps in
          ap (λ m. one_then with_selector m (λ more. numbered_list numbers more (selectors_in mode ss)))
          (html_complex lists ps)
          ∙ ap (λ m. (with_selector (complex_in mode one.0) m.0, m.1)) (html_list one.1 ss)
