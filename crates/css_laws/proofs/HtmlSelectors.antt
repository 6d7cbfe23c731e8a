-- Selectors of rules have numbers in an HTML document as they have before it reads them, and ask the same lists.
-- Serves `winners_law`.
use Rattle.std.proofs.Common.{◌≡◌, ℕ, suc, ◌+◌, ◌<◌, List, [], ◌∷◌, ◌++◌, length, map, get_or, option_map, Option, None, Some, refl, sym, ap, ◌∙◌, subst, arith}
use Rattle.std.specs.Prelude.{All}
use Rattle.std.proofs.lemmas.List.{get_or-map, length-map, map-append}
use Rattle.std.proofs.lemmas.List.Elements.{All-map, All-weaker}
use Rattle.css_selector_text.specs.Components.{Simple, Condition, Conditions, Part, Parts, PseudoElement, Selector, Selectors, conditions_from, parts_from}
use Rattle.css_selector_text.specs.Components.Simple.{universal, type_name, id, class, has_attribute, attribute, structure, language, state, function, named_element, nesting, namespaced}
use Rattle.css_selector_text.specs.Components.Condition.{simple, negation, any_of, where_any, tested}
use Rattle.css_selector_text.specs.Components.Conditions.{end_of_compound, with_condition}
use Rattle.css_selector_text.specs.Components.Parts.{end_of_selector, with_part}
use Rattle.css_selector_text.specs.Components.Selectors.{end_of_list, with_selector as with_complex}
use Rattle.css_selectors.specs.MarkedLists.{ListText}
use Rattle.css_selectors.specs.MarkedLists.ListText.{matched, tested as tested_list}
use Rattle.css_selectors.specs.Numberings.{Numbered, NumberingText, element_with, made_of, no_lists, numbered_condition, numbered_conditions, numbered_each, numbered_element, numbered_part, numbered_parts, numbered_parts_and_element, numbered_selector, numbered_selectors, one_then, part_with, selector_with, with_each_list, with_list, with_lists, with_numbered}
use Rattle.css_sheet.specs.SheetOrder.{SheetRuleText}
use Rattle.css_styles.specs.NumberedRules.{numbered_rule, numbered_rules, numbered_sheets, with_selector}
use Rattle.css_tree.specs.Asked.{AskBefore, AskEarlier, AsksBelow, CompoundAsksBelow, ListAsksBelow, MarkedAsksBelow, PartsAskBelow, SelectorAsksBelow, SimpleAsksBelow}
use Rattle.css_tree.specs.Html.{complex_in, compound_in, condition_in, html_selector, list_in, part_in, pseudo_element_in, selectors_in, simple_in}
use Rattle.css_tree.specs.declared.html.HtmlMode.{HtmlMode}
use Rattle.css_laws.proofs.HtmlNumbers.{html_condition}

module _ (mode : HtmlMode) where
  abbrev pub read_lists : List ListText → List ListText
  read_lists lists = map (list_in mode) lists

  -- ---- numbers

  -- what goes through reading one by one, goes through for all
  each_through : {A : Type 0} (f : A → A) (one : List ListText → A → Numbered A)
      → ((lists : List ListText) (x : A) → one (read_lists lists) (f x) ≡ (f (one lists x).0, read_lists (one lists x).1))
      → (lists : List ListText) (xs : List A)
      → numbered_each one (read_lists lists) (map f xs)
      ≡ (map f (numbered_each one lists xs).0, read_lists (numbered_each one lists xs).1)
  each_through f one through lists [] = refl
  each_through f one through lists (x ∷ xs) =
      let made = one lists x in
      ap (λ m. one_then (λ y ys. y ∷ ys) m (λ more. numbered_each one more (map f xs))) (through lists x)
      ∙ ap (λ m. (f made.0 ∷ m.0, m.1)) (each_through f one through made.1 xs)

  module _ (numbers : List ℕ) where
    html_conditions : (lists : List ListText) (cs : List Condition)
        → numbered_conditions numbers (read_lists lists) (map (condition_in mode) cs)
        ≡ (
          map (condition_in mode) (numbered_conditions numbers lists cs).0,
          read_lists (numbered_conditions numbers lists cs).1,
        )
    html_conditions = each_through (condition_in mode) (numbered_condition numbers) (html_condition mode numbers)

    html_part : (lists : List ListText) (p : Part)
        → numbered_part numbers (read_lists lists) (part_in mode p)
        ≡ (part_in mode (numbered_part numbers lists p).0, read_lists (numbered_part numbers lists p).1)
    html_part lists p = ap (made_of (part_with (part_in mode p))) (html_conditions lists p.conditions)

    html_element : (lists : List ListText) (e : Option PseudoElement)
        → numbered_element numbers (read_lists lists) (option_map (pseudo_element_in mode) e)
        ≡ (
          option_map (pseudo_element_in mode) (numbered_element numbers lists e).0,
          read_lists (numbered_element numbers lists e).1,
        )
    html_element lists None = refl
    html_element lists (Some e) =
        ap (made_of (element_with (pseudo_element_in mode e))) (html_conditions lists e.after)

    html_whole : (lists : List ListText) (s : Selector)
        → numbered_parts_and_element numbers (read_lists lists) (html_selector mode s)
        ≡ (
          html_selector mode (numbered_parts_and_element numbers lists s).0,
          read_lists (numbered_parts_and_element numbers lists s).1,
        )
    html_whole lists s =
        let made = numbered_parts numbers lists s.parts in
        ap (λ m. one_then selector_with m
        (λ more. numbered_element numbers more (option_map (pseudo_element_in mode) s.pseudo_element)))
        (each_through (part_in mode) (numbered_part numbers) html_part lists s.parts)
        ∙ ap (λ m. (selector_with (map (part_in mode) made.0) m.0, m.1)) (html_element made.1 s.pseudo_element)

  -- lists with numbers, as the document reads them
  abbrev pub read_numbering : NumberingText → NumberingText
  read_numbering n = record { lists = read_lists n.lists; numbers = n.numbers }

  html_numbered : (n : NumberingText) (s : Selector)
      → numbered_selector (read_numbering n) (html_selector mode s)
      ≡ (html_selector mode (numbered_selector n s).0, read_numbering (numbered_selector n s).1)
  html_numbered n s =
      ap (λ m. (m.0, with_lists (read_numbering n) m.1)) (html_whole n.numbers n.lists s)

  html_all : (n : NumberingText) (ss : List Selector)
      → numbered_selectors (read_numbering n) (map (html_selector mode) ss)
      ≡ (map (html_selector mode) (numbered_selectors n ss).0, read_numbering (numbered_selectors n ss).1)
  html_all n [] = refl
  html_all n (s ∷ ss) =
      let made = numbered_selector n s in
      ap (λ (m : Selector × NumberingText). (
        m.0 ∷ (numbered_selectors m.1 (map (html_selector mode) ss)).0,
        (numbered_selectors m.1 (map (html_selector mode) ss)).1,
      )) (html_numbered n s)
      ∙ ap (λ (m : List Selector × NumberingText). (html_selector mode made.0 ∷ m.0, m.1)) (html_all made.1 ss)

  html_list_added : (n : NumberingText) (ss : List Selector)
      → with_list (read_numbering n) (map (html_selector mode) ss) ≡ read_numbering (with_list n ss)
  html_list_added n ss =
      ap (λ k. record {
        lists = read_lists n.lists ++ matched (map (html_selector mode) ss) ∷ [];
        numbers = n.numbers ++ (k + 1) ∷ [];
      }) (length-map n.lists (list_in mode))
      ∙ ap (λ l. record {
        lists = l;
        numbers = n.numbers ++ (length n.lists + 1) ∷ [];
      }) (sym (map-append (list_in mode) n.lists (matched ss ∷ [])))

  html_lists : (n : NumberingText) (lists : List (List Selector))
      → with_each_list (read_numbering n) (map (map (html_selector mode)) lists)
      ≡ read_numbering (with_each_list n lists)
  html_lists n [] = refl
  html_lists n (list ∷ lists) =
      let made = numbered_selectors n list in
      ap (λ (m : List Selector × NumberingText).
      with_each_list (with_numbered m) (map (map (html_selector mode)) lists)) (html_all n list)
      ∙ ap (λ m. with_each_list m (map (map (html_selector mode)) lists)) (html_list_added made.1 made.0)
      ∙ html_lists (with_numbered made) lists

  -- the rule, as the document reads its selector
  abbrev pub read_rule : SheetRuleText → SheetRuleText
  read_rule rule = with_selector rule (html_selector mode rule.selector)

  html_rules : (n : NumberingText) (rules : List SheetRuleText)
      → numbered_rules (read_numbering n) (map read_rule rules)
      ≡ (map read_rule (numbered_rules n rules).0, read_numbering (numbered_rules n rules).1)
  html_rules n [] = refl
  html_rules n (rule ∷ rules) =
      let made = numbered_selector n rule.selector in
      ap (λ (m : Selector × NumberingText). (
        with_selector rule m.0 ∷ (numbered_rules m.1 (map read_rule rules)).0,
        (numbered_rules m.1 (map read_rule rules)).1,
      )) (html_numbered n rule.selector)
      ∙ ap (λ (m : List SheetRuleText × NumberingText).
      (with_selector rule (html_selector mode made.0) ∷ m.0, m.1)) (html_rules made.1 rules)

  pub html_sheets : (nested : List (List Selector)) (rules : List SheetRuleText)
      → numbered_sheets (map (map (html_selector mode)) nested) (map read_rule rules)
      ≡ (map read_rule (numbered_sheets nested rules).0, read_numbering (numbered_sheets nested rules).1)
  html_sheets nested rules =
      ap (λ n. numbered_rules n (map read_rule rules)) (html_lists no_lists nested)
      ∙ html_rules (with_each_list no_lists nested) rules

  -- ---- which lists are asked

  module _ (number : ℕ) where
    simple_asks : (s : Simple) → SimpleAsksBelow number s → SimpleAsksBelow number (simple_in mode s)
    simple_asks universal h = tt
    simple_asks (type_name name) h = tt
    simple_asks (id name) h = tt
    simple_asks (class name) h = tt
    simple_asks (has_attribute name) h = tt
    simple_asks (attribute name comparison value ignores) h = tt
    simple_asks (structure s) h = tt
    simple_asks (language ranges) h = tt
    simple_asks (state name) h = tt
    simple_asks (function name argument) h = tt
    simple_asks (named_element name argument) h = tt
    simple_asks (nesting list) h = h
    simple_asks (namespaced namespace local) h = tt

    mutual
      condition_asks : (c : Condition) → AsksBelow number c → AsksBelow number (condition_in mode c)
      condition_asks (simple s) h = simple_asks s h
      condition_asks (negation ss) h = list_asks ss h
      condition_asks (any_of ss) h = list_asks ss h
      condition_asks (where_any ss) h = list_asks ss h
      condition_asks (tested test ss) h = list_asks ss h

      compound_asks : (cs : Conditions) → CompoundAsksBelow number cs
          → CompoundAsksBelow number (compound_in mode cs)
      compound_asks end_of_compound h = tt
      compound_asks (with_condition c cs) h = (condition_asks c h.0, compound_asks cs h.1)

      parts_ask : (ps : Parts) → PartsAskBelow number ps → PartsAskBelow number (complex_in mode ps)
      parts_ask end_of_selector h = tt
      parts_ask (with_part k c ps) h = (compound_asks c h.0, parts_ask ps h.1)

      list_asks : (ss : Selectors) → ListAsksBelow number ss → ListAsksBelow number (selectors_in mode ss)
      list_asks end_of_list h = tt
      list_asks (with_complex s ss) h = (parts_ask s h.0, list_asks ss h.1)

    conditions_read : (cs : List Condition)
        → conditions_from (map (condition_in mode) cs) ≡ compound_in mode (conditions_from cs)
    conditions_read [] = refl
    conditions_read (c ∷ cs) = ap (with_condition (condition_in mode c)) (conditions_read cs)

    parts_read : (ps : List Part) → parts_from (map (part_in mode) ps) ≡ complex_in mode (parts_from ps)
    parts_read [] = refl
    parts_read (p ∷ ps) =
        ap (λ c. with_part p.combinator c (parts_from (map (part_in mode) ps))) (conditions_read p.conditions)
        ∙ ap (with_part p.combinator (compound_in mode (conditions_from p.conditions))) (parts_read ps)

    pub selector_asks : (s : Selector) → SelectorAsksBelow number s
        → SelectorAsksBelow number (html_selector mode s)
    selector_asks s h =
        subst (PartsAskBelow number) (sym (parts_read s.parts)) (parts_ask (parts_from s.parts) h)

    pub selectors_ask : (ss : List Selector) → All (SelectorAsksBelow number) ss
        → All (SelectorAsksBelow number) (map (html_selector mode) ss)
    selectors_ask ss h =
        All-map (SelectorAsksBelow number) (html_selector mode) ss
        (All-weaker (SelectorAsksBelow number) (λ s. SelectorAsksBelow number (html_selector mode s))
        selector_asks ss h)

    marked_asks : (list : ListText) → MarkedAsksBelow number list → MarkedAsksBelow number (list_in mode list)
    marked_asks (matched ss) h = selectors_ask ss h
    marked_asks (tested_list test ss) h = list_asks ss h

  pub earlier_read : (lists : List (List Selector)) → AskEarlier lists
      → AskEarlier (map (map (html_selector mode)) lists)
  earlier_read lists h k l =
      let len = length-map lists (map (html_selector mode)) in
      let within : k < length lists = omega (arith, l, len) in
      subst (All (SelectorAsksBelow (suc k))) (sym (get_or-map (map (html_selector mode)) lists k [] [] within))
      (selectors_ask (suc k) (get_or lists k []) (h k within))

  pub before_read : (lists : List ListText) → AskBefore lists → AskBefore (read_lists lists)
  before_read lists h k l =
      let len = length-map lists (list_in mode) in
      let within : k < length lists = omega (arith, l, len) in
      subst (MarkedAsksBelow (suc k)) (sym (get_or-map (list_in mode) lists k (matched []) (matched []) within))
      (marked_asks (suc k) (get_or lists k (matched [])) (h k within))
