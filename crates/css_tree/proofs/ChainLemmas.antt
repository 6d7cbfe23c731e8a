-- What selectors of nested rules match on a marked page, they match, spelled out, on the page
-- without marks.
-- Serves `marking_laws`.
use Rattle.std.proofs.Common.{◌≡◌, ℕ, zero, suc, ◌+◌, ◌<◌, ◌≤◌, ◌↔◌, List, [], ◌∷◌, ◌++◌, get_or, length, length-append, map, IsTrue, Option, None, Some, refl, sym, ap, subst, ◌∙◌, append_assoc, append-nil, below_more, arith}
use Rattle.std.specs.Option.{option_map}
use Rattle.std.specs.Prelude.{All}
use Rattle.std.proofs.lemmas.List.{length_push, get_or_append_left, get_or-map, length-map}
use Rattle.std.proofs.lemmas.List.Elements.{All-head, All-tail}
use Rattle.std.proofs.Math.Seq.{get_or-append_seam}
use Rattle.css_matching.specs.ListTrees.{spot}
use Rattle.css_selector_text.specs.declared.components.Nesting.{Nesting}
use Rattle.css_selector_text.specs.Components.{Simple, Condition, Conditions, Part, Parts, Selectors, PseudoElement, Selector, parts_from, selectors_from}
use Rattle.css_selector_text.specs.Components.Simple.{universal, type_name, id, class, has_attribute, attribute, structure, language, state, function, named_element, nesting, namespaced}
use Rattle.css_selector_text.specs.Components.Condition.{simple, negation, any_of, where_any, tested}
use Rattle.css_selector_text.specs.Components.Conditions.{end_of_compound, with_condition}
use Rattle.css_selector_text.specs.Components.Parts.{end_of_selector, with_part}
use Rattle.css_selector_text.specs.Components.Selectors.{end_of_list, with_selector}
use Rattle.css_selectors.specs.MarkedLists.ListText.{matched}
use Rattle.css_selectors.specs.Meanings.{IsMet, MatchesAny, IsPlaced, Matches}
use Rattle.css_selectors.specs.SpelledOut.{spelled_simple, spelled_condition, spelled_compound, spelled_complex, spelled_list, spelled_part, spelled_element, spelled_by}
use Rattle.css_selectors.proofs.AlikeSelectors.{Alike, CompoundsAlike, PartsAlike, ListsAlike, AsksSame, complex_alike, either_so}
use Rattle.css_selectors.proofs.AlikeSelectors.Alike.{simples, negations, anys, wheres, tests}
use Rattle.css_selectors.proofs.AlikeSelectors.CompoundsAlike.{no_condition, one_condition}
use Rattle.css_selectors.proofs.AlikeSelectors.PartsAlike.{no_part, one_part}
use Rattle.css_selectors.proofs.AlikeSelectors.ListsAlike.{no_selector, one_selector}
use Rattle.css_selectors.proofs.NestingLaws.{spelled_complex-from}
use Rattle.css_tree.specs.Asked.{SimpleAsksBelow, AsksBelow, CompoundAsksBelow, PartsAskBelow, ListAsksBelow, SelectorAsksBelow, AskEarlier}
use Rattle.css_tree.specs.Marks.{AreMarked, IsMarkedBy, with_marks}
use Rattle.css_tree.specs.Pages.{Page, page_document, is_in_list}
use Rattle.css_tree.specs.SpelledLists.{numbered, ampersand_of, spelled_under, spelled_after, spelled_out}
use Rattle.css_tree.proofs.AmpersandLemmas.{one_any}
use Rattle.css_tree.proofs.AskedLemmas.{asks_matched, marked_matches, matches_same}
use Rattle.css_tree.proofs.PageElements.{IsElement, related_element}

-- ---- what is spelled out asks of no list

-- each of these lists asks of none
abbrev AskNothing : List Selectors → Type 0
AskNothing lists = (k : ℕ) → k < length lists → ListAsksBelow 1 (get_or lists k end_of_list)

module _ (lists : List Selectors) (silent : AskNothing lists) where
  number_silent : (list : Nesting) (number : ℕ) → list.number ≡ number
      → number < suc (length lists) → AsksBelow 1 (numbered lists list number)
  number_silent list zero is lt = omega (arith, is)
  number_silent list (suc k) is lt = silent k (omega arith)

  simple_silent : (s : Simple) → SimpleAsksBelow (suc (length lists)) s
      → AsksBelow 1 (spelled_simple (ampersand_of lists) s)
  simple_silent universal asks = tt
  simple_silent (type_name name) asks = tt
  simple_silent (id text) asks = tt
  simple_silent (class word) asks = tt
  simple_silent (has_attribute name) asks = tt
  simple_silent (attribute name c text ignores) asks = tt
  simple_silent (structure s) asks = tt
  simple_silent (language ranges) asks = tt
  simple_silent (state name) asks = tt
  simple_silent (function name argument) asks = tt
  simple_silent (named_element name argument) asks = tt
  simple_silent (nesting list) asks = number_silent list list.number refl asks
  simple_silent (namespaced namespace local) asks = tt

  mutual
    condition_silent : (c : Condition) → AsksBelow (suc (length lists)) c
        → AsksBelow 1 (spelled_condition (ampersand_of lists) c)
    condition_silent (simple s) asks = simple_silent s asks
    condition_silent (negation ss) asks = list_silent ss asks
    condition_silent (any_of ss) asks = list_silent ss asks
    condition_silent (where_any ss) asks = list_silent ss asks
    condition_silent (tested test ss) asks = list_silent ss asks

    compound_silent : (cs : Conditions) → CompoundAsksBelow (suc (length lists)) cs
        → CompoundAsksBelow 1 (spelled_compound (ampersand_of lists) cs)
    compound_silent end_of_compound asks = tt
    compound_silent (with_condition c cs) asks =
        (condition_silent c asks.0, compound_silent cs asks.1)

    complex_silent : (ps : Parts) → PartsAskBelow (suc (length lists)) ps
        → PartsAskBelow 1 (spelled_complex (ampersand_of lists) ps)
    complex_silent end_of_selector asks = tt
    complex_silent (with_part k c ps) asks = (compound_silent c asks.0, complex_silent ps asks.1)

    list_silent : (ss : Selectors) → ListAsksBelow (suc (length lists)) ss
        → ListAsksBelow 1 (spelled_list (ampersand_of lists) ss)
    list_silent end_of_list asks = tt
    list_silent (with_selector ps ss) asks = (complex_silent ps asks.0, list_silent ss asks.1)

  selector_silent : (s : Selector) → SelectorAsksBelow (suc (length lists)) s
      → SelectorAsksBelow 1 (spelled_by (ampersand_of lists) s)
  selector_silent s asks =
      subst (PartsAskBelow 1) (spelled_complex-from (ampersand_of lists) s.parts)
      (complex_silent (parts_from s.parts) asks)

  under_silent : (selectors : List Selector)
      → All (SelectorAsksBelow (suc (length lists))) selectors
      → ListAsksBelow 1 (spelled_under lists selectors)
  under_silent [] all = tt
  under_silent (s ∷ selectors) all =
      let P = SelectorAsksBelow (suc (length lists)) in (
        selector_silent s (All-head P s selectors all),
        under_silent selectors (All-tail P s selectors all),
      )

-- ---- what is spelled out matches the same

-- each of these lists matches the elements of the page that are in the list of its number
abbrev Answer : Page → List Selectors → Type 0
Answer page lists =
    (k : ℕ) → k < length lists → (n : Page × ℕ) → IsElement page n
    → IsTrue (page_document.is_in_list n (suc k))
    ↔ MatchesAny page_document (get_or lists k end_of_list) n

module _ (page : Page) (lists : List Selectors) (answers : Answer page lists) where
  number_same : (list : Nesting) (number : ℕ) → list.number ≡ number
      → number < suc (length lists) → (n : Page × ℕ) → IsElement page n
      → IsTrue (page_document.is_in_list n number)
      ↔ IsMet page_document (numbered lists list number) n
  number_same list zero is lt n at = (
    subst (λ k. IsTrue (page_document.is_in_list n k)) (sym is),
    subst (λ k. IsTrue (page_document.is_in_list n k)) is,
  )
  number_same list (suc k) is lt n at = answers k (omega arith) n at

  simple_same : (s : Simple) → SimpleAsksBelow (suc (length lists)) s
      → AsksSame page_document (IsElement page) s (spelled_simple (ampersand_of lists) s)
  simple_same universal asks n at = (λ h. h, λ h. h)
  simple_same (type_name name) asks n at = (λ h. h, λ h. h)
  simple_same (id text) asks n at = (λ h. h, λ h. h)
  simple_same (class word) asks n at = (λ h. h, λ h. h)
  simple_same (has_attribute name) asks n at = (λ h. h, λ h. h)
  simple_same (attribute name c text ignores) asks n at = (λ h. h, λ h. h)
  simple_same (structure s) asks n at = (λ h. h, λ h. h)
  simple_same (language ranges) asks n at = (λ h. h, λ h. h)
  simple_same (state name) asks n at = (λ h. h, λ h. h)
  simple_same (function name argument) asks n at = (λ h. h, λ h. h)
  simple_same (named_element name argument) asks n at = (λ h. h, λ h. h)
  simple_same (nesting list) asks n at = number_same list list.number refl asks n at
  simple_same (namespaced namespace local) asks n at = (λ h. h, λ h. h)

  mutual
    condition_same : (c : Condition) → AsksBelow (suc (length lists)) c
        → Alike (AsksSame page_document (IsElement page)) c
        (spelled_condition (ampersand_of lists) c)
    condition_same (simple s) asks = simples (simple_same s asks)
    condition_same (negation ss) asks = negations (list_same ss asks)
    condition_same (any_of ss) asks = anys (list_same ss asks)
    condition_same (where_any ss) asks = wheres (list_same ss asks)
    condition_same (tested test ss) asks = tests (list_same ss asks)

    compound_same : (cs : Conditions) → CompoundAsksBelow (suc (length lists)) cs
        → CompoundsAlike (AsksSame page_document (IsElement page)) cs
        (spelled_compound (ampersand_of lists) cs)
    compound_same end_of_compound asks = no_condition
    compound_same (with_condition c cs) asks =
        one_condition (condition_same c asks.0) (compound_same cs asks.1)

    complex_same : (ps : Parts) → PartsAskBelow (suc (length lists)) ps
        → PartsAlike (AsksSame page_document (IsElement page)) ps
        (spelled_complex (ampersand_of lists) ps)
    complex_same end_of_selector asks = no_part
    complex_same (with_part k c ps) asks =
        one_part (compound_same c asks.0) (complex_same ps asks.1)

    list_same : (ss : Selectors) → ListAsksBelow (suc (length lists)) ss
        → ListsAlike (AsksSame page_document (IsElement page)) ss
        (spelled_list (ampersand_of lists) ss)
    list_same end_of_list asks = no_selector
    list_same (with_selector ps ss) asks =
        one_selector (complex_same ps asks.0) (list_same ss asks.1)

  parts_same : (ps : List Part) → PartsAskBelow (suc (length lists)) (parts_from ps)
      → (n : Page × ℕ) → IsElement page n
      → IsPlaced page_document (parts_from ps) n
      ↔ IsPlaced page_document (parts_from (map (spelled_part (ampersand_of lists)) ps)) n
  parts_same ps asks n at =
      subst (λ qs. IsPlaced page_document (parts_from ps) n ↔ IsPlaced page_document qs n)
      (spelled_complex-from (ampersand_of lists) ps)
      (complex_alike page_document (IsElement page) (related_element page) (parts_from ps)
      (spelled_complex (ampersand_of lists) (parts_from ps)) (complex_same (parts_from ps) asks) n
      at)

  under_same : (selectors : List Selector)
      → All (SelectorAsksBelow (suc (length lists))) selectors → (n : Page × ℕ) → IsElement page n
      → MatchesAny page_document (selectors_from (map (λ s. s.parts) selectors)) n
      ↔ MatchesAny page_document (spelled_under lists selectors) n
  under_same [] all n at = (λ h. h, λ h. h)
  under_same (s ∷ selectors) all n at =
      let P = SelectorAsksBelow (suc (length lists)) in
      let k = parts_same s.parts (All-head P s selectors all) n at in
      let l = under_same selectors (All-tail P s selectors all) n at in
      (either_so k.0 l.0, either_so k.1 l.1)

  no_element : (e : Option PseudoElement)
      → (e ≡ None) ↔ (option_map (spelled_element (ampersand_of lists)) e ≡ None)
  no_element None = (λ h. refl, λ h. refl)
  no_element (Some e) = (λ h. absurd (cc), λ h. absurd (cc))

  selector_same : (s : Selector) → SelectorAsksBelow (suc (length lists)) s → (n : Page × ℕ)
      → IsElement page n
      → Matches page_document s n ↔ Matches page_document (spelled_by (ampersand_of lists) s) n
  selector_same s asks n at =
      let k = parts_same s.parts asks n at in
      let e = no_element s.pseudo_element in
      (λ h. (e.0 h.0, k.0 h.1), λ h. (e.1 h.0, k.1 h.1))

-- ---- lists one after another

module _ (lists : List (List Selector)) (page : Page) (are : AreMarked (map matched lists) page)
    (asks : AskEarlier lists)
    (none : (k : ℕ) → k < length lists → All (λ s. s.pseudo_element ≡ None) (get_or lists k []))
  where
    -- these are the first lists, spelled out
    record IsFront (spelled : List Selectors) : Type 0 where
      within : length spelled ≤ length lists
      silent : AskNothing spelled
      answers : Answer page spelled

    -- a list and the elements that are in the list of its number
    listed : (k : ℕ) → k < length lists → (n : Page × ℕ) → IsElement page n
        → IsTrue (page_document.is_in_list n (suc k))
        ↔ MatchesAny page_document (selectors_from (map (λ s. s.parts) (get_or lists k []))) n
    listed k lt (p, j) at =
        subst (λ q. IsTrue (page_document.is_in_list (q, j) (suc k))
        ↔ MatchesAny page_document (selectors_from (map (λ s. s.parts) (get_or lists k []))) (q, j))
        (sym at.there) here
      where
        here : IsTrue (page_document.is_in_list (page, j) (suc k))
            ↔ MatchesAny page_document (selectors_from (map (λ s. s.parts) (get_or lists k [])))
            (page, j)
        here =
            let within : k < length (map matched lists) = omega (arith, lt, length-map lists matched) in
            let inside = with_marks page are.inside in
            let marked = subst (λ l. IsTrue (is_in_list page j (suc k)) ↔ IsMarkedBy l page inside j)
            (get_or-map matched lists k [] (matched []) lt)
            (marked_matches (map matched lists) page are (asks_matched lists asks) k j within
            at.within) in
            let one = one_any (get_or lists k []) (none k lt) page j in
            (λ h. one.0 (marked.0 h), λ h. marked.1 (one.1 h))

    next_front : (spelled : List Selectors) (selectors : List Selector) → IsFront spelled
        → length spelled < length lists → selectors ≡ get_or lists (length spelled) []
        → IsFront (spelled ++ spelled_under spelled selectors ∷ [])
    next_front spelled selectors front less is = record {
      within = omega (arith, length_push spelled (spelled_under spelled selectors));
      silent = λ k lt. below_more (λ j. ListAsksBelow 1 (get_or more j end_of_list)) (length spelled)
          (λ j l. subst (ListAsksBelow 1) (sym (earlier j l)) (front.silent j l))
          (subst (ListAsksBelow 1) (sym last) (under_silent spelled front.silent selectors all))
          k (subst (λ m. k < m) (length_push spelled (spelled_under spelled selectors)) lt);
      answers = λ k lt n at. below_more
          (λ j. IsTrue (page_document.is_in_list n (suc j))
          ↔ MatchesAny page_document (get_or more j end_of_list) n) (length spelled)
          (λ j l. subst (λ x. IsTrue (page_document.is_in_list n (suc j))
          ↔ MatchesAny page_document x n) (sym (earlier j l)) (front.answers j l n at))
          (subst (λ x. IsTrue (page_document.is_in_list n (suc (length spelled)))
          ↔ MatchesAny page_document x n) (sym last) (here n at))
          k (subst (λ m. k < m) (length_push spelled (spelled_under spelled selectors)) lt);
    }
      where
        more : List Selectors
        more = spelled ++ spelled_under spelled selectors ∷ []

        all : All (SelectorAsksBelow (suc (length spelled))) selectors
        all =
            subst (All (SelectorAsksBelow (suc (length spelled)))) (sym is)
            (asks (length spelled) less)

        earlier : (j : ℕ) → j < length spelled
            → get_or more j end_of_list ≡ get_or spelled j end_of_list
        earlier j l =
            get_or_append_left spelled (spelled_under spelled selectors ∷ []) end_of_list j l

        last : get_or more (length spelled) end_of_list ≡ spelled_under spelled selectors
        last = get_or-append_seam spelled (spelled_under spelled selectors) [] end_of_list

        here : (n : Page × ℕ) → IsElement page n
            → IsTrue (page_document.is_in_list n (suc (length spelled)))
            ↔ MatchesAny page_document (spelled_under spelled selectors) n
        here n at =
            let own = subst (λ x. IsTrue (page_document.is_in_list n (suc (length spelled)))
            ↔ MatchesAny page_document (selectors_from (map (λ s. s.parts) x)) n) (sym is)
            (listed (length spelled) less n at) in
            let same = under_same page spelled front.answers selectors all n at in
            (λ h. same.0 (own.0 h), λ h. own.1 (same.1 h))

    -- all lists, spelled out
    record AreAll (spelled : List Selectors) : Type 0 where
      count : length spelled ≡ length lists
      front : IsFront spelled

    all_front : (before others : List (List Selector)) (spelled : List Selectors)
        → lists ≡ before ++ others → length spelled ≡ length before → IsFront spelled
        → AreAll (spelled_after spelled others)
    all_front before [] spelled is count front = record {
      count = count ∙ ap length (sym (append-nil before)) ∙ ap length (sym is);
      front = front;
    }
    all_front before (selectors ∷ others) spelled is count front =
        all_front (before ++ selectors ∷ []) others
        (spelled ++ spelled_under spelled selectors ∷ [])
        (is ∙ sym (append_assoc before (selectors ∷ []) others))
        (length_push spelled (spelled_under spelled selectors) ∙ ap (λ n. n + 1) count
        ∙ sym (length_push before selectors))
        (next_front spelled selectors front less here)
      where
        less : length spelled < length lists
        less =
            omega (arith, count, ap length is, length-append before (selectors ∷ others))

        here : selectors ≡ get_or lists (length spelled) []
        here =
            sym (get_or-append_seam before selectors others [])
            ∙ ap (λ l. get_or l (length before) []) (sym is)
            ∙ ap (λ k. get_or lists k []) (sym count)

    pub spelled_same : (s : Selector) (i : ℕ) → SelectorAsksBelow (suc (length lists)) s
        → i < length page.rows
        → Matches page_document s (spot page i)
        ↔ Matches page_document (spelled_out lists s) (spot (with_marks page []) i)
    spelled_same s i below within =
        let all = all_front [] lists [] refl refl nothing in
        let spelled = spelled_after [] lists in
        let asked : SelectorAsksBelow (suc (length spelled)) s =
        subst (λ m. SelectorAsksBelow (suc m) s) (sym all.count) below in
        let marked = selector_same page spelled all.front.answers s asked (spot page i)
        (record { there = refl; within = within }) in
        let unmarked = matches_same page page.marks [] 0 (λ list j lt. absurd (omega arith))
        (spelled_out lists s) i (selector_silent spelled all.front.silent s asked) in
        (λ h. unmarked.0 (marked.0 h), λ h. marked.1 (unmarked.1 h))
      where
        nothing : IsFront []
        nothing = record {
          within = omega arith;
          silent = λ k lt. absurd (omega arith);
          answers = λ k lt. absurd (omega arith);
        }
