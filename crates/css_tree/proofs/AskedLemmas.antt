-- What a selector means on an element depends only on the marks of the lists of which it asks.
-- Serves `marking_laws`.
use Rattle.std.proofs.Common.{◌≡◌, ℕ, zero, suc, ◌+◌, ◌-◌, ◌<◌, ◌↔◌, Bool, false, List, [], get_or, length, map, take, IsTrue, is_none, Option, None, Some, refl, sym, ap, subst, ◌∙◌, arith}
use Rattle.std.specs.Option.{option_map}
use Rattle.std.specs.Prelude.{All}
use Rattle.std.proofs.lemmas.List.{get_or-map, get_or-take, length-map}
use Rattle.css_matching.specs.declared.Combinator.{Combinator}
use Rattle.css_matching.specs.ListTrees.{spot}
use Rattle.css_matching.specs.Placements.{HasPlacement}
use Rattle.css_selector_text.specs.Components.{ListTest, Progression, Structure, Simple, Condition, Conditions, Parts, Selectors, Selector, parts_from}
use Rattle.css_selector_text.specs.Components.Structure.{root, scope, empty, first_child, last_child, only_child, first_of_type, last_of_type, only_of_type, nth_child as nth_child_place, nth_last_child as nth_last_child_place, nth_of_type, nth_last_of_type}
use Rattle.css_selector_text.specs.Components.ListTest.{has, nth_child, nth_last_child}
use Rattle.css_selector_text.specs.Components.Simple.{universal, type_name, id, class, has_attribute, attribute, structure, language, state, function, named_element, nesting, namespaced}
use Rattle.css_selector_text.specs.Components.Condition.{simple, negation, any_of, where_any, tested as tested_condition}
use Rattle.css_selector_text.specs.Components.Conditions.{end_of_compound, with_condition}
use Rattle.css_selector_text.specs.Components.Parts.{end_of_selector, with_part}
use Rattle.css_selector_text.specs.Components.Selectors.{end_of_list, with_selector}
use Rattle.css_selectors.specs.Documents.{shape}
use Rattle.css_selectors.specs.MarkedLists.{ListText}
use Rattle.css_selectors.specs.MarkedLists.ListText.{matched, tested}
use Rattle.css_selectors.specs.Meanings.{combinator_at, part_count, IsMet, AreMet, MeetsPart, MatchesAny, IsPlaced, Matches, is_placed}
use Rattle.css_selectors.proofs.AlikeSelectors.{either_so}
use Rattle.css_tree.specs.declared.nth_marks.End.{End}
use Rattle.css_tree.specs.declared.nth_marks.End.TheVariants.{First, Last}
use Rattle.css_tree.specs.Asked.{SimpleAsksBelow, AsksBelow, CompoundAsksBelow, PartsAskBelow, ListAsksBelow, SelectorAsksBelow, AskEarlier, MarkedAsksBelow, AskBefore}
use Rattle.css_tree.specs.Counts.{last_below}
use Rattle.css_tree.specs.HasSelectors.{HasAny}
use Rattle.css_tree.specs.Marks.{AreMarked, MatchesOne, IsNumberedMatch, IsTested, IsMarkedBy, IsMarkedInside, sibling_toward, with_marks}
use Rattle.css_tree.specs.NextSiblings.{next_index}
use Rattle.css_tree.specs.Steps.{Leads}
use Rattle.css_tree.specs.Pages.{Page, page_document, parent_index, is_sibling, is_in_list, is_marked, is_scope}
use Rattle.css_tree.proofs.CountLemmas.{numbered_moved}
use Rattle.css_tree.proofs.HasLemmas.{match_leads}
use Rattle.css_tree.proofs.PageSteps.{remarked, related_stays, related_moves}

-- ---- placements

module _ (page : Page) (m n : List (List Bool)) (c : ℕ → Combinator)
    (Meets : ℕ → Page × ℕ → Type 0)
    (asks : (k j : ℕ) → Meets k (spot (with_marks page m) j) → Meets k (spot (with_marks page n) j))
  where
    meets_moved : (k : ℕ) (a : Page × ℕ) → a.0 ≡ with_marks page m → Meets k a
        → Meets k (remarked n a)
    meets_moved k (p, j) is h =
        subst (λ q. Meets k (remarked n (q, j))) (sym is) (asks k j (subst (λ q. Meets k (q, j)) is h))

    -- a placement on the page with the one marks is one on the page with the others
    placed_moved : (last i : ℕ)
        → HasPlacement (shape page_document) c Meets last (spot (with_marks page m) i)
        → HasPlacement (shape page_document) c Meets last (spot (with_marks page n) i)
    placed_moved last i h = (
      λ k. remarked n (h.0 k),
      record {
        meets = λ k le. meets_moved k (h.0 k) (within (last - k) k (omega arith)) (h.1.meets k le);
        relates = λ k lt. related_moves n (c (k + 1)) (h.0 k) (h.0 (k + 1)) (h.1.relates k lt);
        ends = ap (remarked n) h.1.ends;
      },
    )
      where
        within : (left k : ℕ) → k + left ≡ last → (h.0 k).0 ≡ with_marks page m
        within zero k is =
            let at : k ≡ last = omega arith in
            ap (λ j. (h.0 j).0) at ∙ ap (λ a. a.0) h.1.ends
        within (suc left) k is =
            related_stays (c (k + 1)) (h.0 k) (h.0 (k + 1)) (h.1.relates k (omega arith))
            ∙ within left (k + 1) (omega arith)

-- ---- meanings

none_same : (p q : Page) (r : Option ℕ)
    → is_none (option_map (spot p) r) ≡ is_none (option_map (spot q) r)
none_same p q None = refl
none_same p q (Some j) = refl

module _ (page : Page) (m n : List (List Bool)) (limit : ℕ)
    (same : (list i : ℕ) → list < limit → is_marked m list i ≡ is_marked n list i) where
  scope_same : (i : ℕ) (s : Option ℕ)
      → is_scope (with_marks page m) i s ≡ is_scope (with_marks page n) i s
  scope_same i None = refl
  scope_same i (Some s) = refl

  asked_same : (number i : ℕ) → number < suc limit
      → is_in_list (with_marks page m) i number ≡ is_in_list (with_marks page n) i number
  asked_same zero i lt = scope_same i page.given.scope
  asked_same (suc list) i lt = same list i (omega arith)

  pub structure_same : (s : Structure) (i : ℕ)
      → is_placed page_document (spot (with_marks page m) i) s
      ≡ is_placed page_document (spot (with_marks page n) i) s
  structure_same root i = none_same (with_marks page m) (with_marks page n) (parent_index page.rows i)
  structure_same scope i = scope_same i page.given.scope
  structure_same empty i = refl
  structure_same first_child i = refl
  structure_same last_child i = refl
  structure_same only_child i = refl
  structure_same first_of_type i = refl
  structure_same last_of_type i = refl
  structure_same only_of_type i = refl
  structure_same (nth_child_place p) i = refl
  structure_same (nth_last_child_place p) i = refl
  structure_same (nth_of_type p) i = refl
  structure_same (nth_last_of_type p) i = refl

  same_true : (a b : Bool) → a ≡ b → IsTrue a ↔ IsTrue b
  same_true a b is = (subst IsTrue is, subst IsTrue (sym is))

  simple_same : (s : Simple) (i : ℕ) → SimpleAsksBelow (suc limit) s
      → IsMet page_document (simple s) (spot (with_marks page m) i)
      ↔ IsMet page_document (simple s) (spot (with_marks page n) i)
  simple_same universal i asks = (λ h. h, λ h. h)
  simple_same (type_name name) i asks = (λ h. h, λ h. h)
  simple_same (id text) i asks = (λ h. h, λ h. h)
  simple_same (class word) i asks = (λ h. h, λ h. h)
  simple_same (has_attribute name) i asks = (λ h. h, λ h. h)
  simple_same (attribute name c text ignores) i asks = (λ h. h, λ h. h)
  simple_same (structure s) i asks = same_true _ _ (structure_same s i)
  simple_same (language ranges) i asks = (λ h. h, λ h. h)
  simple_same (state name) i asks = (λ h. h, λ h. h)
  simple_same (function name argument) i asks = (λ h. h, λ h. h)
  simple_same (named_element name argument) i asks = (λ h. h, λ h. h)
  simple_same (nesting list) i asks = same_true _ _ (asked_same list.number i asks)
  simple_same (namespaced namespace local) i asks = (λ h. h, λ h. h)

  placed_both : (ps : Parts) (i : ℕ)
      → ((k j : ℕ) → MeetsPart page_document ps k (spot (with_marks page m) j)
      ↔ MeetsPart page_document ps k (spot (with_marks page n) j))
      → IsPlaced page_document ps (spot (with_marks page m) i)
      ↔ IsPlaced page_document ps (spot (with_marks page n) i)
  placed_both ps i meets = (
    placed_moved page m n (combinator_at ps) (MeetsPart page_document ps) (λ k j. (meets k j).0)
        (part_count ps - 1) i,
    placed_moved page n m (combinator_at ps) (MeetsPart page_document ps) (λ k j. (meets k j).1)
        (part_count ps - 1) i,
  )

  mutual
    condition_same : (c : Condition) (i : ℕ) → AsksBelow (suc limit) c
        → IsMet page_document c (spot (with_marks page m) i)
        ↔ IsMet page_document c (spot (with_marks page n) i)
    condition_same (simple s) i asks = simple_same s i asks
    condition_same (negation ss) i asks =
        let k = list_same ss i asks in (λ f h. f (k.1 h), λ f h. f (k.0 h))
    condition_same (any_of ss) i asks = list_same ss i asks
    condition_same (where_any ss) i asks = list_same ss i asks
    condition_same (tested_condition test ss) i asks = (λ h. h, λ h. h)

    compound_same : (cs : Conditions) (i : ℕ) → CompoundAsksBelow (suc limit) cs
        → AreMet page_document cs (spot (with_marks page m) i)
        ↔ AreMet page_document cs (spot (with_marks page n) i)
    compound_same end_of_compound i asks = (λ h. h, λ h. h)
    compound_same (with_condition c cs) i asks =
        let k = condition_same c i asks.0 in
        let l = compound_same cs i asks.1 in
        (λ h. (k.0 h.0, l.0 h.1), λ h. (k.1 h.0, l.1 h.1))

    part_same : (ps : Parts) (k i : ℕ) → PartsAskBelow (suc limit) ps
        → MeetsPart page_document ps k (spot (with_marks page m) i)
        ↔ MeetsPart page_document ps k (spot (with_marks page n) i)
    part_same end_of_selector k i asks = (λ h. h, λ h. h)
    part_same (with_part c cs ps) zero i asks = compound_same cs i asks.0
    part_same (with_part c cs ps) (suc k) i asks = part_same ps k i asks.1

    list_same : (ss : Selectors) (i : ℕ) → ListAsksBelow (suc limit) ss
        → MatchesAny page_document ss (spot (with_marks page m) i)
        ↔ MatchesAny page_document ss (spot (with_marks page n) i)
    list_same end_of_list i asks = (λ h. h, λ h. h)
    list_same (with_selector ps ss) i asks =
        let k = placed_both ps i (λ part j. part_same ps part j asks.0) in
        let l = list_same ss i asks.1 in (either_so k.0 l.0, either_so k.1 l.1)

  -- the same lists of marks, where they are asked, make the same matches
  pub matches_same : (s : Selector) (i : ℕ) → SelectorAsksBelow (suc limit) s
      → Matches page_document s (spot (with_marks page m) i)
      ↔ Matches page_document s (spot (with_marks page n) i)
  matches_same s i asks =
      let ps = parts_from s.parts in
      let k = placed_both ps i (λ part j. part_same ps part j asks) in
      (λ h. (h.0, k.0 h.1), λ h. (h.0, k.1 h.1))

  one_same : (list : List Selector) (i : ℕ) → All (SelectorAsksBelow (suc limit)) list
      → MatchesOne list (with_marks page m) i ↔ MatchesOne list (with_marks page n) i
  one_same list i asks = (
    λ h. (h.0, h.1, h.2, h.3, (matches_same h.1 i (asked h.0 h.1 h.2 h.3)).0 h.4),
    λ h. (h.0, h.1, h.2, h.3, (matches_same h.1 i (asked h.0 h.1 h.2 h.3)).1 h.4),
  )
    where
      asked : (k : ℕ) (s : Selector) → k < length list → get_or list k s ≡ s
          → SelectorAsksBelow (suc limit) s
      asked k s lt is = subst (SelectorAsksBelow (suc limit)) is (asks k s lt)

  -- ---- lists of pseudo-classes

  leads_same : (ps : Parts) (i : ℕ) → PartsAskBelow (suc limit) ps
      → Leads (with_marks page m) ps i ↔ Leads (with_marks page n) ps i
  leads_same end_of_selector i asks = (λ h. h, λ h. h)
  leads_same (with_part c cs ps) i asks = (
    λ h. (
      h.0,
      h.1,
      related_moves n c (spot (with_marks page m) i) (spot (with_marks page m) h.0) h.2,
      ((compound_same cs h.0 asks.0).0 h.3.0, (leads_same ps h.0 asks.1).0 h.3.1),
    ),
    λ h. (
      h.0,
      h.1,
      related_moves m c (spot (with_marks page n) i) (spot (with_marks page n) h.0) h.2,
      ((compound_same cs h.0 asks.0).1 h.3.0, (leads_same ps h.0 asks.1).1 h.3.1),
    ),
  )

  has_same : (ss : Selectors) (i : ℕ) → i < length page.rows → ListAsksBelow (suc limit) ss
      → HasAny (with_marks page m) ss i ↔ HasAny (with_marks page n) ss i
  has_same end_of_list i within asks = (λ h. h, λ h. h)
  has_same (with_selector ps ss) i within asks =
      let k = match_leads (with_marks page m) ps i within in
      let l = match_leads (with_marks page n) ps i within in
      let leads = leads_same ps i asks.0 in
      let more = has_same ss i within asks.1 in (
        either_so (λ h. (let j = k.0 h in l.1 (j.0, leads.0 j.1))) more.0,
        either_so (λ h. (let j = l.0 h in k.1 (j.0, leads.1 j.1))) more.1,
      )

  -- the number among siblings, which are the same
  nth_same : (end : End) (of : ℕ → Option ℕ)
      → ((j : ℕ) → sibling_toward end (spot (with_marks page m) j)
      ≡ option_map (spot (with_marks page m)) (of j))
      → ((j : ℕ) → sibling_toward end (spot (with_marks page n) j)
      ≡ option_map (spot (with_marks page n)) (of j))
      → (p : Progression) (ss : Selectors) (i : ℕ) → ListAsksBelow (suc limit) ss
      → IsNumberedMatch end p ss (with_marks page m) i
      ↔ IsNumberedMatch end p ss (with_marks page n) i
  nth_same end of on_m on_n p ss i asks =
      let k = list_same ss i asks in (
        λ h. (
          k.0 h.0,
          numbered_moved (with_marks page m) (with_marks page n) (sibling_toward end) of
              on_m on_n (MatchesAny page_document ss) (λ j. list_same ss j asks) p i h.1,
        ),
        λ h. (
          k.1 h.0,
          numbered_moved (with_marks page n) (with_marks page m) (sibling_toward end) of
              on_n on_m (MatchesAny page_document ss)
              (λ j. (let l = list_same ss j asks in (l.1, l.0))) p i h.1,
        ),
      )

-- the same marks inside `:has()`, too
module _ (page : Page) (m n k l : List (List Bool)) (limit : ℕ)
    (same : (list i : ℕ) → list < limit → is_marked m list i ≡ is_marked n list i)
    (same_inside : (list i : ℕ) → list < limit → is_marked k list i ≡ is_marked l list i) where
  tested_same : (test : ListTest) (ss : Selectors) (i : ℕ) → i < length page.rows
      → ListAsksBelow (suc limit) ss
      → IsTested test ss (with_marks page m) (with_marks page k) i
      ↔ IsTested test ss (with_marks page n) (with_marks page l) i
  tested_same has ss i within asks = has_same page k l limit same_inside ss i within asks
  tested_same (nth_child p) ss i within asks =
      nth_same page m n limit same First (λ j. last_below (is_sibling page.rows j) j) (λ j. refl)
      (λ j. refl) p ss i asks
  tested_same (nth_last_child p) ss i within asks =
      nth_same page m n limit same Last (next_index page.rows) (λ j. refl) (λ j. refl) p ss i asks

  marked_same : (list : ListText) (i : ℕ) → i < length page.rows → MarkedAsksBelow (suc limit) list
      → IsMarkedBy list (with_marks page m) (with_marks page k) i
      ↔ IsMarkedBy list (with_marks page n) (with_marks page l) i
  marked_same (matched selectors) i within asks = one_same page m n limit same selectors i asks
  marked_same (tested test ss) i within asks = tested_same test ss i within asks

-- ---- marked pages

-- the first marks are those of all
taken : (list : ℕ) (marks : List (List Bool)) (l j : ℕ) → l < list
    → is_marked (take list marks) l j ≡ is_marked marks l j
taken list marks l j less = ap (λ answers. get_or answers j false) (get_or-take list marks l [] less)

pub marked_matches : (lists : List ListText) (page : Page) → (are : AreMarked lists page)
    → AskBefore lists → (list i : ℕ) → list < length lists → i < length page.rows
    → IsTrue (is_in_list page i (suc list))
    ↔ IsMarkedBy (get_or lists list (matched [])) page (with_marks page are.inside) i
marked_matches lists page are asks list i lt within =
    let answered = are.own.each list i lt within in
    let k = marked_same page (take list page.marks) page.marks (take list are.inside) are.inside list
    (taken list page.marks) (taken list are.inside)
    (get_or lists list (matched [])) i within (asks list lt) in
    (λ h. k.0 (answered.0 h), λ h. answered.1 (k.1 h))

pub inside_matches : (lists : List ListText) (page : Page) → (are : AreMarked lists page)
    → AskBefore lists → (list i : ℕ) → list < length lists → i < length page.rows
    → IsTrue (is_in_list (with_marks page are.inside) i (suc list))
    ↔ IsMarkedInside (get_or lists list (matched [])) (with_marks page are.inside) i
inside_matches lists page are asks list i lt within =
    let answered = are.within.each list i lt within in
    let k = marked_same page (take list are.inside) are.inside (take list are.inside) are.inside list
    (taken list are.inside) (taken list are.inside)
    (get_or lists list (matched [])) i within (asks list lt) in
    (λ h. (let a = answered.0 h in (a.0, k.0 a.1)), λ h. answered.1 (h.0, k.1 h.1))

-- lists of selectors that ask of those before them
pub asks_matched : (lists : List (List Selector)) → AskEarlier lists → AskBefore (map matched lists)
asks_matched lists asks list lt =
    let less : list < length lists = omega (arith, lt, length-map lists matched) in
    subst (MarkedAsksBelow (suc list)) (sym (get_or-map matched lists list [] (matched []) less)) (asks list less)
