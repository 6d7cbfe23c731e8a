-- On a marked page `&` is `:is()` of its list.
-- Serves `marking_laws`.
use Rattle.std.proofs.Common.{◌≡◌, ℕ, zero, suc, ◌<◌, ◌↔◌, inl, inr, List, [], ◌∷◌, get_or, length, map, IsTrue, None, refl, sym, subst, arith}
use Rattle.std.specs.Prelude.{All}
use Rattle.css_matching.specs.ListTrees.{spot}
use Rattle.css_selector_text.specs.declared.components.Nesting.{Nesting}
use Rattle.css_selector_text.specs.Components.{ListTest, Selector, Selectors, parts_from, selectors_from}
use Rattle.css_selector_text.specs.Components.Condition.{simple}
use Rattle.css_selector_text.specs.Components.Simple.{nesting}
use Rattle.css_selectors.specs.MarkedLists.{ListText}
use Rattle.css_selectors.specs.MarkedLists.ListText.{matched, tested}
use Rattle.css_selectors.specs.Meanings.{IsMet, MatchesAny, IsPlaced, Matches}
use Rattle.css_selector_text.specs.reading.Nested.{selector_under}
use Rattle.css_selectors.specs.SpelledOut.{spelled_selector}
use Rattle.css_tree.specs.Asked.{AskBefore}
use Rattle.css_tree.specs.Marks.{AreMarked, IsMarkedBy, IsMarkedInside, IsTested, MatchesOne, with_marks}
use Rattle.css_tree.specs.Pages.{Page, page_document, is_in_list}
use Rattle.css_selectors.proofs.NestingLaws.{matches_same}
use Rattle.css_tree.proofs.AskedLemmas.{inside_matches, marked_matches}
use Rattle.css_tree.proofs.PageElements.{IsElement, related_element}

-- selectors of elements: one of them matches exactly if `:is()` of their parts does
pub one_any : (list : List Selector) → All (λ s. s.pseudo_element ≡ None) list
    → (page : Page) (i : ℕ) → MatchesOne list page i
    ↔ MatchesAny page_document (selectors_from (map (λ s. s.parts) list)) (spot page i)
one_any [] none page i = (λ h. absurd (omega (arith, h.2)), λ h. absurd h)
one_any (s ∷ list) none page i =
    let rest = one_any list (λ k d lt. none (suc k) d (omega arith)) page i in
    (first rest.0, second rest.1)
  where
    first : (MatchesOne list page i
        → MatchesAny page_document (selectors_from (map (λ s. s.parts) list)) (spot page i))
        → MatchesOne (s ∷ list) page i
        → MatchesAny page_document (selectors_from (map (λ s. s.parts) (s ∷ list))) (spot page i)
    first more (zero, x, lt, is, h) =
        inl (subst (λ y. IsPlaced page_document (parts_from y.parts) (spot page i)) (sym is) h.1)
    first more (suc k, x, lt, is, h) = inr (more (k, x, omega arith, is, h))

    second : (MatchesAny page_document (selectors_from (map (λ s. s.parts) list)) (spot page i)
        → MatchesOne list page i)
        → MatchesAny page_document (selectors_from (map (λ s. s.parts) (s ∷ list))) (spot page i)
        → MatchesOne (s ∷ list) page i
    second more (inl h) = (zero, s, omega arith, refl, (none zero s (omega arith), h))
    second more (inr h) =
        let one = more h in (suc one.0, one.1, (let lt = one.2 in omega arith), one.3, one.4)

-- where the list of a number has the elements that one of the selectors matches
ampersand_is : (page : Page) (list : Nesting) (k : ℕ) → list.number ≡ suc k
    → (selectors : List Selector)
    → ((j : ℕ) → j < length page.rows
    → IsTrue (is_in_list page j (suc k)) ↔ MatchesOne selectors page j)
    → All (λ s. s.pseudo_element ≡ None) selectors → (s : Selector) (i : ℕ)
    → i < length page.rows
    → Matches page_document (selector_under list s) (spot page i)
    ↔ Matches page_document
    (spelled_selector (selectors_from (map (λ l. l.parts) selectors)) s) (spot page i)
ampersand_is page list k number selectors marked none s i within =
    matches_same list (selectors_from (map (λ l. l.parts) selectors)) page_document
    (IsElement page) answers (related_element page) s (spot page i)
    (record { there = refl; within = within })
  where
    any : (n : Page × ℕ) → Type 0
    any n = MatchesAny page_document (selectors_from (map (λ l. l.parts) selectors)) n

    here : (j : ℕ) → j < length page.rows
        → IsTrue (is_in_list page j list.number) ↔ any (spot page j)
    here j less =
        let any_one = one_any selectors none page j in
        let m = subst (λ number. IsTrue (is_in_list page j number)
        ↔ MatchesOne selectors page j) (sym number) (marked j less) in
        (λ h. any_one.0 (m.0 h), λ h. m.1 (any_one.1 h))

    answers : (n : Page × ℕ) → IsElement page n
        → IsTrue (page_document.is_in_list n list.number) ↔ any n
    answers (p, j) is =
        subst (λ p. IsTrue (is_in_list p j list.number) ↔ any (spot p j)) (sym is.there)
        (here j is.within)

module _ (lists : List ListText) (page : Page) (are : AreMarked lists page) (asks : AskBefore lists)
    (list : Nesting) (k : ℕ) (number : list.number ≡ suc k) (lt : k < length lists)
    (selectors : List Selector) (is_list : get_or lists k (matched []) ≡ matched selectors)
    (none : All (λ s. s.pseudo_element ≡ None) selectors) (s : Selector) (i : ℕ)
    (within : i < length page.rows) where
  abbrev spelled : Selector
  spelled = spelled_selector (selectors_from (map (λ l. l.parts) selectors)) s

  abbrev inner : Page
  inner = with_marks page are.inside

  pub ampersand_outside : Matches page_document (selector_under list s) (spot page i)
      ↔ Matches page_document spelled (spot page i)
  ampersand_outside =
      ampersand_is page list k number selectors
      (λ j less. subst (λ l. IsTrue (is_in_list page j (suc k)) ↔ IsMarkedBy l page inner j) is_list
      (marked_matches lists page are asks k j lt less)) none s i within

  pub ampersand_inside : Matches page_document (selector_under list s) (spot inner i)
      ↔ Matches page_document spelled (spot inner i)
  ampersand_inside =
      ampersand_is inner list k number selectors
      (λ j less. (let m = subst (λ l. IsTrue (is_in_list inner j (suc k)) ↔ IsMarkedInside l inner j) is_list
      (inside_matches lists page are asks k j lt less) in
      (λ h. (m.0 h).1, λ h. m.1 (refl, h)))) none s i within

-- a number in the place of a pseudo-class with a list
pub tested_is : (lists : List ListText) (page : Page) → (are : AreMarked lists page)
    → AskBefore lists → (list : Nesting) (k : ℕ) → list.number ≡ suc k → k < length lists
    → (test : ListTest) (selectors : Selectors) → get_or lists k (matched []) ≡ tested test selectors
    → (i : ℕ) → i < length page.rows
    → IsMet page_document (simple (nesting list)) (spot page i)
    ↔ IsTested test selectors page (with_marks page are.inside) i
tested_is lists page are asks list k number lt test selectors is_list i within =
    let inside = with_marks page are.inside in
    subst (λ n. IsTrue (is_in_list page i n) ↔ IsTested test selectors page inside i) (sym number)
    (subst (λ l. IsTrue (is_in_list page i (suc k)) ↔ IsMarkedBy l page inside i) is_list
    (marked_matches lists page are asks k i lt within))
