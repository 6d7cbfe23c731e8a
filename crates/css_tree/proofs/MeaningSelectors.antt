-- On a page whose lists are marked, and inside `:has()` with other marks, a selector with numbers matches what it
-- means as it was read, where `&` agrees.
-- Serves `meaning_law`.
use Rattle.std.proofs.Common.{◌≡◌, ℕ, zero, suc, ◌+◌, ◌-◌, ◌<◌, ◌≤◌, ◌↔◌, Bool, true, false, List, [], ◌∷◌, ◌++◌, get_or, length, Option, None, Some, IfSome, IsTrue, refl, sym, ap, subst, arith}
use Rattle.std.specs.Prelude.{if◌then◌else◌}
use Rattle.std.specs.Option.{option_map}
use Rattle.std.proofs.lemmas.List.{length-append}
use Rattle.css_matching.specs.declared.Combinator.{Combinator}
use Rattle.css_matching.specs.ListTrees.{spot}
use Rattle.css_matching.specs.Placements.{HasPlacement}
use Rattle.css_selector_text.specs.Components.{ListTest, Progression, Condition, Conditions, Parts, Selectors, Part, Structure, parts_from}
use Rattle.css_selector_text.specs.Components.ListTest.{has, nth_child, nth_last_child}
use Rattle.css_selector_text.specs.Components.Simple.{universal, type_name, id, class, has_attribute, attribute, structure, language, state, function, named_element, nesting, namespaced}
use Rattle.css_selector_text.specs.Components.Condition.{simple, negation, any_of, where_any, tested}
use Rattle.css_selector_text.specs.Components.Conditions.{end_of_compound, with_condition}
use Rattle.css_selector_text.specs.Components.Parts.{end_of_selector, with_part}
use Rattle.css_selector_text.specs.Components.Selectors.{end_of_list, with_selector}
use Rattle.css_selectors.specs.Documents.{shape}
use Rattle.css_selectors.specs.MarkedLists.{ListText}
use Rattle.css_selectors.specs.MarkedLists.ListText.{matched, tested as tested_list}
use Rattle.css_selectors.specs.Meanings.{combinator_at, part_count, is_placed, IsMet, AreMet, MeetsPart, MatchesAny, IsPlaced}
use Rattle.css_selectors.specs.Numberings.{number_of, numbered_condition, numbered_compound, numbered_complex, numbered_list, numbered_parts}
use Rattle.css_selectors.proofs.AlikeSelectors.{either_so}
use Rattle.css_tree.specs.Asked.{AsksBelow, CompoundAsksBelow, PartsAskBelow, ListAsksBelow}
use Rattle.css_tree.specs.Counts.{last_below}
use Rattle.css_tree.specs.HasSelectors.{combinator_after, MeetsAfter, HasMatch, HasAny}
use Rattle.css_tree.specs.Marks.{IsMarkedBy, IsMarkedInside, with_marks}
use Rattle.css_tree.specs.Means.{Side, Denotation, TestMeans, EndsAfter, Means, AllMean, PartMeans, AnyMeans, HasMeans, ComplexMeans}
use Rattle.css_tree.specs.Means.Side.{outside, inside}
use Rattle.css_tree.specs.NextSiblings.{first_from, next_index, next_sibling}
use Rattle.css_tree.specs.PageNodes.{IsOfPage}
use Rattle.css_tree.specs.Pages.{Page, page_document, is_in_list, is_sibling}
use Rattle.css_tree.specs.SiblingCounts.{IsNumberedAmong}
use Rattle.css_tree.proofs.AskedLemmas.{structure_same}
use Rattle.css_tree.proofs.Counting.{last_below-earlier}
use Rattle.css_tree.proofs.MeaningPlaces.{placed_turned, numbered_turned}
use Rattle.css_tree.proofs.MeaningShrinks.{complex-from, compound_shrinks, complex_shrinks, list_shrinks}

-- ---- siblings are elements

less_some : (m n : ℕ) → m ≤ n → (r : Option ℕ) → IfSome r (λ j. j < m) → IfSome r (λ j. j < n)
less_some m n e None h = tt
less_some m n e (Some j) h = omega (arith, h, e)

within_by : (test : ℕ → Bool) (i count : ℕ) (b : Bool)
    → IfSome (first_from test (suc i) count) (λ j. j < suc i + count)
    → IfSome (if b then Some i else first_from test (suc i) count) (λ j. j < i + suc count)
within_by test i count true h = omega arith
within_by test i count false h =
    less_some (suc i + count) (i + suc count) (omega arith) (first_from test (suc i) count) h

first_within : (test : ℕ → Bool) (i count : ℕ) → IfSome (first_from test i count) (λ j. j < i + count)
first_within test i zero = tt
first_within test i (suc count) = within_by test i count (test i) (first_within test (suc i) count)

-- ---- lists one after another

get_before : (xs : List ListText) (x e : ListText) (k : ℕ) → k < length xs
    → get_or (xs ++ (x ∷ [])) k e ≡ get_or xs k e
get_before [] x e k lt = absurd (omega (arith, lt))
get_before (y ∷ xs) x e zero lt = refl
get_before (y ∷ xs) x e (suc k) lt = get_before xs x e k (omega (arith, lt))

get_last : (xs : List ListText) (x e : ListText) → get_or (xs ++ (x ∷ [])) (length xs) e ≡ x
get_last [] x e = refl
get_last (y ∷ xs) x e = get_last xs x e

-- ---- the shape of what is numbered

module _ (numbers : List ℕ) where
  joined : (lists : List ListText) (ps : Parts) (i : ℕ)
      → combinator_at (numbered_complex numbers lists ps).0 i ≡ combinator_at ps i
  joined lists end_of_selector i = refl
  joined lists (with_part k cs ps) zero = refl
  joined lists (with_part k cs ps) (suc i) = joined (numbered_compound numbers lists cs).1 ps i

  joined_after : (lists : List ListText) (ps : Parts) (i : ℕ)
      → combinator_after (numbered_complex numbers lists ps).0 i ≡ combinator_after ps i
  joined_after lists ps zero = refl
  joined_after lists ps (suc i) = joined lists ps i

  counted : (lists : List ListText) (ps : Parts) → part_count (numbered_complex numbers lists ps).0 ≡ part_count ps
  counted lists end_of_selector = refl
  counted lists (with_part k cs ps) = ap (λ n. n + 1) (counted (numbered_compound numbers lists cs).1 ps)

-- ---- pages

module _ (page : Page) (inner : List (List Bool)) where
  abbrev pub marks : Side → List (List Bool)
  marks outside = page.marks
  marks inside = inner

  -- the page as it is asked on either side
  abbrev pub at : Side → Page
  at side = with_marks page (marks side)

  -- the element is one of those for which the list has a number
  abbrev pub IsListed : Side → ListText → ℕ → Type 0
  IsListed outside list i = IsMarkedBy list (at outside) (at inside) i
  IsListed inside list i = IsMarkedInside list (at inside) i

  -- each list has the number after its index, and its elements are marked with it
  abbrev pub AreListed : List ListText → Type 0
  AreListed lists =
      (side : Side) (list i : ℕ) → list < length lists → i < length page.rows
      → IsTrue (is_in_list (at side) i (suc list)) ↔ IsListed side (get_or lists list (matched [])) i

  pub listed_before : (lists : List ListText) (l : ListText) → AreListed (lists ++ (l ∷ [])) → AreListed lists
  listed_before lists l so side k i lt within =
      subst (λ x. IsTrue (is_in_list (at side) i (suc k)) ↔ IsListed side x i) (get_before lists l (matched []) k lt)
      (so side k i (omega (arith, lt, length-append lists (l ∷ []))) within)

  pub listed_last : (lists : List ListText) (l : ListText) → AreListed (lists ++ (l ∷ [])) → (side : Side) (i : ℕ)
      → i < length page.rows → IsTrue (is_in_list (at side) i (length lists + 1)) ↔ IsListed side l i
  listed_last lists l so side i within =
      let next : length lists + 1 ≡ suc (length lists) = omega arith in
      subst (λ k. IsTrue (is_in_list (at side) i k) ↔ IsListed side l i) (sym next)
      (subst (λ x. IsTrue (is_in_list (at side) i (suc (length lists))) ↔ IsListed side x i)
      (get_last lists l (matched []))
      (so side (length lists) i (omega (arith, length-append lists (l ∷ []))) within))

  -- marks do not change where an element stands
  pub structure_at : (side : Side) (s : Structure) (i : ℕ)
      → is_placed page_document (spot (at side) i) s ≡ is_placed page_document (spot page i) s
  structure_at side s i =
      structure_same page (marks side) page.marks 0 (λ list j lt. absurd (omega (arith, lt))) s i

  previous_within : (j : ℕ) → j < length page.rows
      → IfSome (last_below (is_sibling page.rows j) j) (λ k. k < length page.rows)
  previous_within j lt =
      less_some j (length page.rows) (omega (arith, lt)) (last_below (is_sibling page.rows j) j)
      (last_below-earlier (is_sibling page.rows j) j)

  next_within : (j : ℕ) → j < length page.rows → IfSome (next_index page.rows j) (λ k. k < length page.rows)
  next_within j lt =
      less_some (suc j + (length page.rows - suc j)) (length page.rows) (omega (arith, lt)) (next_index page.rows j)
      (first_within (is_sibling page.rows j) (suc j) (length page.rows - suc j))

  -- parts joined alike, of which each asks the same of elements on one side and of the page
  module _ (side : Side) (c e : ℕ → Combinator) (alike : (k : ℕ) → c k ≡ e k) (M N : ℕ → Page × ℕ → Type 0)
      (same : (k j : ℕ) → j < length page.rows → M k (spot (at side) j) ↔ N k (spot page j)) where
    placed_both : (last i : ℕ) → i < length page.rows
        → HasPlacement (shape page_document) c M last (spot (at side) i)
        ↔ HasPlacement (shape page_document) e N last (spot page i)
    placed_both last i lt = (
      placed_turned page (marks side) page.marks c e alike M N (λ k j less. (same k j less).0) last i lt,
      placed_turned page page.marks (marks side) e c (λ k. sym (alike k)) N M (λ k j less. (same k j less).1) last i lt,
    )

  -- the same of kinds of elements, and of their numbers
  module _ (side : Side) (P Q : Page × ℕ → Type 0)
      (same : (j : ℕ) → j < length page.rows → P (spot (at side) j) ↔ Q (spot page j)) where
    numbered_both : (next : Page × ℕ → Option (Page × ℕ)) (of : ℕ → Option ℕ)
        → ((m : List (List Bool)) (j : ℕ)
        → next (spot (with_marks page m) j) ≡ option_map (spot (with_marks page m)) (of j))
        → ((j : ℕ) → j < length page.rows → IfSome (of j) (λ k. k < length page.rows))
        → (p : Progression) (i : ℕ) → i < length page.rows
        → P (spot (at side) i) × IsNumberedAmong next P p (spot (at side) i)
        ↔ Q (spot page i) × IsNumberedAmong next Q p (spot page i)
    numbered_both next of on within p i lt = (
      λ h. (
        (same i lt).0 h.0,
        numbered_turned page (marks side) page.marks next of on within P Q same p i lt h.1,
      ),
      λ h. (
        (same i lt).1 h.0,
        numbered_turned page page.marks (marks side) next of on within Q P
            (λ j less. ((same j less).1, (same j less).0)) p i lt h.1,
      ),
    )

    previous_both : (p : Progression) (i : ℕ) → i < length page.rows
        → P (spot (at side) i) × IsNumberedAmong page_document.previous_sibling P p (spot (at side) i)
        ↔ Q (spot page i) × IsNumberedAmong page_document.previous_sibling Q p (spot page i)
    previous_both p i lt =
        numbered_both page_document.previous_sibling (λ j. last_below (is_sibling page.rows j) j) (λ m j. refl)
        previous_within p i lt

    next_both : (p : Progression) (i : ℕ) → i < length page.rows
        → P (spot (at side) i) × IsNumberedAmong next_sibling P p (spot (at side) i)
        ↔ Q (spot page i) × IsNumberedAmong next_sibling Q p (spot page i)
    next_both p i lt = numbered_both next_sibling (next_index page.rows) (λ m j. refl) next_within p i lt

  -- ---- a pseudo-class with a list

  module _ (ss : Selectors) (Listed HasListed : Page × ℕ → Type 0) where
    test_same : (test : ListTest) (side : Side)
        → ((j : ℕ) → j < length page.rows → MatchesAny page_document ss (spot (at side) j) ↔ Listed (spot page j))
        → ((j : ℕ) → j < length page.rows → HasAny (at inside) ss j ↔ HasListed (spot page j))
        → (i : ℕ) → i < length page.rows
        → IsListed side (tested_list test ss) i
        ↔ TestMeans page_document next_sibling side test Listed HasListed (spot page i)
    test_same has outside any more i lt = (λ h. (tt, (more i lt).0 h), λ h. (more i lt).1 h.1)
    test_same has inside any more i lt = (λ h. absurd (let never = h.0 in cc), λ h. absurd h.0)
    test_same (nth_child p) outside any more i lt =
        previous_both outside (MatchesAny page_document ss) Listed any p i lt
    test_same (nth_child p) inside any more i lt =
        let k = previous_both inside (MatchesAny page_document ss) Listed any p i lt in
        (λ h. k.0 h.1, λ h. (refl, k.1 h))
    test_same (nth_last_child p) outside any more i lt =
        next_both outside (MatchesAny page_document ss) Listed any p i lt
    test_same (nth_last_child p) inside any more i lt =
        let k = next_both inside (MatchesAny page_document ss) Listed any p i lt in
        (λ h. k.0 h.1, λ h. (refl, k.1 h))

  -- ---- selectors

  module _ (numbers : List ℕ) (Denotes : Denotation (Page × ℕ)) (limit : ℕ)
      (agrees : (side : Side) (k : ℕ) → k < limit → (i : ℕ) → i < length page.rows
      → IsTrue (is_in_list (at side) i (number_of numbers k)) ↔ Denotes side k (spot page i)) where
    abbrev TrueOf : Side → Condition → ℕ → Type 0
    TrueOf side c i = Means page_document next_sibling (IsOfPage page) Denotes side c (spot page i)

    abbrev PartOf : Side → Parts → ℕ → Page × ℕ → Type 0
    PartOf side ps = PartMeans page_document next_sibling (IsOfPage page) Denotes side ps

    abbrev SameParts : List ListText → Side → Parts → Type 0
    SameParts lists side ps =
        (k j : ℕ) → j < length page.rows
        → MeetsPart page_document (numbered_complex numbers lists ps).0 k (spot (at side) j)
        ↔ PartOf side ps k (spot page j)

    placed_same : (lists : List ListText) (side : Side) (ps : Parts) → SameParts lists side ps → (i : ℕ)
        → i < length page.rows
        → IsPlaced page_document (numbered_complex numbers lists ps).0 (spot (at side) i)
        ↔ ComplexMeans page_document next_sibling (IsOfPage page) Denotes side ps (spot page i)
    placed_same lists side ps same i lt =
        let made = (numbered_complex numbers lists ps).0 in
        subst (λ count. HasPlacement (shape page_document) (combinator_at made) (MeetsPart page_document made)
        (part_count made - 1) (spot (at side) i)
        ↔ HasPlacement (shape page_document) (combinator_at ps) (PartOf side ps) (count - 1) (spot page i))
        (counted numbers lists ps)
        (placed_both side (combinator_at made) (combinator_at ps) (joined numbers lists ps)
        (MeetsPart page_document made) (PartOf side ps) same (part_count made - 1) i lt)

    -- a placement after an element, which stands for itself
    module _ (lists : List ListText) (ps : Parts) (same : SameParts lists inside ps) (i : ℕ) where
      abbrev made : Parts
      made = (numbered_complex numbers lists ps).0

      after_same : (k j : ℕ) → j < length page.rows
          → MeetsAfter (MeetsPart page_document made) (spot (at inside) i) k (spot (at inside) j)
          ↔ MeetsAfter (PartOf inside ps) (spot page i) k (spot page j)
      after_same zero j lt = (
        λ h. ap (λ (n : Page × ℕ). spot page n.1) h,
        λ h. ap (λ (n : Page × ℕ). spot (at inside) n.1) h,
      )
      after_same (suc k) j lt = same k j lt

      ends_there : (end : ℕ) → end < length page.rows
          → HasPlacement (shape page_document) (combinator_after made)
          (MeetsAfter (MeetsPart page_document made) (spot (at inside) i)) (part_count made) (spot (at inside) end)
          ↔ HasPlacement (shape page_document) (combinator_after ps) (MeetsAfter (PartOf inside ps) (spot page i))
          (part_count made) (spot page end)
      ends_there end lt =
          placed_both inside (combinator_after made) (combinator_after ps) (joined_after numbers lists ps)
          (MeetsAfter (MeetsPart page_document made) (spot (at inside) i)) (MeetsAfter (PartOf inside ps) (spot page i))
          after_same (part_count made) end lt

      abbrev Ends : ℕ → Type 0
      Ends count =
          (0 < count)
          × ((end : Page × ℕ) × IsOfPage page end
          × HasPlacement (shape page_document) (combinator_after ps) (MeetsAfter (PartOf inside ps) (spot page i))
          count end)

      match_same : HasMatch (at inside) made i
          ↔ EndsAfter page_document (IsOfPage page) ps (PartOf inside ps) (spot page i)
      match_same = (
        λ h. subst Ends (counted numbers lists ps)
            (h.0, (spot page h.1.0, (refl, h.1.1), (ends_there h.1.0 h.1.1).0 h.1.2)),
        λ h. back (subst Ends (sym (counted numbers lists ps)) h),
      )
        where
          back : Ends (part_count made) → HasMatch (at inside) made i
          back h =
              let on : h.1.0 ≡ spot page h.1.0.1 = ap (λ p. (p, h.1.0.1)) h.1.1.0 in (
                h.0,
                (
                  h.1.0.1,
                  h.1.1.1,
                  (ends_there h.1.0.1 h.1.1.1).1 (subst
                      (λ end. HasPlacement (shape page_document) (combinator_after ps)
                      (MeetsAfter (PartOf inside ps) (spot page i)) (part_count made) end) on h.1.2),
                ),
              )

    mutual
      condition_same : (lists : List ListText) (c : Condition) → AsksBelow limit c
          → AreListed (numbered_condition numbers lists c).1 → (side : Side) (i : ℕ) → i < length page.rows
          → IsMet page_document (numbered_condition numbers lists c).0 (spot (at side) i) ↔ TrueOf side c i
      condition_same lists (simple universal) asks so side i lt = (λ h. h, λ h. h)
      condition_same lists (simple (type_name name)) asks so side i lt = (λ h. h, λ h. h)
      condition_same lists (simple (id text)) asks so side i lt = (λ h. h, λ h. h)
      condition_same lists (simple (class word)) asks so side i lt = (λ h. h, λ h. h)
      condition_same lists (simple (has_attribute name)) asks so side i lt = (λ h. h, λ h. h)
      condition_same lists (simple (attribute name c text ignores)) asks so side i lt = (λ h. h, λ h. h)
      condition_same lists (simple (structure s)) asks so side i lt =
          let same = structure_at side s i in (subst IsTrue same, subst IsTrue (sym same))
      condition_same lists (simple (language ranges)) asks so side i lt = (λ h. h, λ h. h)
      condition_same lists (simple (state name)) asks so side i lt = (λ h. h, λ h. h)
      condition_same lists (simple (function name argument)) asks so side i lt = (λ h. h, λ h. h)
      condition_same lists (simple (named_element name argument)) asks so side i lt = (λ h. h, λ h. h)
      condition_same lists (simple (nesting list)) asks so side i lt = agrees side list.number asks i lt
      condition_same lists (simple (namespaced namespace local)) asks so side i lt = (λ h. h, λ h. h)
      condition_same lists (negation ss) asks so side i lt =
          let k = any_same lists ss asks so side i lt in (λ f m. f (k.1 m), λ f m. f (k.0 m))
      condition_same lists (any_of ss) asks so side i lt = any_same lists ss asks so side i lt
      condition_same lists (where_any ss) asks so side i lt = any_same lists ss asks so side i lt
      condition_same lists (tested t ss) asks so side i lt =
          let made = numbered_list numbers lists ss in
          let less = listed_before made.1 (tested_list t made.0) so in
          let marked = listed_last made.1 (tested_list t made.0) so side i lt in
          let test = test_same made.0 (AnyMeans page_document next_sibling (IsOfPage page) Denotes side ss)
          (HasMeans page_document next_sibling (IsOfPage page) Denotes ss) t side
          (λ j within. any_same lists ss asks less side j within)
          (λ j within. has_same lists ss asks less j within) i lt in
          (λ h. test.0 (marked.0 h), λ h. marked.1 (test.1 h))

      compound_same : (lists : List ListText) (cs : Conditions) → CompoundAsksBelow limit cs
          → AreListed (numbered_compound numbers lists cs).1 → (side : Side) (i : ℕ) → i < length page.rows
          → AreMet page_document (numbered_compound numbers lists cs).0 (spot (at side) i)
          ↔ AllMean page_document next_sibling (IsOfPage page) Denotes side cs (spot page i)
      compound_same lists end_of_compound asks so side i lt = (λ h. h, λ h. h)
      compound_same lists (with_condition c cs) asks so side i lt =
          let first = condition_same lists c asks.0
          (compound_shrinks AreListed listed_before numbers (numbered_condition numbers lists c).1 cs so) side i lt in
          let rest = compound_same (numbered_condition numbers lists c).1 cs asks.1 so side i lt in
          (λ h. (first.0 h.0, rest.0 h.1), λ h. (first.1 h.0, rest.1 h.1))

      parts_same : (lists : List ListText) (ps : Parts) → PartsAskBelow limit ps
          → AreListed (numbered_complex numbers lists ps).1 → (side : Side) → SameParts lists side ps
      parts_same lists end_of_selector asks so side k j lt = (λ h. h, λ h. h)
      parts_same lists (with_part c cs ps) asks so side zero j lt =
          compound_same lists cs asks.0
          (complex_shrinks AreListed listed_before numbers (numbered_compound numbers lists cs).1 ps so) side j lt
      parts_same lists (with_part c cs ps) asks so side (suc k) j lt =
          parts_same (numbered_compound numbers lists cs).1 ps asks.1 so side k j lt

      any_same : (lists : List ListText) (ss : Selectors) → ListAsksBelow limit ss
          → AreListed (numbered_list numbers lists ss).1 → (side : Side) (i : ℕ) → i < length page.rows
          → MatchesAny page_document (numbered_list numbers lists ss).0 (spot (at side) i)
          ↔ AnyMeans page_document next_sibling (IsOfPage page) Denotes side ss (spot page i)
      any_same lists end_of_list asks so side i lt = (λ h. h, λ h. h)
      any_same lists (with_selector ps ss) asks so side i lt =
          let less = list_shrinks AreListed listed_before numbers (numbered_complex numbers lists ps).1 ss so in
          let first = placed_same lists side ps (parts_same lists ps asks.0 less side) i lt in
          let rest = any_same (numbered_complex numbers lists ps).1 ss asks.1 so side i lt in
          (either_so first.0 rest.0, either_so first.1 rest.1)

      has_same : (lists : List ListText) (ss : Selectors) → ListAsksBelow limit ss
          → AreListed (numbered_list numbers lists ss).1 → (i : ℕ) → i < length page.rows
          → HasAny (at inside) (numbered_list numbers lists ss).0 i
          ↔ HasMeans page_document next_sibling (IsOfPage page) Denotes ss (spot page i)
      has_same lists end_of_list asks so i lt = (λ h. h, λ h. h)
      has_same lists (with_selector ps ss) asks so i lt =
          let less = list_shrinks AreListed listed_before numbers (numbered_complex numbers lists ps).1 ss so in
          let first = match_same lists ps (parts_same lists ps asks.0 less inside) i in
          let rest = has_same (numbered_complex numbers lists ps).1 ss asks.1 so i lt in
          (either_so first.0 rest.0, either_so first.1 rest.1)

    -- the same of parts in a list
    pub selector_same : (lists : List ListText) (ps : List Part) → PartsAskBelow limit (parts_from ps)
        → AreListed (numbered_parts numbers lists ps).1 → (side : Side) (i : ℕ) → i < length page.rows
        → IsPlaced page_document (parts_from (numbered_parts numbers lists ps).0) (spot (at side) i)
        ↔ ComplexMeans page_document next_sibling (IsOfPage page) Denotes side (parts_from ps) (spot page i)
    selector_same lists ps asks so side i lt =
        let is = complex-from numbers lists ps in
        let listed = subst (λ made. AreListed made.1) (sym is) so in
        subst (λ made. IsPlaced page_document made.0 (spot (at side) i)
        ↔ ComplexMeans page_document next_sibling (IsOfPage page) Denotes side (parts_from ps) (spot page i)) is
        (placed_same lists side (parts_from ps) (parts_same lists (parts_from ps) asks listed side) i lt)
