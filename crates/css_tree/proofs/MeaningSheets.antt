-- The lists for which `&` stands, one after another, and then the selectors of the rules.
-- Serves `meaning_law`.
use Rattle.std.proofs.Common.{◌≡◌, ℕ, zero, suc, ◌+◌, ◌<◌, ◌↔◌, ◌⊎◌, inl, inr, Bool, true, false, List, [], ◌∷◌, ◌++◌, get_or, length, Option, None, Some, IsTrue, refl, sym, ap, subst, ◌∙◌, arith}
use Rattle.std.specs.Prelude.{◌==◌, All}
use Rattle.std.specs.List.{Any, slice_get}
use Rattle.std.specs.Option.{option_map_or}
use Rattle.std.proofs.lemmas.Bool.Decides.{Decides-eqb, not_from_Decides}
use Rattle.std.proofs.lemmas.List.{length-append}
use Rattle.css_matching.specs.ListTrees.{spot}
use Rattle.css_selector_text.specs.Components.{PseudoElement, Selector, parts_from}
use Rattle.css_selector_text.specs.Components.Structure.{scope}
use Rattle.css_selectors.specs.MarkedLists.{ListText}
use Rattle.css_selectors.specs.MarkedLists.ListText.{matched}
use Rattle.css_selectors.specs.Meanings.{Matches}
use Rattle.css_selectors.specs.Numberings.{NumberingText, no_list, number_of, numbered_element, numbered_parts, numbered_selector, no_lists, numbered_selectors, with_numbered, with_each_list}
use Rattle.css_selectors.proofs.AlikeSelectors.{either_so}
use Rattle.css_tree.specs.Asked.{PartsAskBelow, SelectorAsksBelow, AskBefore, AskEarlier}
use Rattle.css_tree.specs.Marks.{AreMarked}
use Rattle.css_tree.specs.Means.{Side, Denotation, SelectorMeans, OneMeans, chosen, with_denoted, denoted, outermost}
use Rattle.css_tree.specs.Means.Side.{outside, inside}
use Rattle.css_tree.specs.NextSiblings.{next_sibling}
use Rattle.css_tree.specs.PageMeanings.{Selects}
use Rattle.css_tree.specs.PageNodes.{IsOfPage}
use Rattle.css_tree.specs.Pages.{Page, page_document, is_in_list}
use Rattle.css_tree.proofs.AskedLemmas.{inside_matches, marked_matches}
use Rattle.css_tree.proofs.MeaningSelectors.{at, IsListed, AreListed, listed_before, listed_last, structure_at, selector_same}
use Rattle.css_tree.proofs.MeaningShrinks.{element_shrinks, selectors_shrink, each_shrinks}

-- ---- one of a list

abbrev One : {X : Type 0} → (X → Type 0) → List X → Type 0
One P [] = ⊥
One P (x ∷ xs) = P x ⊎ One P xs

one_any : {X : Type 0} (P : X → Type 0) (xs : List X) → Any P xs ↔ One P xs
one_any P [] = (λ h. absurd (omega (arith, h.2)), λ h. absurd h)
one_any P (x ∷ xs) = (first (one_any P xs).0, second (one_any P xs).1)
  where
    first : (Any P xs → One P xs) → Any P (x ∷ xs) → One P (x ∷ xs)
    first more (zero, y, lt, is, h) = inl (subst P (sym is) h)
    first more (suc k, y, lt, is, h) = inr (more (k, y, omega arith, is, h))

    second : (One P xs → Any P xs) → One P (x ∷ xs) → Any P (x ∷ xs)
    second more (inl h) = (zero, x, omega arith, refl, h)
    second more (inr h) = let one = more h in (suc one.0, one.1, (let lt = one.2 in omega arith), one.3, one.4)

-- a selector has a pseudo-element exactly if it has one when it is numbered
element_none : (numbers : List ℕ) (lists : List ListText) (e : Option PseudoElement)
    → ((numbered_element numbers lists e).0 ≡ None) ↔ (e ≡ None)
element_none numbers lists None = (λ h. refl, λ h. refl)
element_none numbers lists (Some e) = (λ h. absurd (cc), λ h. absurd (cc))

-- ---- numbers

got_before : (xs : List ℕ) (x k : ℕ) → k < length xs → slice_get (xs ++ (x ∷ [])) k ≡ slice_get xs k
got_before [] x k lt = absurd (omega (arith, lt))
got_before (y ∷ xs) x zero lt = refl
got_before (y ∷ xs) x (suc k) lt = got_before xs x k (omega (arith, lt))

number_before : (xs : List ℕ) (x k : ℕ) → k < suc (length xs) → number_of (xs ++ (x ∷ [])) k ≡ number_of xs k
number_before xs x zero lt = refl
number_before xs x (suc k) lt =
    ap (λ r. option_map_or (λ number. number) r no_list) (got_before xs x k (omega (arith, lt)))

number_last : (xs : List ℕ) (x : ℕ) → number_of (xs ++ (x ∷ [])) (suc (length xs)) ≡ x
number_last [] x = refl
number_last (y ∷ xs) x = number_last xs x

-- selectors have no list for `&`
kept : (n : NumberingText) (ss : List Selector) → (numbered_selectors n ss).1.numbers ≡ n.numbers
kept n [] = refl
kept n (s ∷ ss) = kept (numbered_selector n s).1 ss

-- ---- what lists ask

abbrev EachAsksBelow : ℕ → List Selector → Type 0
EachAsksBelow limit [] = Unit {0}
EachAsksBelow limit (s ∷ selectors) = PartsAskBelow limit (parts_from s.parts) × EachAsksBelow limit selectors

-- each list asks only of those before it, of which there are so many
abbrev AskInTurn : ℕ → List (List Selector) → Type 0
AskInTurn count [] = Unit {0}
AskInTurn count (list ∷ lists) = EachAsksBelow (suc count) list × AskInTurn (suc count) lists

each_asks : (limit : ℕ) (ss : List Selector) → All (SelectorAsksBelow limit) ss → EachAsksBelow limit ss
each_asks limit [] h = tt
each_asks limit (s ∷ ss) h = (h zero s (omega arith), each_asks limit ss (λ k d lt. h (suc k) d (omega arith)))

in_turn : (count : ℕ) (lists : List (List Selector))
    → ((k : ℕ) → k < length lists → All (SelectorAsksBelow (suc (count + k))) (get_or lists k []))
    → AskInTurn count lists
in_turn count [] h = tt
in_turn count (list ∷ lists) h = (
  each_asks (suc count) list (subst (λ k. All (SelectorAsksBelow (suc k)) list) zeroth (h zero (omega arith))),
  in_turn (suc count) lists (λ k lt. subst (λ n. All (SelectorAsksBelow (suc n)) (get_or lists k [])) (next k)
      (h (suc k) (omega (arith, lt)))),
)
  where
    zeroth : count + zero ≡ count
    zeroth = omega arith

    next : (k : ℕ) → count + suc k ≡ suc count + k
    next k = omega arith

-- ---- meanings

module _ (page : Page) (inner : List (List Bool)) where
  abbrev MeansThere : Denotation (Page × ℕ) → Side → Selector → ℕ → Type 0
  MeansThere Denotes side s i =
      SelectorMeans page_document next_sibling (IsOfPage page) Denotes side s (spot page i)

  -- one by one, a selector with numbers matches what the one means that was read
  abbrev EachMeans : Denotation (Page × ℕ) → (numbered read : List Selector) → Type 0
  EachMeans Denotes [] [] = Unit {0}
  EachMeans Denotes [] (t ∷ read) = ⊥
  EachMeans Denotes (s ∷ numbered) [] = ⊥
  EachMeans Denotes (s ∷ numbered) (t ∷ read) =
      ((side : Side) (i : ℕ) → i < length page.rows
      → Matches page_document s (spot (at page inner side) i) ↔ MeansThere Denotes side t i)
      × EachMeans Denotes numbered read

  -- an `&` below the limit asks what it denotes
  abbrev Agree : List ℕ → Denotation (Page × ℕ) → ℕ → Type 0
  Agree numbers Denotes limit =
      (side : Side) (k : ℕ) → k < limit → (i : ℕ) → i < length page.rows
      → IsTrue (is_in_list (at page inner side) i (number_of numbers k)) ↔ Denotes side k (spot page i)

  module _ (Denotes : Denotation (Page × ℕ)) where
    selectors_same : (n : NumberingText) (limit : ℕ) (ss : List Selector) → EachAsksBelow limit ss
        → Agree n.numbers Denotes limit → AreListed page inner (numbered_selectors n ss).1.lists
        → EachMeans Denotes (numbered_selectors n ss).0 ss
    selectors_same n limit [] asks agree so = tt
    selectors_same n limit (s ∷ ss) asks agree so = (
      λ side i lt. (let k = selector_same page inner n.numbers Denotes limit agree n.lists s.parts asks.0
          (element_shrinks (AreListed page inner) (listed_before page inner) n.numbers
          (numbered_parts n.numbers n.lists s.parts).1 s.pseudo_element
          (selectors_shrink (AreListed page inner) (listed_before page inner) (numbered_selector n s).1 ss so))
          side i lt in
          let e = element_none n.numbers (numbered_parts n.numbers n.lists s.parts).1 s.pseudo_element in
          (λ h. (e.0 h.0, k.0 h.1), λ h. (e.1 h.0, k.1 h.1))),
      selectors_same (numbered_selector n s).1 limit ss asks.1 agree so,
    )

    one_same : (numbered read : List Selector) → EachMeans Denotes numbered read → (side : Side) (i : ℕ)
        → i < length page.rows
        → One (λ s. Matches page_document s (spot (at page inner side) i)) numbered
        ↔ OneMeans page_document next_sibling (IsOfPage page) Denotes read side (spot page i)
    one_same [] [] each side i lt = (λ h. h, λ h. h)
    one_same [] (t ∷ read) each side i lt = absurd each
    one_same (s ∷ numbered) [] each side i lt = absurd each
    one_same (s ∷ numbered) (t ∷ read) each side i lt =
        let first = each.0 side i lt in
        let rest = one_same numbered read each.1 side i lt in
        (either_so first.0 rest.0, either_so first.1 rest.1)

    nth_means : (numbered read : List Selector) → EachMeans Denotes numbered read → (k i : ℕ) (s t : Selector)
        → slice_get numbered k ≡ Some s → slice_get read k ≡ Some t → i < length page.rows
        → Matches page_document s (spot page i) ↔ MeansThere Denotes outside t i
    nth_means [] read each k i s t is_s is_t lt = absurd (cc)
    nth_means (x ∷ numbered) [] each k i s t is_s is_t lt = absurd (cc)
    nth_means (x ∷ numbered) (y ∷ read) each zero i s t is_s is_t lt =
        let first : x ≡ s = cc in
        let second : y ≡ t = cc in
        subst (λ a. Matches page_document a (spot page i) ↔ MeansThere Denotes outside t i) first
        (subst (λ b. Matches page_document x (spot page i) ↔ MeansThere Denotes outside b i) second
        (each.0 outside i lt))
    nth_means (x ∷ numbered) (y ∷ read) each (suc k) i s t is_s is_t lt =
        nth_means numbered read each.1 k i s t is_s is_t lt

  -- one list more
  module _ (Denotes : Denotation (Page × ℕ)) (count : ℕ) (numbers : List ℕ) (all : length numbers ≡ count)
      (agree : Agree numbers Denotes (suc count)) (number : ℕ) (Listed : Side → Page × ℕ → Type 0)
      (marked : (side : Side) (i : ℕ) → i < length page.rows
      → IsTrue (is_in_list (at page inner side) i number) ↔ Listed side (spot page i)) where
    more_by : (side : Side) (k : ℕ) (b : Bool) → (k == suc count) ≡ b → k < suc (suc count) → (i : ℕ)
        → i < length page.rows
        → IsTrue (is_in_list (at page inner side) i (number_of (numbers ++ (number ∷ [])) k))
        ↔ chosen b (Listed side (spot page i)) (Denotes side k (spot page i))
    more_by side k true e lt i within =
        let same : k ≡ suc count = (Decides-eqb k (suc count)).0 e in
        let last : k ≡ suc (length numbers) = same ∙ ap suc (sym all) in
        subst (λ x. IsTrue (is_in_list (at page inner side) i x) ↔ Listed side (spot page i))
        (sym (ap (number_of (numbers ++ (number ∷ []))) last ∙ number_last numbers number)) (marked side i within)
    more_by side k false e lt i within =
        let other = not_from_Decides (k == suc count) (Decides-eqb k (suc count)) e in
        let less : k < suc count = omega (arith, lt, other) in
        subst (λ x. IsTrue (is_in_list (at page inner side) i x) ↔ Denotes side k (spot page i))
        (sym (number_before numbers number k (omega (arith, less, all)))) (agree side k less i within)

    more_agree : Agree (numbers ++ (number ∷ [])) (with_denoted Denotes count Listed) (suc (suc count))
    more_agree side k lt i within = more_by side k (k == suc count) refl lt i within

  -- the marks of a list for `&`
  matched_side : (ss : List Selector) (side : Side) (i : ℕ)
      → IsListed page inner side (matched ss) i ↔ Any (λ s. Matches page_document s (spot (at page inner side) i)) ss
  matched_side ss outside i = (λ h. h, λ h. h)
  matched_side ss inside i = (λ h. h.1, λ h. (refl, h))

  each_agrees : (nested : List (List Selector)) (n : NumberingText) (count : ℕ) (Denotes : Denotation (Page × ℕ))
      → length n.numbers ≡ count → Agree n.numbers Denotes (suc count) → AskInTurn count nested
      → AreListed page inner (with_each_list n nested).lists
      → Agree (with_each_list n nested).numbers
      (denoted page_document next_sibling (IsOfPage page) Denotes count nested) (suc (count + length nested))
  each_agrees [] n count Denotes all agree earlier so side k lt = agree side k (omega (arith, lt))
  each_agrees (list ∷ nested) n count Denotes all agree earlier so side k lt =
      let made = numbered_selectors n list in
      let less = each_shrinks (AreListed page inner) (listed_before page inner) (with_numbered made) nested so in
      let each = selectors_same Denotes n (suc count) list earlier.0 agree
      (listed_before page inner made.1.lists (matched made.0) less) in
      let one = one_same Denotes made.0 list each in
      let marks = listed_last page inner made.1.lists (matched made.0) less in
      let same = kept n list in
      let Listed = OneMeans page_document next_sibling (IsOfPage page) Denotes list in
      each_agrees nested (with_numbered made) (suc count) (with_denoted Denotes count Listed)
      (omega (arith, all, ap length same, length-append made.1.numbers ((length made.1.lists + 1) ∷ [])))
      (more_agree Denotes count made.1.numbers (ap length same ∙ all)
      (subst (λ numbers. Agree numbers Denotes (suc count)) (sym same) agree) (length made.1.lists + 1) Listed
      (λ on i within. (let a = marks on i within in
      let b = matched_side made.0 on i in
      let c = one_any (λ s. Matches page_document s (spot (at page inner on) i)) made.0 in
      let d = one on i within in
      (λ h. d.0 (c.0 (b.0 (a.0 h))), λ h. a.1 (b.1 (c.1 (d.1 h)))))))
      earlier.1 so side k (omega (arith, lt))

  first_agrees : Agree [] (outermost page_document) 1
  first_agrees side zero lt i within =
      let same = structure_at page inner side scope i in (subst IsTrue same, subst IsTrue (sym same))
  first_agrees side (suc k) lt i within = absurd (omega (arith, lt))

  sheet_means : (nested : List (List Selector)) (rules : List Selector) → AskInTurn 0 nested
      → EachAsksBelow (suc (length nested)) rules
      → AreListed page inner (numbered_selectors (with_each_list no_lists nested) rules).1.lists
      → EachMeans (denoted page_document next_sibling (IsOfPage page) (outermost page_document) 0 nested)
      (numbered_selectors (with_each_list no_lists nested) rules).0 rules
  sheet_means nested rules earlier asks so =
      let ready = with_each_list no_lists nested in
      let agree = each_agrees nested no_lists 0 (outermost page_document) refl first_agrees earlier
      (selectors_shrink (AreListed page inner) (listed_before page inner) ready rules so) in
      selectors_same (denoted page_document next_sibling (IsOfPage page) (outermost page_document) 0 nested) ready
      (suc (length nested)) rules asks (λ side k lt. agree side k (omega (arith, lt))) so

are_listed : (lists : List ListText) (page : Page) → (are : AreMarked lists page) → AskBefore lists
    → AreListed page are.inside lists
are_listed lists page are asks outside list i lt within = marked_matches lists page are asks list i lt within
are_listed lists page are asks inside list i lt within = inside_matches lists page are asks list i lt within

pub selectors_mean : (page : Page) (nested : List (List Selector)) (read : List Selector) → AskEarlier nested
    → All (SelectorAsksBelow (suc (length nested))) read
    → AskBefore (numbered_selectors (with_each_list no_lists nested) read).1.lists
    → AreMarked (numbered_selectors (with_each_list no_lists nested) read).1.lists page
    → (k i : ℕ) (s t : Selector)
    → slice_get (numbered_selectors (with_each_list no_lists nested) read).0 k ≡ Some s → slice_get read k ≡ Some t
    → i < length page.rows → Matches page_document s (spot page i) ↔ Selects page nested t i
selectors_mean page nested read earlier asks before are =
    let numbered = numbered_selectors (with_each_list no_lists nested) read in
    nth_means page are.inside (denoted page_document next_sibling (IsOfPage page) (outermost page_document) 0 nested)
    numbered.0 read (sheet_means page are.inside nested read
    (in_turn 0 nested (λ k lt. subst (λ n. All (SelectorAsksBelow (suc n)) (get_or nested k [])) (sym (none k))
    (earlier k lt))) (each_asks (suc (length nested)) read asks) (are_listed numbered.1.lists page are before))
  where
    none : (k : ℕ) → 0 + k ≡ k
    none k = omega arith
