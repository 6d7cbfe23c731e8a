-- Selectors with numbers are answered by a page that is marked with their lists.
-- Serves `TreeWalk::new` where it is called.
use Rattle.std.proofs.Common.{◌≡◌, ◌||◌, ◌==◌, eqb-true, Bool, true, false, not, ◌⊎◌, inl, inr, ℕ, zero, suc, ◌+◌, ◌<◌, ◌≤◌, List, [], ◌∷◌, ◌++◌, length, length-append, map, get_or, slice_get, Option, None, Some, refl, sym, ap, ◌∙◌, subst, arith}
use Rattle.std.specs.Prelude.{All}
use Rattle.std.specs.Option.{option_map_or}
use Rattle.std.proofs.lemmas.Bool.Decides.{nat_tests}
use Rattle.std.proofs.lemmas.List.{length-map}
use Rattle.std.proofs.lemmas.List.Elements.{All-nil, All-cons, All-map, All-weaker}
use Rattle.css_selector_text.specs.Components.{Simple, Condition, Conditions, Part, Parts, PseudoElement, Selector, Selectors, conditions_from, parts_from}
use Rattle.css_selector_text.specs.Components.Simple.{universal, type_name, id, class, has_attribute, attribute, structure, language, state, function, named_element, nesting, namespaced}
use Rattle.css_selector_text.specs.Components.Condition.{simple, negation, any_of, where_any, tested}
use Rattle.css_selector_text.specs.Components.Conditions.{end_of_compound, with_condition}
use Rattle.css_selector_text.specs.Components.Parts.{end_of_selector, with_part}
use Rattle.css_selector_text.specs.Components.Selectors.{end_of_list, with_selector}
use Rattle.css_selectors.specs.MarkedLists.{ListText, list_of}
use Rattle.css_selectors.specs.declared.marked_list.MarkedList.{MarkedList}
use Rattle.css_selectors.specs.MarkedLists.ListText.{matched, tested as tested_list}
use Rattle.css_selectors.specs.Numberings.{NumberingText, Numbered, made_of, no_list, no_lists, number_of, numbered_complex, numbered_compound, numbered_condition, numbered_conditions, numbered_element, numbered_list, numbered_part, numbered_parts, numbered_selector, numbered_selectors, numbered_simple, one_then, with_each_list, with_list, with_numbered}
use Rattle.css_selectors.specs.PageNeeds.{asks_page, compound_asks_page, needs_page, parts_ask_page, some_ask_page}
use Rattle.css_tree.specs.Answered.{CompoundIsAnswered, IsAnswered, IsMarkedFor, ListIsAnswered, PartsAreAnswered, SelectorIsAnswered, SimpleIsAnswered}
use Rattle.css_tree.specs.Html.{complex_in, compound_in, condition_in, html_selector, part_in, selectors_in, simple_in}
use Rattle.css_tree.specs.Marks.{AreMarked}
use Rattle.css_tree.specs.Pages.{Page}
use Rattle.css_tree.specs.declared.html.HtmlMode.{HtmlMode}

-- ---- more lists answer what fewer do

module _ (m n : ℕ) (more : m ≤ n) where
  simple-more : (s : Simple) → SimpleIsAnswered m s → SimpleIsAnswered n s
  simple-more universal h = tt
  simple-more (type_name name) h = tt
  simple-more (id name) h = tt
  simple-more (class name) h = tt
  simple-more (has_attribute name) h = tt
  simple-more (attribute name comparison value ignores) h = tt
  simple-more (structure s) h = tt
  simple-more (language ranges) h = tt
  simple-more (state name) h = tt
  simple-more (function name argument) h = tt
  simple-more (named_element name argument) h = tt
  simple-more (nesting list) (inl h) = inl (omega (arith, h, more))
  simple-more (nesting list) (inr h) = inr h
  simple-more (namespaced namespace local) h = tt

  mutual
    condition-more : (c : Condition) → IsAnswered m c → IsAnswered n c
    condition-more (simple s) h = simple-more s h
    condition-more (negation ss) h = list-more ss h
    condition-more (any_of ss) h = list-more ss h
    condition-more (where_any ss) h = list-more ss h
    condition-more (tested test ss) h = absurd h

    compound-more : (cs : Conditions) → CompoundIsAnswered m cs → CompoundIsAnswered n cs
    compound-more end_of_compound h = tt
    compound-more (with_condition c cs) h = (condition-more c h.0, compound-more cs h.1)

    parts-more : (ps : Parts) → PartsAreAnswered m ps → PartsAreAnswered n ps
    parts-more end_of_selector h = tt
    parts-more (with_part k c ps) h = (compound-more c h.0, parts-more ps h.1)

    list-more : (ss : Selectors) → ListIsAnswered m ss → ListIsAnswered n ss
    list-more end_of_list h = tt
    list-more (with_selector s ss) h = (parts-more s h.0, list-more ss h.1)

  pub selector-more : (s : Selector) → SelectorIsAnswered m s → SelectorIsAnswered n s
  selector-more s h = parts-more (parts_from s.parts) h

-- ---- what is numbered

-- Lists were appended, and these answer what was made.
pub record Answers {A : Type 0} (P : ℕ → A → Type 0) (lists : List ListText) (made : Numbered A) : Type 0 where
  pub grows : length lists ≤ length made.1
  pub answered : P (length made.1) made.0

then-answers : {A B C : Type 0} (P : ℕ → A → Type 0) (Q : ℕ → B → Type 0) (R : ℕ → C → Type 0)
    (make : A → B → C) → ((m n : ℕ) → m ≤ n → (x : A) → P m x → P n x)
    → ((n : ℕ) (x : A) (y : B) → P n x → Q n y → R n (make x y))
    → (lists : List ListText) (one : Numbered A) (next : List ListText → Numbered B)
    → Answers P lists one → Answers Q one.1 (next one.1) → Answers R lists (one_then make one next)
then-answers P Q R make more join lists one next a b = record {
  grows = omega (arith, a.grows, b.grows);
  answered = join (length (next one.1).1) one.0 (next one.1).0
      (more (length one.1) (length (next one.1).1) (omega (arith, b.grows)) one.0 a.answered) b.answered;
}

nothing-answers : {A : Type 0} (P : ℕ → A → Type 0) (lists : List ListText) (x : A)
    → P (length lists) x → Answers P lists (x, lists)
nothing-answers P lists x h = record { grows = omega arith; answered = h }

-- the number is of one of so many lists, or of no list
abbrev IsNumbered : ℕ → ℕ → Type 0
IsNumbered lists number = (number ≤ lists) ⊎ (number ≡ no_list)

number-more : (m n : ℕ) → m ≤ n → (k : ℕ) → IsNumbered m k → IsNumbered n k
number-more m n le k (inl h) = inl (omega (arith, h, le))
number-more m n le k (inr h) = inr h

-- Where the lists that `&` denotes are among the first `m`.
module _ (numbers : List ℕ) (m : ℕ) (are : (k : ℕ) → IsNumbered m (number_of numbers k)) where
  simple-answered : (lists : List ListText) → m ≤ length lists → (s : Simple)
      → SimpleIsAnswered (length lists) (numbered_simple numbers s)
  simple-answered lists le universal = tt
  simple-answered lists le (type_name name) = tt
  simple-answered lists le (id name) = tt
  simple-answered lists le (class name) = tt
  simple-answered lists le (has_attribute name) = tt
  simple-answered lists le (attribute name comparison value ignores) = tt
  simple-answered lists le (structure s) = tt
  simple-answered lists le (language ranges) = tt
  simple-answered lists le (state name) = tt
  simple-answered lists le (function name argument) = tt
  simple-answered lists le (named_element name argument) = tt
  simple-answered lists le (nesting list) =
      number-more m (length lists) le (number_of numbers list.number) (are list.number)
  simple-answered lists le (namespaced namespace local) = tt

  mutual
    condition-answered : (lists : List ListText) → m ≤ length lists → (c : Condition)
        → Answers IsAnswered lists (numbered_condition numbers lists c)
    condition-answered lists le (simple s) =
        nothing-answers IsAnswered lists (simple (numbered_simple numbers s)) (simple-answered lists le s)
    condition-answered lists le (negation ss) =
        let a = list-answered lists le ss in
        record { grows = a.grows; answered = a.answered }
    condition-answered lists le (any_of ss) =
        let a = list-answered lists le ss in
        record { grows = a.grows; answered = a.answered }
    condition-answered lists le (where_any ss) =
        let a = list-answered lists le ss in
        record { grows = a.grows; answered = a.answered }
    condition-answered lists le (tested test ss) =
        let a = list-answered lists le ss in
        let made = numbered_list numbers lists ss in
        let longer = length-append made.1 (tested_list test made.0 ∷ []) in
        record {
          grows = omega (arith, a.grows, longer);
          answered = inl (omega (arith, longer));
        }

    compound-answered : (lists : List ListText) → m ≤ length lists → (cs : Conditions)
        → Answers CompoundIsAnswered lists (numbered_compound numbers lists cs)
    compound-answered lists le end_of_compound = nothing-answers CompoundIsAnswered lists end_of_compound tt
    compound-answered lists le (with_condition c cs) =
        let a = condition-answered lists le c in
        let one = numbered_condition numbers lists c in
        then-answers IsAnswered CompoundIsAnswered CompoundIsAnswered with_condition
        condition-more (λ n x y p q. (p, q)) lists one (λ more. numbered_compound numbers more cs)
        a (compound-answered one.1 (omega (arith, le, a.grows)) cs)

    complex-answered : (lists : List ListText) → m ≤ length lists → (ps : Parts)
        → Answers PartsAreAnswered lists (numbered_complex numbers lists ps)
    complex-answered lists le end_of_selector = nothing-answers PartsAreAnswered lists end_of_selector tt
    complex-answered lists le (with_part k c ps) =
        let a = compound-answered lists le c in
        let one = numbered_compound numbers lists c in
        then-answers CompoundIsAnswered PartsAreAnswered PartsAreAnswered (with_part k)
        compound-more (λ n x y p q. (p, q)) lists one (λ more. numbered_complex numbers more ps)
        a (complex-answered one.1 (omega (arith, le, a.grows)) ps)

    list-answered : (lists : List ListText) → m ≤ length lists → (ss : Selectors)
        → Answers ListIsAnswered lists (numbered_list numbers lists ss)
    list-answered lists le end_of_list = nothing-answers ListIsAnswered lists end_of_list tt
    list-answered lists le (with_selector s ss) =
        let a = complex-answered lists le s in
        let one = numbered_complex numbers lists s in
        then-answers PartsAreAnswered ListIsAnswered ListIsAnswered with_selector
        parts-more (λ n x y p q. (p, q)) lists one (λ more. numbered_list numbers more ss)
        a (list-answered one.1 (omega (arith, le, a.grows)) ss)

  abbrev ConditionsAnswered : ℕ → List Condition → Type 0
  ConditionsAnswered n cs = CompoundIsAnswered n (conditions_from cs)

  abbrev PartAnswered : ℕ → Part → Type 0
  PartAnswered n p = ConditionsAnswered n p.conditions

  abbrev RowAnswered : ℕ → List Part → Type 0
  RowAnswered n ps = PartsAreAnswered n (parts_from ps)

  conditions-answered : (lists : List ListText) → m ≤ length lists → (cs : List Condition)
      → Answers ConditionsAnswered lists (numbered_conditions numbers lists cs)
  conditions-answered lists le [] = nothing-answers ConditionsAnswered lists [] tt
  conditions-answered lists le (c ∷ cs) =
      let a = condition-answered lists le c in
      let one = numbered_condition numbers lists c in
      then-answers IsAnswered ConditionsAnswered ConditionsAnswered (λ y ys. y ∷ ys)
      condition-more (λ n x y p q. (p, q)) lists one (λ more. numbered_conditions numbers more cs)
      a (conditions-answered one.1 (omega (arith, le, a.grows)) cs)

  part-answered : (lists : List ListText) → m ≤ length lists → (p : Part)
      → Answers PartAnswered lists (numbered_part numbers lists p)
  part-answered lists le p =
      let a = conditions-answered lists le p.conditions in
      record { grows = a.grows; answered = a.answered }

  row-answered : (lists : List ListText) → m ≤ length lists → (ps : List Part)
      → Answers RowAnswered lists (numbered_parts numbers lists ps)
  row-answered lists le [] = nothing-answers RowAnswered lists [] tt
  row-answered lists le (p ∷ ps) =
      let a = part-answered lists le p in
      let one = numbered_part numbers lists p in
      then-answers PartAnswered RowAnswered RowAnswered (λ y ys. y ∷ ys)
      (λ i j le x. compound-more i j le (conditions_from x.conditions)) (λ n x y p q. (p, q)) lists one
      (λ more. numbered_parts numbers more ps)
      a (row-answered one.1 (omega (arith, le, a.grows)) ps)

  -- nothing is asked after a pseudo-element, but lists may be appended
  element-grows : (lists : List ListText) → m ≤ length lists → (e : Option PseudoElement)
      → length lists ≤ length (numbered_element numbers lists e).1
  element-grows lists le None = omega arith
  element-grows lists le (Some e) = (conditions-answered lists le e.after).grows

-- The lists that `&` denotes are there.
pub record AreThere (n : NumberingText) : Type 0 where
  pub numbers : (k : ℕ) → IsNumbered (length n.lists) (number_of n.numbers k)

-- What was made is answered by the lists after it, among which are those that `&` denotes.
pub record After {A : Type 0} (P : ℕ → A → Type 0) (n : NumberingText) (made : A) (after : NumberingText) : Type 0 where
  pub grows : length n.lists ≤ length after.lists
  pub there : AreThere after
  pub answered : P (length after.lists) made

pub numbered-after : (n : NumberingText) → AreThere n → (s : Selector)
    → After SelectorIsAnswered n (numbered_selector n s).0 (numbered_selector n s).1
numbered-after n there s =
    let count = length n.lists in
    let a = row-answered n.numbers count there.numbers n.lists (omega arith) s.parts in
    let middle = (numbered_parts n.numbers n.lists s.parts).1 in
    let last = (numbered_element n.numbers middle s.pseudo_element).1 in
    let more : length middle ≤ length last =
    element-grows n.numbers count there.numbers middle (omega (arith, a.grows)) s.pseudo_element in
    let whole : count ≤ length last = omega (arith, a.grows, more) in
    record {
      grows = whole;
      there = record { numbers = λ k. number-more count (length last) whole (number_of n.numbers k) (there.numbers k) };
      answered = parts-more (length middle) (length last) more
          (parts_from (numbered_parts n.numbers n.lists s.parts).0) a.answered;
    }

abbrev pub AllAnswered : ℕ → List Selector → Type 0
AllAnswered n = All (SelectorIsAnswered n)

pub numbered-all : (n : NumberingText) → AreThere n → (ss : List Selector)
    → After AllAnswered n (numbered_selectors n ss).0 (numbered_selectors n ss).1
numbered-all n there [] = record {
  grows = omega arith;
  there = there;
  answered = All-nil (SelectorIsAnswered (length n.lists));
}
numbered-all n there (s ∷ ss) =
    let a = numbered-after n there s in
    let next = (numbered_selector n s).1 in
    let b = numbered-all next a.there ss in
    let last = (numbered_selectors next ss).1 in
    record {
      grows = omega (arith, a.grows, b.grows);
      there = b.there;
      answered = All-cons (SelectorIsAnswered (length last.lists)) (numbered_selector n s).0
          (numbered_selectors next ss).0
          (selector-more (length next.lists) (length last.lists) (omega (arith, b.grows))
          (numbered_selector n s).0 a.answered)
          b.answered;
    }

none-there : AreThere no_lists
none-there = record {
  numbers = by;
}
  where
    by : (k : ℕ) → IsNumbered 0 (number_of [] k)
    by zero = inl (omega arith)
    by (suc k) = inr refl

-- the selectors of a list are answered by the lists that are made of them
pub list-answers : (ss : List Selector)
    → AllAnswered (length (numbered_selectors no_lists ss).1.lists) (numbered_selectors no_lists ss).0
list-answers ss = (numbered-all no_lists none-there ss).answered

without-lists : (n : NumberingText) → n.lists ≡ [] → n.numbers ≡ [] → n ≡ no_lists
without-lists n lists numbers =
    ap (λ l. record { lists = l; numbers = n.numbers }) lists
    ∙ ap (λ k. record { lists = []; numbers = k }) numbers

-- the same where a numbering of nothing has numbered them
pub numbered-answered : (old new : NumberingText) (ss made selectors : List Selector) (lists : List MarkedList)
    → old.lists ≡ [] → old.numbers ≡ [] → numbered_selectors old ss ≡ (made, new) → selectors ≡ made
    → map list_of lists ≡ new.lists → All (SelectorIsAnswered (length lists)) selectors
numbered-answered old new ss made selectors lists none nothing are same listed =
    let whole : numbered_selectors no_lists ss ≡ (made, new) =
    ap (λ n. numbered_selectors n ss) (sym (without-lists old none nothing)) ∙ are in
    subst (λ n. AllAnswered n selectors) (sym (ap length listed) ∙ length-map lists list_of)
    (subst (AllAnswered (length new.lists)) (sym same)
    (subst (λ (n : List Selector × NumberingText). AllAnswered (length n.1.lists) n.0) whole (list-answers ss)))

-- ---- lists that `&` denotes

-- one more number
numbers-more : (numbers : List ℕ) (m number : ℕ) → ((k : ℕ) → IsNumbered m (number_of numbers k)) → number ≤ m
    → (k : ℕ) → IsNumbered m (number_of (numbers ++ number ∷ []) k)
numbers-more numbers m number are fits zero = inl (omega arith)
numbers-more numbers m number are fits (suc k) = by numbers k (λ j. are (suc j))
  where
    by : (list : List ℕ) (k : ℕ) → ((j : ℕ) → IsNumbered m (option_map_or (λ x. x) (slice_get list j) no_list))
        → IsNumbered m (option_map_or (λ x. x) (slice_get (list ++ number ∷ []) k) no_list)
    by [] zero h = inl fits
    by [] (suc k) h = inr refl
    by (x ∷ list) zero h = h zero
    by (x ∷ list) (suc k) h = by list k (λ j. h (suc j))

with-there : (n : NumberingText) (list : List Selector) → AreThere n → AreThere (with_list n list)
with-there n list there =
    let longer = length-append n.lists (matched list ∷ []) in
    let count = length (n.lists ++ matched list ∷ []) in
    record {
      numbers = numbers-more n.numbers count (length n.lists + 1)
          (λ k. number-more (length n.lists) count (omega (arith, longer)) (number_of n.numbers k) (there.numbers k))
          (omega (arith, longer));
    }

each-there : (lists : List (List Selector)) (n : NumberingText) → AreThere n → AreThere (with_each_list n lists)
each-there [] n there = there
each-there (list ∷ lists) n there =
    let made = numbered_selectors n list in
    each-there lists (with_numbered made) (with-there made.1 made.0 (numbered-all n there list).there)

-- a numbering of lists that `&` denotes has their numbers
pub lists-there : (lists : List (List Selector)) → AreThere (with_each_list no_lists lists)
lists-there lists = each-there lists no_lists none-there

-- ---- what an HTML document reads is answered, too

module _ (mode : HtmlMode) (n : ℕ) where
  simple-read : (s : Simple) → SimpleIsAnswered n s → SimpleIsAnswered n (simple_in mode s)
  simple-read universal h = tt
  simple-read (type_name name) h = tt
  simple-read (id name) h = tt
  simple-read (class name) h = tt
  simple-read (has_attribute name) h = tt
  simple-read (attribute name comparison value ignores) h = tt
  simple-read (structure s) h = tt
  simple-read (language ranges) h = tt
  simple-read (state name) h = tt
  simple-read (function name argument) h = tt
  simple-read (named_element name argument) h = tt
  simple-read (nesting list) h = h
  simple-read (namespaced namespace local) h = tt

  mutual
    condition-read : (c : Condition) → IsAnswered n c → IsAnswered n (condition_in mode c)
    condition-read (simple s) h = simple-read s h
    condition-read (negation ss) h = list-read ss h
    condition-read (any_of ss) h = list-read ss h
    condition-read (where_any ss) h = list-read ss h
    condition-read (tested test ss) h = absurd h

    compound-read : (cs : Conditions) → CompoundIsAnswered n cs → CompoundIsAnswered n (compound_in mode cs)
    compound-read end_of_compound h = tt
    compound-read (with_condition c cs) h = (condition-read c h.0, compound-read cs h.1)

    complex-read : (ps : Parts) → PartsAreAnswered n ps → PartsAreAnswered n (complex_in mode ps)
    complex-read end_of_selector h = tt
    complex-read (with_part k c ps) h = (compound-read c h.0, complex-read ps h.1)

    list-read : (ss : Selectors) → ListIsAnswered n ss → ListIsAnswered n (selectors_in mode ss)
    list-read end_of_list h = tt
    list-read (with_selector s ss) h = (complex-read s h.0, list-read ss h.1)

  conditions-read : (cs : List Condition) → CompoundIsAnswered n (conditions_from cs)
      → CompoundIsAnswered n (conditions_from (map (condition_in mode) cs))
  conditions-read [] h = tt
  conditions-read (c ∷ cs) h = (condition-read c h.0, conditions-read cs h.1)

  row-read : (ps : List Part) → PartsAreAnswered n (parts_from ps)
      → PartsAreAnswered n (parts_from (map (part_in mode) ps))
  row-read [] h = tt
  row-read (p ∷ ps) h = (conditions-read p.conditions h.0, row-read ps h.1)

  pub selector-read : (s : Selector) → SelectorIsAnswered n s → SelectorIsAnswered n (html_selector mode s)
  selector-read s h = row-read s.parts h

  pub selectors-read : (ss : List Selector) → All (SelectorIsAnswered n) ss
      → All (SelectorIsAnswered n) (map (html_selector mode) ss)
  selectors-read ss h =
      All-map (SelectorIsAnswered n) (html_selector mode) ss
      (All-weaker (SelectorIsAnswered n) (λ s. SelectorIsAnswered n (html_selector mode s)) selector-read ss h)

-- ---- pages

-- a page that is marked with the lists
pub marked-for : (lists : List ListText) (selectors : List Selector) (page : Page) → AreMarked lists page
    → All (SelectorIsAnswered (length lists)) selectors → IsMarkedFor selectors page
marked-for lists selectors page are answered = (
  (lists, are),
  subst (λ n. All (SelectorIsAnswered n) selectors) (sym are.own.all) answered,
)

-- ---- selectors that one element answers

or-none : (a b : Bool) → (a || b) ≡ false → (a ≡ false) × (b ≡ false)
or-none true b h = absurd (cc)
or-none false b h = (refl, h)

simple-alone : (s : Simple) → asks_page (simple s) ≡ false → SimpleIsAnswered 0 s
simple-alone universal h = tt
simple-alone (type_name name) h = tt
simple-alone (id name) h = tt
simple-alone (class name) h = tt
simple-alone (has_attribute name) h = tt
simple-alone (attribute name comparison value ignores) h = tt
simple-alone (structure s) h = tt
simple-alone (language ranges) h = tt
simple-alone (state name) h = tt
simple-alone (function name argument) h = tt
simple-alone (named_element name argument) h = tt
simple-alone (nesting list) h = inl (zero-only list.number h)
  where
    by : (b : Bool) (k : ℕ) → (k == 0) ≡ b → not b ≡ false → k ≤ 0
    by true k e f = omega (arith, eqb-true k 0 e)
    by false k e f = absurd (cc)

    zero-only : (k : ℕ) → not (k == 0) ≡ false → k ≤ 0
    zero-only k f = by (k == 0) k refl f
simple-alone (namespaced namespace local) h = tt

mutual
  condition-alone : (c : Condition) → asks_page c ≡ false → IsAnswered 0 c
  condition-alone (simple s) h = simple-alone s h
  condition-alone (negation ss) h = (list-alone false ss h).1
  condition-alone (any_of ss) h = (list-alone false ss h).1
  condition-alone (where_any ss) h = (list-alone false ss h).1
  condition-alone (tested test ss) h = absurd (cc)

  compound-alone : (so_far : Bool) (cs : Conditions) → compound_asks_page so_far cs ≡ false
      → (so_far ≡ false) × CompoundIsAnswered 0 cs
  compound-alone so_far end_of_compound h = (h, tt)
  compound-alone so_far (with_condition c cs) h =
      let rest = compound-alone (so_far || asks_page c) cs h in
      let both = or-none so_far (asks_page c) rest.0 in
      (both.0, (condition-alone c both.1, rest.1))

  complex-alone : (so_far : Bool) (ps : Parts) → parts_ask_page so_far ps ≡ false
      → (so_far ≡ false) × PartsAreAnswered 0 ps
  complex-alone so_far end_of_selector h = (h, tt)
  complex-alone so_far (with_part k c ps) h =
      let rest = complex-alone (compound_asks_page so_far c) ps h in
      let here = compound-alone so_far c rest.0 in
      (here.0, (here.1, rest.1))

  list-alone : (so_far : Bool) (ss : Selectors) → some_ask_page so_far ss ≡ false
      → (so_far ≡ false) × ListIsAnswered 0 ss
  list-alone so_far end_of_list h = (h, tt)
  list-alone so_far (with_selector s ss) h =
      let rest = list-alone (parts_ask_page so_far s) ss h in
      let here = complex-alone so_far s rest.0 in
      (here.0, (here.1, rest.1))

selector-alone : (s : Selector) → needs_page s ≡ false → SelectorIsAnswered 0 s
selector-alone s h = (complex-alone false (parts_from s.parts) h).1

-- a page without marks answers selectors that need none
pub unmarked-for : (selectors : List Selector) (page : Page) → page.marks ≡ []
    → All (λ s. needs_page s ≡ false) selectors → IsMarkedFor selectors page
unmarked-for selectors page none alone = marked-for [] selectors page are answered
  where
    are : AreMarked [] page
    are = record {
      inside = [];
      own = record { all = ap length none; each = λ list i less. absurd (omega (arith, less)) };
      within = record { all = refl; each = λ list i less. absurd (omega (arith, less)) };
    }

    answered : All (SelectorIsAnswered 0) selectors
    answered = All-weaker (λ s. needs_page s ≡ false) (SelectorIsAnswered 0) selector-alone selectors alone
