-- Lists that have numbers ask only of those before them.
-- Serves `numbered_lists_law`.
use Rattle.std.proofs.Common.{◌&&◌, ◌≡◌, Bool, true, false, map, is_none, if◌then◌else◌, ℕ, zero, suc, ◌+◌, ◌<◌, ◌≤◌, List, [], ◌∷◌, ◌++◌, length, length-append, get_or, Option, None, Some, arith, refl, sym, ap, subst}
use Rattle.std.specs.Prelude.{All}
use Rattle.std.specs.Option.{option_map_or}
use Rattle.std.proofs.lemmas.List.Elements.{All-nil, All-cons, All-head, All-tail}
use Rattle.std.proofs.lemmas.Option.{slice_get-get_or}
use Rattle.css_selector_text.specs.Components.{Simple, Condition, Conditions, Parts, Selectors, Part, PseudoElement, Selector, conditions_from, parts_from}
use Rattle.css_selector_text.specs.Components.Simple.{universal, type_name, id, class, has_attribute, attribute, structure, language, state, function, named_element, nesting, namespaced}
use Rattle.css_selector_text.specs.Components.Condition.{simple, negation, any_of, where_any, tested}
use Rattle.css_selector_text.specs.Components.Conditions.{end_of_compound, with_condition}
use Rattle.css_selector_text.specs.Components.Parts.{end_of_selector, with_part}
use Rattle.css_selector_text.specs.Components.Selectors.{end_of_list, with_selector}
use Rattle.css_selector_text.specs.Components.{Placed}
use Rattle.css_selector_text.specs.reading.Grammar.{placed_list}
use Rattle.css_selector_text.specs.Names.{Names}
use Rattle.css_selector_text.specs.reading.Readings.{Reading, got, refused}
use Rattle.css_selector_text.specs.reading.Supported.{deepest_joined, parts_supported, is_last_condition, is_plain_element, is_supported_selector, first_unsupported, if_all, supported_readings, supported_list}
use Rattle.css_selectors.specs.MarkedLists.{ListText}
use Rattle.css_selectors.specs.MarkedLists.ListText.{matched, tested as tested_list}
use Rattle.css_selectors.specs.Numberings.{NumberingText, Numbered, one_then, number_of, numbered_simple, numbered_condition, numbered_compound, numbered_complex, numbered_list, numbered_conditions, numbered_part, numbered_parts, numbered_element, element_with, made_of, selector_with, numbered_parts_and_element, numbered_selector, numbered_selectors, with_list, with_numbered, with_each_list, no_lists, no_list}
use Rattle.css_sheet.specs.SheetOrder.{SheetRuleText, cascade_rules, nested_lists}
use Rattle.css_sheet.specs.Sheets.{SheetText}
use Rattle.css_styles.specs.NumberedRules.{numbered_rule, numbered_rules, numbered_sheets}
use Rattle.css_tree.specs.Asked.{SimpleAsksBelow, AsksBelow, CompoundAsksBelow, PartsAskBelow, ListAsksBelow, SelectorAsksBelow, MarkedAsksBelow, AskBefore}
use Rattle.css_laws.proofs.ListLemmas.{each-of-more}
use Rattle.css_laws.proofs.ChainedLists.{lists-earlier, lists-plain, rules-ask}
use Rattle.css_laws.proofs.OutermostLemmas.{list-asks as read-asks}

-- ---- of a greater number more is less

module _ (m n : ℕ) (more : m ≤ n) where
  simple-more : (s : Simple) → SimpleAsksBelow m s → SimpleAsksBelow n s
  simple-more universal h = tt
  simple-more (type_name name) h = tt
  simple-more (id name) h = tt
  simple-more (class name) h = tt
  simple-more (has_attribute name) h = tt
  simple-more (attribute name comparison value ignores) h = tt
  simple-more (structure s) h = tt
  simple-more (language ranges) h = tt
  simple-more (state name) h = tt
  simple-more (function name argument) h = tt
  simple-more (named_element name argument) h = tt
  simple-more (nesting list) h = omega (arith, h, more)
  simple-more (namespaced namespace local) h = tt

  mutual
    condition-more : (c : Condition) → AsksBelow m c → AsksBelow n c
    condition-more (simple s) h = simple-more s h
    condition-more (negation ss) h = list-more ss h
    condition-more (any_of ss) h = list-more ss h
    condition-more (where_any ss) h = list-more ss h
    condition-more (tested test ss) h = list-more ss h

    compound-more : (cs : Conditions) → CompoundAsksBelow m cs → CompoundAsksBelow n cs
    compound-more end_of_compound h = tt
    compound-more (with_condition c cs) h = (condition-more c h.0, compound-more cs h.1)

    parts-more : (ps : Parts) → PartsAskBelow m ps → PartsAskBelow n ps
    parts-more end_of_selector h = tt
    parts-more (with_part k c ps) h = (compound-more c h.0, parts-more ps h.1)

    list-more : (ss : Selectors) → ListAsksBelow m ss → ListAsksBelow n ss
    list-more end_of_list h = tt
    list-more (with_selector s ss) h = (parts-more s h.0, list-more ss h.1)

-- ---- what is numbered

-- Lists were appended, each of which asks only of those before it; and what was made asks only of lists that
-- are there.
pub record Asks {A : Type 0} (P : ℕ → A → Type 0) (lists : List ListText) (made : Numbered A) : Type 0 where
  pub grows : length lists ≤ length made.1
  pub before : AskBefore lists → AskBefore made.1
  pub asks : P (suc (length made.1)) made.0

-- one more list
with_one : (lists : List ListText) (list : ListText) → AskBefore lists
    → MarkedAsksBelow (suc (length lists)) list → AskBefore (lists ++ list ∷ [])
with_one lists list before asks =
    each-of-more (matched []) lists list (λ k l. MarkedAsksBelow (suc k) l) before asks

then-asks : {A B C : Type 0} (P : ℕ → A → Type 0) (Q : ℕ → B → Type 0) (R : ℕ → C → Type 0)
    (make : A → B → C) → ((m n : ℕ) → m ≤ n → (x : A) → P m x → P n x)
    → ((n : ℕ) (x : A) (y : B) → P n x → Q n y → R n (make x y))
    → (lists : List ListText) (one : Numbered A) (next : List ListText → Numbered B)
    → Asks P lists one → Asks Q one.1 (next one.1) → Asks R lists (one_then make one next)
then-asks P Q R make more join lists one next a b = record {
  grows = omega (arith, a.grows, b.grows);
  before = λ h. b.before (a.before h);
  asks = join (suc (length (next one.1).1)) one.0 (next one.1).0
      (more (suc (length one.1)) (suc (length (next one.1).1)) (omega (arith, b.grows)) one.0 a.asks)
      b.asks;
}

nothing-asks : {A : Type 0} (P : ℕ → A → Type 0) (lists : List ListText) (x : A)
    → P (suc (length lists)) x → Asks P lists (x, lists)
nothing-asks P lists x h = record { grows = omega arith; before = λ b. b; asks = h }

-- Where the lists that `&` denotes have numbers up to `m`.
module _ (numbers : List ℕ) (m : ℕ)
    (are : (k : ℕ) → k < suc (length numbers) → number_of numbers k < suc m) where
  abbrev limit : ℕ
  limit = suc (length numbers)

  simple-asks : (lists : List ListText) → m ≤ length lists → (s : Simple) → SimpleAsksBelow limit s
      → SimpleAsksBelow (suc (length lists)) (numbered_simple numbers s)
  simple-asks lists le universal h = tt
  simple-asks lists le (type_name name) h = tt
  simple-asks lists le (id name) h = tt
  simple-asks lists le (class name) h = tt
  simple-asks lists le (has_attribute name) h = tt
  simple-asks lists le (attribute name comparison value ignores) h = tt
  simple-asks lists le (structure s) h = tt
  simple-asks lists le (language ranges) h = tt
  simple-asks lists le (state name) h = tt
  simple-asks lists le (function name argument) h = tt
  simple-asks lists le (named_element name argument) h = tt
  simple-asks lists le (nesting list) h = omega (arith, are list.number h, le)
  simple-asks lists le (namespaced namespace local) h = tt

  mutual
    condition-asks : (lists : List ListText) → m ≤ length lists → (c : Condition) → AsksBelow limit c
        → Asks AsksBelow lists (numbered_condition numbers lists c)
    condition-asks lists le (simple s) h =
        nothing-asks AsksBelow lists (simple (numbered_simple numbers s)) (simple-asks lists le s h)
    condition-asks lists le (negation ss) h =
        let a = list-asks lists le ss h in
        record { grows = a.grows; before = a.before; asks = a.asks }
    condition-asks lists le (any_of ss) h =
        let a = list-asks lists le ss h in
        record { grows = a.grows; before = a.before; asks = a.asks }
    condition-asks lists le (where_any ss) h =
        let a = list-asks lists le ss h in
        record { grows = a.grows; before = a.before; asks = a.asks }
    condition-asks lists le (tested test ss) h =
        let a = list-asks lists le ss h in
        let made = numbered_list numbers lists ss in
        let longer = length-append made.1 (tested_list test made.0 ∷ []) in
        record {
          grows = omega (arith, a.grows, longer);
          before = λ b. with_one made.1 (tested_list test made.0) (a.before b) a.asks;
          asks = omega (arith, longer);
        }

    compound-asks : (lists : List ListText) → m ≤ length lists → (cs : Conditions)
        → CompoundAsksBelow limit cs
        → Asks CompoundAsksBelow lists (numbered_compound numbers lists cs)
    compound-asks lists le end_of_compound h =
        nothing-asks CompoundAsksBelow lists end_of_compound tt
    compound-asks lists le (with_condition c cs) h =
        let a = condition-asks lists le c h.0 in
        let one = numbered_condition numbers lists c in
        then-asks AsksBelow CompoundAsksBelow CompoundAsksBelow with_condition
        condition-more (λ n x y p q. (p, q)) lists one (λ more. numbered_compound numbers more cs)
        a (compound-asks one.1 (omega (arith, le, a.grows)) cs h.1)

    complex-asks : (lists : List ListText) → m ≤ length lists → (ps : Parts) → PartsAskBelow limit ps
        → Asks PartsAskBelow lists (numbered_complex numbers lists ps)
    complex-asks lists le end_of_selector h = nothing-asks PartsAskBelow lists end_of_selector tt
    complex-asks lists le (with_part k c ps) h =
        let a = compound-asks lists le c h.0 in
        let one = numbered_compound numbers lists c in
        then-asks CompoundAsksBelow PartsAskBelow PartsAskBelow (with_part k)
        compound-more (λ n x y p q. (p, q)) lists one (λ more. numbered_complex numbers more ps)
        a (complex-asks one.1 (omega (arith, le, a.grows)) ps h.1)

    list-asks : (lists : List ListText) → m ≤ length lists → (ss : Selectors) → ListAsksBelow limit ss
        → Asks ListAsksBelow lists (numbered_list numbers lists ss)
    list-asks lists le end_of_list h = nothing-asks ListAsksBelow lists end_of_list tt
    list-asks lists le (with_selector s ss) h =
        let a = complex-asks lists le s h.0 in
        let one = numbered_complex numbers lists s in
        then-asks PartsAskBelow ListAsksBelow ListAsksBelow with_selector
        parts-more (λ n x y p q. (p, q)) lists one (λ more. numbered_list numbers more ss)
        a (list-asks one.1 (omega (arith, le, a.grows)) ss h.1)

  abbrev ConditionsAsk : ℕ → List Condition → Type 0
  ConditionsAsk n cs = CompoundAsksBelow n (conditions_from cs)

  abbrev PartAsks : ℕ → Part → Type 0
  PartAsks n p = ConditionsAsk n p.conditions

  abbrev RowAsks : ℕ → List Part → Type 0
  RowAsks n ps = PartsAskBelow n (parts_from ps)

  conditions-ask : (lists : List ListText) → m ≤ length lists → (cs : List Condition)
      → ConditionsAsk limit cs → Asks ConditionsAsk lists (numbered_conditions numbers lists cs)
  conditions-ask lists le [] h = nothing-asks ConditionsAsk lists [] tt
  conditions-ask lists le (c ∷ cs) h =
      let a = condition-asks lists le c h.0 in
      let one = numbered_condition numbers lists c in
      then-asks AsksBelow ConditionsAsk ConditionsAsk (λ y ys. y ∷ ys)
      condition-more (λ n x y p q. (p, q)) lists one (λ more. numbered_conditions numbers more cs)
      a (conditions-ask one.1 (omega (arith, le, a.grows)) cs h.1)

  part-asks : (lists : List ListText) → m ≤ length lists → (p : Part) → PartAsks limit p
      → Asks PartAsks lists (numbered_part numbers lists p)
  part-asks lists le p h =
      let a = conditions-ask lists le p.conditions h in
      record { grows = a.grows; before = a.before; asks = a.asks }

  row-asks : (lists : List ListText) → m ≤ length lists → (ps : List Part) → RowAsks limit ps
      → Asks RowAsks lists (numbered_parts numbers lists ps)
  row-asks lists le [] h = nothing-asks RowAsks lists [] tt
  row-asks lists le (p ∷ ps) h =
      let a = part-asks lists le p h.0 in
      let one = numbered_part numbers lists p in
      then-asks PartAsks RowAsks RowAsks (λ y ys. y ∷ ys)
      (λ i j le x. compound-more i j le (conditions_from x.conditions)) (λ n x y p q. (p, q)) lists one
      (λ more. numbered_parts numbers more ps)
      a (row-asks one.1 (omega (arith, le, a.grows)) ps h.1)

-- ---- selectors

-- nothing follows the pseudo-element, if there is one
abbrev pub IsBare : Option PseudoElement → Type 0
IsBare None = Unit {0}
IsBare (Some e) = e.after ≡ []

-- it asks only of lists before this number, and nothing follows its pseudo-element
abbrev pub Plain : ℕ → Selector → Type 0
Plain n s = SelectorAsksBelow n s × IsBare s.pseudo_element

plain-more : (m n : ℕ) → m ≤ n → (s : Selector) → Plain m s → Plain n s
plain-more m n le s h = (parts-more m n le (parts_from s.parts) h.0, h.1)

-- The lists that `&` denotes are there, and each list asks only of those before it.
pub record Ordered (n : NumberingText) : Type 0 where
  pub numbers : (k : ℕ) → k < length n.numbers → get_or n.numbers k no_list < suc (length n.lists)
  pub lists : AskBefore n.lists

numbers-are : (n : NumberingText) → Ordered n → (k : ℕ) → k < suc (length n.numbers)
    → number_of n.numbers k < suc (length n.lists)
numbers-are n o zero less = omega arith
numbers-are n o (suc k) less =
    let within : k < length n.numbers = omega (arith, less) in
    subst (λ number. option_map_or (λ x. x) number no_list < suc (length n.lists))
    (sym (slice_get-get_or n.numbers k no_list within)) (o.numbers k within)

selector-asks : (n : NumberingText) → Ordered n → (s : Selector) → Plain (suc (length n.numbers)) s
    → Asks Plain n.lists (numbered_parts_and_element n.numbers n.lists s)
selector-asks n o s h = by s.pseudo_element h.1
  where
    a : Asks (λ n ps. PartsAskBelow n (parts_from ps)) n.lists (numbered_parts n.numbers n.lists s.parts)
    a = row-asks n.numbers (length n.lists) (numbers-are n o) n.lists (omega arith) s.parts h.0

    followed : (e : PseudoElement) (cs : List Condition) → cs ≡ []
        → Asks Plain n.lists (one_then selector_with (numbered_parts n.numbers n.lists s.parts)
        (λ more. made_of (element_with e) (numbered_conditions n.numbers more cs)))
    followed e [] f = record { grows = a.grows; before = a.before; asks = (a.asks, refl) }
    followed e (c ∷ cs) f = absurd (cc)

    by : (e : Option PseudoElement) → IsBare e
        → Asks Plain n.lists (one_then selector_with (numbered_parts n.numbers n.lists s.parts)
        (λ more. numbered_element n.numbers more e))
    by None f = record { grows = a.grows; before = a.before; asks = (a.asks, tt) }
    by (Some e) f = followed e e.after f

-- What was made asks only of lists that are there after it, which are in order.
pub record After {A : Type 0} (P : ℕ → A → Type 0) (n : NumberingText) (made : A) (after : NumberingText) : Type 0 where
  pub grows : length n.lists ≤ length after.lists
  pub ordered : Ordered after
  pub asks : P (suc (length after.lists)) made

numbered-after : (n : NumberingText) → Ordered n → (s : Selector) → Plain (suc (length n.numbers)) s
    → After Plain n (numbered_selector n s).0 (numbered_selector n s).1
numbered-after n o s h =
    let a = selector-asks n o s h in
    record {
      grows = a.grows;
      ordered = record {
        numbers = λ k less. omega (arith, o.numbers k less, a.grows);
        lists = a.before o.lists;
      };
      asks = a.asks;
    }

abbrev pub AllPlain : ℕ → List Selector → Type 0
AllPlain n = All (Plain n)

pub numbered-all : (n : NumberingText) → Ordered n → (ss : List Selector)
    → AllPlain (suc (length n.numbers)) ss
    → After AllPlain n (numbered_selectors n ss).0 (numbered_selectors n ss).1
numbered-all n o [] h = record { grows = omega arith; ordered = o; asks = All-nil (Plain (suc (length n.lists))) }
numbered-all n o (s ∷ ss) h =
    let limit = suc (length n.numbers) in
    let a = numbered-after n o s (All-head (Plain limit) s ss h) in
    let next = (numbered_selector n s).1 in
    let b = numbered-all next a.ordered ss (All-tail (Plain limit) s ss h) in
    let last = (numbered_selectors next ss).1 in
    record {
      grows = omega (arith, a.grows, b.grows);
      ordered = b.ordered;
      asks = All-cons (Plain (suc (length last.lists))) (numbered_selector n s).0
          (numbered_selectors next ss).0
          (plain-more (suc (length next.lists)) (suc (length last.lists)) (omega (arith, b.grows))
          (numbered_selector n s).0 a.asks)
          b.asks;
    }

-- ---- lists that `&` denotes

-- The numbers stay where selectors are numbered.
selectors-keep : (n : NumberingText) (ss : List Selector)
    → (numbered_selectors n ss).1.numbers ≡ n.numbers
selectors-keep n [] = refl
selectors-keep n (s ∷ ss) = selectors-keep (numbered_selector n s).1 ss

with-ordered : (n : NumberingText) (list : List Selector) → Ordered n
    → AllPlain (suc (length n.lists)) list → Ordered (with_list n list)
with-ordered n list o h =
    let longer = length-append n.lists (matched list ∷ []) in
    record {
      numbers = each-of-more no_list n.numbers (length n.lists + 1)
          (λ k x. x < suc (length (n.lists ++ matched list ∷ [])))
          (λ k less. omega (arith, o.numbers k less, longer)) (omega (arith, longer));
      lists = with_one n.lists (matched list) o.lists (λ k d less. (h k d less).0);
    }

-- what the lists ask that are appended one after another, after so many
abbrev pub InTurn : ℕ → List (List Selector) → Type 0
InTurn count lists =
    (k : ℕ) → k < length lists → AllPlain (suc (count + k)) (get_or lists k [])

pub record AllThere (count : ℕ) (n : NumberingText) : Type 0 where
  pub ordered : Ordered n
  pub numbers : length n.numbers ≡ count

each-ordered : (lists : List (List Selector)) (n : NumberingText) → Ordered n
    → InTurn (length n.numbers) lists
    → AllThere (length n.numbers + length lists) (with_each_list n lists)
each-ordered [] n o h = record { ordered = o; numbers = omega arith }
each-ordered (list ∷ lists) n o h =
    let zero_more : length n.numbers + 0 ≡ length n.numbers = omega arith in
    let first : AllPlain (suc (length n.numbers)) list =
    subst (λ (m : ℕ). AllPlain (suc m) list) zero_more (h 0 (omega arith)) in
    let a = numbered-all n o list first in
    let made = numbered_selectors n list in
    let next = with_numbered made in
    let ordered : Ordered next = with-ordered made.1 made.0 a.ordered a.asks in
    let one : length next.numbers ≡ length n.numbers + 1 =
    omega (
      arith,
      ap length (selectors-keep n list),
      length-append made.1.numbers ((length made.1.lists + 1) ∷ []),
    ) in
    let rest = each-ordered lists next ordered (λ k less.
    let at : length n.numbers + suc k ≡ length next.numbers + k = omega (arith, one) in
    subst (λ (m : ℕ). AllPlain (suc m) (get_or lists k [])) at (h (suc k) (omega (arith, less)))) in
    record {
      ordered = rest.ordered;
      numbers = omega (arith, rest.numbers, one);
    }

none-ordered : Ordered no_lists
none-ordered = record {
  numbers = λ k less. absurd (omega (arith, less));
  lists = λ k less. absurd (omega (arith, less));
}

-- ---- selectors of a list

and-right : (a b : Bool) → (a && b) ≡ true → b ≡ true
and-right true b h = h
and-right false b h = absurd (cc)

bare-of : (e : Option PseudoElement) → is_plain_element e ≡ true → IsBare e
bare-of None h = tt
bare-of (Some e) h = last e.after (and-right (is_none e.argument) (is_last_condition e.after) h)
  where
    last : (cs : List Condition) → is_last_condition cs ≡ true → cs ≡ []
    last [] f = refl
    last (c ∷ cs) f = absurd (cc)

supported-bare : (s : Selector) → is_supported_selector s ≡ true → IsBare s.pseudo_element
supported-bare s h =
    bare-of s.pseudo_element
    (and-right (parts_supported deepest_joined true (parts_from s.parts))
    (is_plain_element s.pseudo_element) h)

-- of which none is unsupported
listed-plain : (n : ℕ) (all : List Placed) → All (λ p. SelectorAsksBelow n p.selector) all
    → first_unsupported all ≡ None → AllPlain n (map (λ p. p.selector) all)
listed-plain n [] asks h = All-nil (Plain n)
listed-plain n (p ∷ all) asks h =
    by (is_supported_selector p.selector) refl h
    (listed-plain n all (All-tail (λ q. SelectorAsksBelow n q.selector) p all asks))
  where
    A : Placed → Type 0
    A q = SelectorAsksBelow n q.selector

    by : (t : Bool) → is_supported_selector p.selector ≡ t
        → (if t then first_unsupported all else Some p.from) ≡ None
        → (first_unsupported all ≡ None → AllPlain n (map (λ q. q.selector) all))
        → AllPlain n (map (λ q. q.selector) (p ∷ all))
    by true e f more =
        All-cons (Plain n) p.selector (map (λ q. q.selector) all)
        (All-head A p all asks, supported-bare p.selector e)
        (more f)
    by false e f more = absurd (cc)

pub supported-plain : (names : Names) (text rest : List ℕ) (all : List Selector)
    → supported_list names text ≡ got all rest → AllPlain 1 all
supported-plain names text rest all e = by (placed_list names text) refl e
  where
    some : (found : List Placed) (u : List ℕ) → placed_list names text ≡ got found u
        → (o : Option (List ℕ)) → first_unsupported found ≡ o → if_all found u o ≡ got all rest
        → AllPlain 1 all
    some found u r None f g =
        let is : map (λ p. p.selector) found ≡ all = cc in
        subst (AllPlain 1) is
        (listed-plain 1 found (read-asks names 1 (omega arith) text u found r) f)
    some found u r (Some from) f g = absurd (cc)

    by : (r : Reading (List Placed)) → placed_list names text ≡ r → supported_readings r ≡ got all rest
        → AllPlain 1 all
    by (got found u) r g = some found u r (first_unsupported found) refl g
    by (refused why u) r g = absurd (cc)

module _ (names : Names) (text rest : List ℕ) (all : List Selector)
    (read : supported_list names text ≡ got all rest) where
  listed-after : After AllPlain no_lists (numbered_selectors no_lists all).0
      (numbered_selectors no_lists all).1
  listed-after = numbered-all no_lists none-ordered all (supported-plain names text rest all read)

  pub list_lists-before : AskBefore (numbered_selectors no_lists all).1.lists
  list_lists-before = listed-after.ordered.lists

  pub list_selectors-ask :
      All (SelectorAsksBelow (suc (length (numbered_selectors no_lists all).1.lists)))
      (numbered_selectors no_lists all).0
  list_selectors-ask k d less = (listed-after.asks k d less).0

-- ---- rules

abbrev pub RulePlain : ℕ → SheetRuleText → Type 0
RulePlain n rule = Plain n rule.selector

abbrev pub AllRules : ℕ → List SheetRuleText → Type 0
AllRules n = All (RulePlain n)

rules-after : (n : NumberingText) → Ordered n → (rules : List SheetRuleText)
    → AllRules (suc (length n.numbers)) rules
    → After AllRules n (numbered_rules n rules).0 (numbered_rules n rules).1
rules-after n o [] h = record { grows = omega arith; ordered = o; asks = All-nil (RulePlain (suc (length n.lists))) }
rules-after n o (rule ∷ rules) h =
    let limit = suc (length n.numbers) in
    let a = numbered-after n o rule.selector (All-head (RulePlain limit) rule rules h) in
    let next = (numbered_rule n rule).1 in
    let b = rules-after next a.ordered rules (All-tail (RulePlain limit) rule rules h) in
    let last = (numbered_rules next rules).1 in
    record {
      grows = omega (arith, a.grows, b.grows);
      ordered = b.ordered;
      asks = All-cons (RulePlain (suc (length last.lists))) (numbered_rule n rule).0
          (numbered_rules next rules).0
          (plain-more (suc (length next.lists)) (suc (length last.lists)) (omega (arith, b.grows))
          (numbered_rule n rule).0.selector a.asks)
          b.asks;
    }

-- ---- sheets

plain-of : (n : ℕ) (s : Selector) → SelectorAsksBelow n s → s.pseudo_element ≡ None → Plain n s
plain-of n s asks none = (asks, subst IsBare (sym none) tt)

module _ (holds : List ℕ → List ℕ → Bool) (sheets : List SheetText) where
  abbrev nested : List (List Selector)
  nested = nested_lists holds sheets

  nested-there : AllThere (length nested) (with_each_list no_lists nested)
  nested-there =
      let there = each-ordered nested no_lists none-ordered (λ k less.
      let none_before : k ≡ 0 + k = omega arith in
      subst (λ (m : ℕ). AllPlain (suc m) (get_or nested k [])) none_before
      (λ i d within. plain-of (suc k) (get_or (get_or nested k []) i d)
      (lists-earlier holds sheets k less i d within) (lists-plain holds sheets k less i d within))) in
      record { ordered = there.ordered; numbers = omega (arith, there.numbers) }

  rules-plain-below : AllRules (suc (length nested)) (cascade_rules holds sheets)
  rules-plain-below k d less =
      let asks = rules-ask holds sheets k d less in
      plain-of (suc (length nested)) (get_or (cascade_rules holds sheets) k d).selector asks.0 asks.1

  all-after : After AllRules (with_each_list no_lists nested)
      (numbered_sheets nested (cascade_rules holds sheets)).0
      (numbered_sheets nested (cascade_rules holds sheets)).1
  all-after =
      let there = nested-there in
      rules-after (with_each_list no_lists nested) there.ordered (cascade_rules holds sheets)
      (subst (λ (n : ℕ). AllRules (suc n) (cascade_rules holds sheets)) (sym there.numbers)
      rules-plain-below)

  pub sheet_lists-before : AskBefore (numbered_sheets nested (cascade_rules holds sheets)).1.lists
  sheet_lists-before = all-after.ordered.lists

  pub sheet_rules-ask :
      All (λ rule. SelectorAsksBelow
      (suc (length (numbered_sheets nested (cascade_rules holds sheets)).1.lists)) rule.selector)
      (numbered_sheets nested (cascade_rules holds sheets)).0
  sheet_rules-ask k d less = (all-after.asks k d less).0
