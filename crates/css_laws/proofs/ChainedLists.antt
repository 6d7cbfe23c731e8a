-- The lists of nested rules ask only of those before them, and the rules only of the lists.
-- Serves `nested_lists_law`.
use Rattle.std.proofs.Common.{◌&&◌, ◌≡◌, ℕ, zero, suc, ◌+◌, ◌-◌, ◌<◌, ◌≤◌, ◌==◌, Bool, true, false, List, [], ◌∷◌, ◌++◌, length, length-append, map, get_or, Option, Some, None, Result, Ok, Err, arith, refl, sym, ap, ◌∙◌, subst, if◌then◌else◌, ◌⊎◌, inl, inr}
use Rattle.std.specs.Prelude.{All}
use Rattle.std.specs.List.{filter_map, cons_option, slice_get, find, enumerate_from, range_with_len}
use Rattle.std.specs.Option.{option_map}
use Rattle.std.proofs.lemmas.List.{get_or_append_left, get_or-append-add}
use Rattle.std.proofs.lemmas.List.Elements.{All-nil, All-cons, All-head, All-tail, All-append, All-map, All-take}
use Rattle.std.proofs.lemmas.Option.{slice_get_cases}
use Rattle.css_text.specs.Ranks.{of_rank, rank_by, ordered_by}
use Rattle.css_syntax.specs.declared.quality.Fault.{Fault}
use Rattle.css_syntax.specs.Parts.{Stated}
use Rattle.css_syntax.specs.Qualities.{is_good, fault_of}
use Rattle.css_cascade.specs.Layers.{LayerText}
use Rattle.css_selector_text.specs.declared.components.Nesting.{Nesting}
use Rattle.css_selector_text.specs.Components.{Placed, PseudoElement, Selector}
use Rattle.css_selector_text.specs.reading.Nested.{absolute, nested, nested_readings}
use Rattle.css_selector_text.specs.Originating.{originating}
use Rattle.css_selector_text.specs.reading.Readings.{Reading, got, refused}
use Rattle.css_selector_text.specs.Names.{Names}
use Rattle.css_selector_text.specs.reading.Supported.{is_last_condition, is_supported_selector}
use Rattle.css_tree.specs.Asked.{SelectorAsksBelow, AskEarlier}
use Rattle.css_sheet.specs.RuleSelectors.{SelectorRead, ListContext, is_listed, listed_under, if_supported, element_read, read_with, selector_read, list_by, list_under, listed_or, all_read, selectors_under}
use Rattle.css_sheet.specs.NestedSelectors.{if_of_elements, element_selector, element_selectors}
use Rattle.css_sheet.specs.SheetItems.{is_layer}
use Rattle.css_sheet.specs.OpenParents.{OwnList, unread, valid, numbered, Parent, no_rule, dropped, style, checked, checked_for, if_listed, ParentsText, none_open, with_selectors, with_list_of, with_list, parent_in, entered, begun, or_same, left_last, left_innermost, before_rule, after_part_of, after_part, after_parts}
use Rattle.css_sheet.specs.SheetParts.{OpenText, RuleKind, style_rule, group_rule, SheetPart, states, begins, ends, stands, PlacedPart, applies_in}
use Rattle.css_cascade.specs.declared.weights.Origin.TheVariants.{Author}
use Rattle.css_sheet.specs.SheetOrder.{SheetRuleText, RunText, rule_with, unless_invalid, declaration_count, stated_rules, run_at, rules_if_stated, placed_rules, rules_of_parts, numbered_rules, nested_lists, is_before, ranked, source_rules, cascade_rules}
use Rattle.css_sheet.specs.Sheets.{SheetText, outermost_at}
use Rattle.css_sheet.specs.SheetLayers.{number_in_all, layered_parts, sheet_layers}
use Rattle.css_laws.proofs.ListLemmas.{each-of-more}
use Rattle.css_laws.proofs.OutermostLemmas.{list-asks}
use Rattle.css_laws.proofs.AskLemmas.{selector-under, originating-asks}

-- ---- lists

-- what holds of what a function gives of each
given-all : {A B : Type 0} (P : B → Type 0) (f : A → Option B) (xs : List A)
    → All (λ x. (y : B) → f x ≡ Some y → P y) xs → All P (filter_map f xs)
given-all P f [] h = All-nil P
given-all {A = A} {B = B} P f (x ∷ xs) h =
    by (f x) (All-head (λ x. (y : B) → f x ≡ Some y → P y) x xs h)
    (given-all P f xs (All-tail (λ x. (y : B) → f x ≡ Some y → P y) x xs h))
  where
    by : (o : Option B) → ((y : B) → o ≡ Some y → P y) → All P (filter_map f xs)
        → All P (cons_option o (filter_map f xs))
    by None k more = more
    by (Some y) k more = All-cons P y (filter_map f xs) (k y refl) more

found-all : {A : Type 0} (P : A → Type 0) (test : ℕ × A → Bool) (i : ℕ) (xs : List A) → All P xs
    → (y : A) → option_map (λ p. p.1) (find test (enumerate_from i xs)) ≡ Some y → P y
found-all P test i [] h y e = absurd (cc)
found-all {A = A} P test i (x ∷ xs) h y e =
    by (test (i, x)) e (found-all P test (i + 1) xs (All-tail P x xs h) y)
  where
    by : (t : Bool) → option_map (λ p. p.1) (if t then Some (i, x)
        else find test (enumerate_from (i + 1) xs)) ≡ Some y
        → (option_map (λ p. p.1) (find test (enumerate_from (i + 1) xs)) ≡ Some y → P y) → P y
    by true f more = let is : x ≡ y = cc in subst P is (All-head P x xs h)
    by false f more = more f

some-same : {A : Type 0} (x y : A) → Some x ≡ Some y → x ≡ y
some-same x y e = cc

every : {A : Type 0} (P : A → Type 0) → ((x : A) → P x) → (xs : List A) → All P xs
every P f [] = All-nil P
every P f (x ∷ xs) = All-cons P x xs (f x) (every P f xs)

ordered-all : {A : Type 0} (P : A → Type 0) (lt : A → A → Bool) (xs : List A) → All P xs
    → All P (ordered_by lt xs)
ordered-all {A = A} P lt xs h =
    given-all P (of_rank lt xs) (range_with_len 0 (length xs))
    (every (λ k. (y : A) → of_rank lt xs k ≡ Some y → P y)
    (λ k y e. found-all P (λ p. rank_by lt xs p.0 p.1 == k) 0 xs h y e)
    (range_with_len 0 (length xs)))

-- ---- a selector that is read

-- What a selector of a rule asks, and that it has no pseudo-element.
pub record GoodRead (n : ℕ) (read : SelectorRead) : Type 0 where
  pub asks : (s : Selector) → read.selector ≡ Some s → SelectorAsksBelow n s
  pub plain : (s : Selector) → read.selector ≡ Some s → s.pseudo_element ≡ None

supported-is : (s t : Selector) → if_supported s ≡ Some t → s ≡ t
supported-is s t = by (is_supported_selector s)
  where
    by : (k : Bool) → (if k then Some s else None) ≡ Some t → s ≡ t
    by true e = cc
    by false e = absurd (cc)

read-good : (n : ℕ) (p : Placed) → SelectorAsksBelow n p.selector → GoodRead n (selector_read p)
read-good n p h = by p.selector.pseudo_element refl
  where
    last : (e : PseudoElement) (t : Bool) → GoodRead n (if t then element_read p
        else record { text = (element_read p).text; selector = None; pseudo_element = None })
    last e true = record {
      asks = λ s f. subst (SelectorAsksBelow n) (supported-is (originating p.selector) s f)
          (originating-asks n p.selector h);
      plain = λ s f.
          subst (λ (t : Selector). t.pseudo_element ≡ None)
          (supported-is (originating p.selector) s f) refl;
    }
    last e false = record { asks = λ s f. absurd (cc); plain = λ s f. absurd (cc) }

    by : (o : Option PseudoElement) → p.selector.pseudo_element ≡ o → GoodRead n (read_with p o)
    by None e = record {
      asks = λ s f. subst (SelectorAsksBelow n) (supported-is p.selector s f) h;
      plain = λ s f.
          subst (λ (t : Selector). t.pseudo_element ≡ None) (supported-is p.selector s f) e;
    }
    by (Some e) f = last e (is_last_condition e.after)

-- ---- the list of a rule

-- a list that was read before this number
abbrev pub NestingBelow : ℕ → Option Nesting → Type 0
NestingBelow n None = Unit {0}
NestingBelow n (Some list) = list.number < n

module _ (m : ℕ) where
  abbrev AskAll : List Placed → Type 0
  AskAll all = All (λ p. SelectorAsksBelow (suc m) p.selector) all

  nested-asks : (names : Names) (list : Nesting) → list.number < suc m → (all : List Placed)
      → AskAll (map (nested names list) all)
  nested-asks names list below all =
      All-map (λ p. SelectorAsksBelow (suc m) p.selector) (nested names list) all
      (every _ (λ p. selector-under list (suc m) below (absolute names p)) all)

  under-asks : (names : Names) (under : Option Nesting) → NestingBelow (suc m) under
      → (text rest : List ℕ) (all : List Placed) → list_by names under text ≡ got all rest → AskAll all
  under-asks names None below text rest all e =
      list-asks names (suc m) (omega arith) text rest all e
  under-asks names (Some list) below text rest all e = by _ e
    where
      by : (r : Reading (List Placed)) → nested_readings names list r ≡ got all rest → AskAll all
      by (got found t) f =
          let is : map (nested names list) found ≡ all = cc in
          subst AskAll is (nested-asks names list below found)
      by (refused why t) f = absurd (cc)

  listed-asks : (under : ListContext) → NestingBelow (suc m) under.list → (text : List ℕ)
      (all : List Placed) → listed_or (list_under under text) ≡ Ok all → AskAll all
  listed-asks under below text all e = by (list_under under text) refl e
    where
      by : (r : Reading (List Placed)) → list_under under text ≡ r → listed_or r ≡ Ok all
          → AskAll all
      by (got found t) f g =
          let is : found ≡ all = cc in
          subst AskAll is (under-asks under.names under.list below text t found f)
      by (refused why t) f g = absurd (cc)

  pub reads-good : (under : ListContext) → NestingBelow (suc m) under.list → (prelude : Stated)
      (reads : List SelectorRead) → selectors_under under prelude ≡ Ok reads
      → All (GoodRead (suc m)) reads
  reads-good under below prelude reads e = by (is_good prelude.quality) e
    where
      all : (r : Result (List Placed) Fault) → ((found : List Placed) → r ≡ Ok found → AskAll found)
          → all_read r ≡ Ok reads → All (GoodRead (suc m)) reads
      all (Ok found) asks f =
          let is : map selector_read found ≡ reads = cc in
          subst (All (GoodRead (suc m))) is
          (All-map (GoodRead (suc m)) selector_read found
          (λ k d less. read-good (suc m) (get_or found k d) (asks found refl k d less)))
      all (Err fault) asks f = absurd (cc)

      by : (t : Bool) → all_read (if t then listed_or (list_under under prelude.text)
          else Err (fault_of prelude.quality)) ≡ Ok reads → All (GoodRead (suc m)) reads
      by true f = all (listed_or (list_under under prelude.text))
          (λ found g. listed-asks under below prelude.text found g) f
      by false f = absurd (cc)

-- ---- rules that are open

-- what is known of a list, whose number is at most this one, if it has one
pub OwnWithin : ℕ → OwnList → Type 0
OwnWithin m unread = Unit {0}
OwnWithin m valid = Unit {0}
OwnWithin m (numbered own) = NestingBelow (suc m) (Some own)

-- a rule that has lists with numbers up to this one
pub ParentWithin : ℕ → Parent → Type 0
ParentWithin m no_rule = Unit {0}
ParentWithin m dropped = Unit {0}
ParentWithin m (style prelude under own) = NestingBelow (suc m) under.list × OwnWithin m own

pub OuterWithin : ℕ → Option Parent → Type 0
OuterWithin m None = Unit {0}
OuterWithin m (Some parent) = ParentWithin m parent

nesting-more : (m n : ℕ) (o : Option Nesting) → m ≤ n → NestingBelow (suc m) o
    → NestingBelow (suc n) o
nesting-more m n None h b = tt
nesting-more m n (Some list) h b = omega (arith, h, b)

own-more : (m n : ℕ) (own : OwnList) → m ≤ n → OwnWithin m own → OwnWithin n own
unfolding OwnWithin
own-more m n unread h w = tt
own-more m n valid h w = tt
own-more m n (numbered own) h w = nesting-more m n (Some own) h w

parent-more : (m n : ℕ) (p : Parent) → m ≤ n → ParentWithin m p → ParentWithin n p
unfolding ParentWithin
parent-more m n no_rule h w = tt
parent-more m n dropped h w = tt
parent-more m n (style prelude under own) h w =
    (nesting-more m n under.list h w.0, own-more m n own h w.1)

outer-more : (m n : ℕ) (o : Option Parent) → m ≤ n → OuterWithin m o → OuterWithin n o
unfolding OuterWithin
outer-more m n None h w = tt
outer-more m n (Some p) h w = parent-more m n p h w

-- no selector of a list has a pseudo-element
abbrev pub AreOfElements : List (List Selector) → Type 0
AreOfElements lists =
    (k : ℕ) → k < length lists → All (λ s. s.pseudo_element ≡ None) (get_or lists k [])

-- The lists so far, and the rules that are open.
pub record Chained (parents : ParentsText) : Type 0 where
  pub lists : AskEarlier parents.lists
  pub plain : AreOfElements parents.lists
  pub innermost : ParentWithin (length parents.lists) parents.innermost
  pub outer : All (OuterWithin (length parents.lists)) parents.outer

none-chained : (lists : List (List Selector)) → AskEarlier lists → AreOfElements lists
    → Chained (none_open lists)
unfolding ParentWithin
none-chained lists asks plain =
    record { lists = asks; plain = plain; innermost = tt; outer = All-nil (OuterWithin (length lists)) }

outers-more : (m n : ℕ) (outer : List (Option Parent)) → m ≤ n → All (OuterWithin m) outer
    → All (OuterWithin n) outer
outers-more m n outer h w k d less = outer-more m n _ h (w k d less)

-- one of elements is that of the rule
element-is : (read : SelectorRead) (s : Selector) → element_selector read ≡ Some s
    → read.selector ≡ Some s
element-is read s e = by read.pseudo_element e
  where
    by : (o : Option (List ℕ)) → if_of_elements o read.selector ≡ Some s → read.selector ≡ Some s
    by None f = f
    by (Some name) f = absurd (cc)

selectors-chained : (parents : ParentsText) (prelude : Stated) (under : ListContext)
    → Chained parents → NestingBelow (suc (length parents.lists)) under.list
    → Chained (with_selectors parents prelude under (selectors_under under prelude))
unfolding ParentWithin OwnWithin
selectors-chained parents prelude under chained below =
    by (selectors_under under prelude) (reads-good m under below prelude)
  where
    m : ℕ
    m = length parents.lists

    by : (r : Result (List SelectorRead) Fault)
        → ((reads : List SelectorRead) → r ≡ Ok reads → All (GoodRead (suc m)) reads)
        → Chained (with_selectors parents prelude under r)
    by (Err fault) good = record {
      lists = chained.lists;
      plain = chained.plain;
      innermost = tt;
      outer = chained.outer;
    }
    by (Ok reads) good =
        let list = element_selectors reads in
        let lists = parents.lists ++ list ∷ [] in
        let longer : length lists ≡ m + 1 = omega (arith, length-append parents.lists (list ∷ [])) in
        let asks : All (SelectorAsksBelow (suc m)) list =
        given-all (SelectorAsksBelow (suc m)) element_selector reads
        (λ k d less s e. (good reads refl k d less).asks s (element-is (get_or reads k d) s e)) in
        let plain : All (λ s. s.pseudo_element ≡ None) list =
        given-all (λ s. s.pseudo_element ≡ None) element_selector reads
        (λ k d less s e. (good reads refl k d less).plain s (element-is (get_or reads k d) s e)) in
        record {
          lists = each-of-more [] parents.lists list (λ k l. All (SelectorAsksBelow (suc k)) l)
              chained.lists asks;
          plain = each-of-more [] parents.lists list (λ k l. All (λ s. s.pseudo_element ≡ None) l)
              chained.plain plain;
          innermost = (
            nesting-more m (length lists) under.list (omega (arith, longer)) below,
            omega (arith, longer),
          );
          outer = outers-more m (length lists) parents.outer (omega (arith, longer)) chained.outer;
        }

list-chained : (parents : ParentsText) → Chained parents → (parent : Parent)
    → parents.innermost ≡ parent → Chained (with_list_of parents parent)
unfolding ParentWithin
list-chained parents chained no_rule e = chained
list-chained parents chained dropped e = chained
list-chained parents chained (style prelude under (numbered own)) e = chained
list-chained parents chained (style prelude under valid) e =
    let w = subst (ParentWithin (length parents.lists)) e chained.innermost in
    selectors-chained parents prelude under chained w.0
list-chained parents chained (style prelude under unread) e =
    let w = subst (ParentWithin (length parents.lists)) e chained.innermost in
    selectors-chained parents prelude under chained w.0

entered-chained : (parents : ParentsText) (parent : Parent) → Chained parents
    → ParentWithin (length parents.lists) parent → Chained (entered parents parent)
unfolding OuterWithin
entered-chained parents parent chained w = record {
  lists = chained.lists;
  plain = chained.plain;
  innermost = w;
  outer = All-append (OuterWithin (length parents.lists)) parents.outer
      (Some parents.innermost ∷ []) chained.outer
      (All-cons (OuterWithin (length parents.lists)) (Some parents.innermost) []
      chained.innermost (All-nil (OuterWithin (length parents.lists))));
}

parent_in-within : (m : ℕ) (names : Names) (prelude : Stated) (parent : Parent) → ParentWithin m parent
    → ParentWithin m (parent_in names prelude parent)
unfolding ParentWithin OwnWithin
parent_in-within m names prelude no_rule w = (tt, tt)
parent_in-within m names prelude dropped w = tt
parent_in-within m names prelude (style other under unread) w = tt
parent_in-within m names prelude (style other under valid) w = tt
parent_in-within m names prelude (style other under (numbered own)) w = (w.1, tt)

checked-within : (m : ℕ) (parent : Parent) → ParentWithin m parent → ParentWithin m (checked parent)
unfolding ParentWithin OwnWithin
checked-within m no_rule w = tt
checked-within m dropped w = tt
checked-within m (style prelude under unread) w = by (is_listed (listed_under under prelude))
  where
    by : (t : Bool) → ParentWithin m (if_listed t prelude under)
    by true = (w.0, tt)
    by false = tt
checked-within m (style prelude under valid) w = w
checked-within m (style prelude under (numbered own)) w = w

checked_for-within : (m : ℕ) (is_needed : Bool) (parent : Parent) → ParentWithin m parent
    → ParentWithin m (checked_for is_needed parent)
checked_for-within m true parent w = checked-within m parent w
checked_for-within m false parent w = w

begun-chained : (names : Names) (applies : Bool) (kind : RuleKind) (parents : ParentsText)
    → Chained parents → Chained (begun names applies kind parents)
unfolding ParentWithin OuterWithin
begun-chained names true (style_rule prelude) parents chained =
    let listed = list-chained parents chained parents.innermost refl in
    entered-chained (with_list parents) (parent_in names prelude (with_list parents).innermost) listed
    (parent_in-within (length (with_list parents).lists) names prelude (with_list parents).innermost
    listed.innermost)
begun-chained names false (style_rule prelude) parents chained =
    entered-chained parents dropped chained tt
begun-chained names applies (group_rule keyword prelude) parents chained = record {
  lists = chained.lists;
  plain = chained.plain;
  innermost = checked_for-within (length parents.lists) (applies && is_layer keyword) parents.innermost
      chained.innermost;
  outer = All-append (OuterWithin (length parents.lists)) parents.outer (None ∷ []) chained.outer
      (All-cons (OuterWithin (length parents.lists)) None [] tt
      (All-nil (OuterWithin (length parents.lists))));
}

left-chained : (parents : ParentsText) → Chained parents → Chained (left_innermost parents)
unfolding OuterWithin
left-chained parents chained =
    by (slice_get parents.outer i) (got_at parents.outer i chained.outer)
  where
    i : ℕ
    i = length parents.outer - 1

    m : ℕ
    m = length parents.lists

    got_at : (xs : List (Option Parent)) (i : ℕ) → All (OuterWithin m) xs → (o : Option Parent)
        → slice_get xs i ≡ Some o → OuterWithin m o
    got_at xs i w o e =
        elim (slice_get_cases xs i).1 [
          | inl found ↦
              let is : found.0 ≡ o = some-same found.0 o (sym found.2 ∙ e) in
              subst (OuterWithin m) (found.3 ∙ is) (w i found.0 found.1)
          | inr past ↦ absurd (let wrong = sym past.1 ∙ e in cc)
        ]

    inner : (last : Option Parent) → OuterWithin m last
        → ParentWithin m (or_same parents.innermost last)
    inner None w = chained.innermost
    inner (Some parent) w = w

    by : (o : Option (Option Parent)) → ((last : Option Parent) → o ≡ Some last → OuterWithin m last)
        → Chained (left_last parents o)
    by None w = chained
    by (Some last) w = record {
      lists = chained.lists;
      plain = chained.plain;
      innermost = inner last (w last refl);
      outer = All-take (OuterWithin m) i parents.outer chained.outer;
    }

before-chained : (around : List OpenText) (parents : ParentsText) → Chained parents
    → Chained (before_rule around parents)
before-chained around parents chained = by (length around == 1)
  where
    by : (t : Bool) → Chained (if t then none_open parents.lists else parents)
    by true = none-chained parents.lists chained.lists chained.plain
    by false = chained

part-chained : (parents : ParentsText) (placed : PlacedPart) → Chained parents
    → Chained (after_part parents placed)
part-chained parents placed chained = by placed.part
  where
    by : (part : SheetPart) → Chained (after_part_of placed.names parents part placed.around)
    by (states text) = chained
    by (begins kind) =
        begun-chained placed.names (applies_in placed.around) kind (before_rule placed.around parents)
        (before-chained placed.around parents chained)
    by ends = left-chained parents chained
    by (stands item) = chained

pub parts-chained : (parents : ParentsText) (parts : List PlacedPart) → Chained parents
    → Chained (after_parts parents parts)
parts-chained parents [] chained = chained
parts-chained parents (placed ∷ more) chained =
    parts-chained (after_part parents placed) more (part-chained parents placed chained)

-- ---- lists are added

selectors-grow : (parents : ParentsText) (prelude : Stated) (under : ListContext)
    (r : Result (List SelectorRead) Fault)
    → length parents.lists ≤ length (with_selectors parents prelude under r).lists
selectors-grow parents prelude under (Err fault) = omega arith
selectors-grow parents prelude under (Ok reads) =
    omega (arith, length-append parents.lists (element_selectors reads ∷ []))

list-grows : (parents : ParentsText) (parent : Parent)
    → length parents.lists ≤ length (with_list_of parents parent).lists
list-grows parents no_rule = omega arith
list-grows parents dropped = omega arith
list-grows parents (style prelude under (numbered own)) = omega arith
list-grows parents (style prelude under valid) =
    selectors-grow parents prelude under (selectors_under under prelude)
list-grows parents (style prelude under unread) =
    selectors-grow parents prelude under (selectors_under under prelude)

begun-grows : (names : Names) (applies : Bool) (kind : RuleKind) (parents : ParentsText)
    → length parents.lists ≤ length (begun names applies kind parents).lists
begun-grows names true (style_rule prelude) parents = list-grows parents parents.innermost
begun-grows names false (style_rule prelude) parents = omega arith
begun-grows names applies (group_rule keyword prelude) parents = omega arith

left-keeps : (parents : ParentsText) (o : Option (Option Parent))
    → (left_last parents o).lists ≡ parents.lists
left-keeps parents None = refl
left-keeps parents (Some last) = refl

before-keeps : (around : List OpenText) (parents : ParentsText)
    → (before_rule around parents).lists ≡ parents.lists
before-keeps around parents = by (length around == 1)
  where
    by : (t : Bool) → (if t then none_open parents.lists else parents).lists ≡ parents.lists
    by true = refl
    by false = refl

part-grows : (parents : ParentsText) (placed : PlacedPart)
    → length parents.lists ≤ length (after_part parents placed).lists
part-grows parents placed = by placed.part
  where
    by : (part : SheetPart)
        → length parents.lists ≤ length (after_part_of placed.names parents part placed.around).lists
    by (states text) = omega arith
    by (begins kind) =
        omega (
          arith,
          ap length (before-keeps placed.around parents),
          begun-grows placed.names (applies_in placed.around) kind (before_rule placed.around parents),
        )
    by ends =
        omega (
          arith,
          ap length
              (left-keeps parents (slice_get parents.outer (length parents.outer - 1))),
        )
    by (stands item) = omega arith

parts-grow : (parents : ParentsText) (parts : List PlacedPart)
    → length parents.lists ≤ length (after_parts parents parts).lists
parts-grow parents [] = omega arith
parts-grow parents (placed ∷ more) =
    omega (arith, part-grows parents placed, parts-grow (after_part parents placed) more)

-- ---- rules

-- what a rule asks, whose selector has no pseudo-element
abbrev pub RuleAsks : ℕ → SheetRuleText → Type 0
RuleAsks n rule = SelectorAsksBelow n rule.selector × (rule.selector.pseudo_element ≡ None)

module _ (m : ℕ) where
  rule-asks : (run : RunText) (read : SelectorRead) → GoodRead (suc m) read → (rule : SheetRuleText)
      → rule_with run read ≡ Some rule → RuleAsks (suc m) rule
  rule-asks run read good rule e = by read.selector good.asks good.plain e
    where
      made : Selector → SheetRuleText
      made s = record {
        origin = Author;
        layer = run.layer;
        sheet = run.sheet;
        start = run.start;
        text = read.text;
        selector = s;
        pseudo_element = read.pseudo_element;
        block = run.text;
      }

      by : (o : Option Selector) → ((s : Selector) → o ≡ Some s → SelectorAsksBelow (suc m) s)
          → ((s : Selector) → o ≡ Some s → s.pseudo_element ≡ None)
          → option_map made o ≡ Some rule → RuleAsks (suc m) rule
      by None asks plain f = absurd (cc)
      by (Some s) asks plain f =
          let is : made s ≡ rule = cc in
          subst (RuleAsks (suc m)) is (asks s refl, plain s refl)

  stated-ask : (parent : Parent) → ParentWithin m parent → (run : RunText)
      → All (RuleAsks (suc m)) (stated_rules parent run)
  unfolding ParentWithin
  stated-ask no_rule w run = All-nil (RuleAsks (suc m))
  stated-ask dropped w run = All-nil (RuleAsks (suc m))
  stated-ask (style prelude under own) w run =
      by (declaration_count run.text == 0) (selectors_under under prelude)
      (reads-good m under w.0 prelude)
    where
      by : (t : Bool) (r : Result (List SelectorRead) Fault)
          → ((reads : List SelectorRead) → r ≡ Ok reads → All (GoodRead (suc m)) reads)
          → All (RuleAsks (suc m)) (if t then [] else unless_invalid run r)
      by true r good = All-nil (RuleAsks (suc m))
      by false (Err fault) good = All-nil (RuleAsks (suc m))
      by false (Ok reads) good =
          given-all (RuleAsks (suc m)) (rule_with run) reads
          (λ k d less. rule-asks run (get_or reads k d) (good reads refl k d less))

  part-asks : (layer : ℕ) (parent : Parent) → ParentWithin m parent → (placed : PlacedPart)
      (part : SheetPart) → All (RuleAsks (suc m)) (rules_if_stated layer parent placed part)
  part-asks layer parent w placed (states text) = by (applies_in placed.around)
    where
      by : (t : Bool) → All (RuleAsks (suc m))
          (if t then stated_rules parent (run_at layer placed text) else [])
      by true = stated-ask parent w (run_at layer placed text)
      by false = All-nil (RuleAsks (suc m))
  part-asks layer parent w placed (begins kind) = All-nil (RuleAsks (suc m))
  part-asks layer parent w placed ends = All-nil (RuleAsks (suc m))
  part-asks layer parent w placed (stands item) = All-nil (RuleAsks (suc m))

  pub parts-ask : (outermost : ℕ → ℕ) (known : List LayerText) (parents : ParentsText)
      (parts : List PlacedPart) → Chained parents → length (after_parts parents parts).lists ≤ m
      → All (RuleAsks (suc m)) (rules_of_parts outermost known parents parts)
  parts-ask outermost known parents [] chained h = All-nil (RuleAsks (suc m))
  parts-ask outermost known parents (placed ∷ more) chained h =
      let after = after_part parents placed in
      let next = part-chained parents placed chained in
      let within : ParentWithin m after.innermost =
      parent-more (length after.lists) m after.innermost
      (omega (arith, h, parts-grow after more)) next.innermost in
      All-append (RuleAsks (suc m)) (placed_rules outermost known after.innermost placed)
      (rules_of_parts outermost known after more)
      (part-asks (number_in_all (outermost placed.sheet) placed.around known) after.innermost within
      placed placed.part)
      (parts-ask outermost known after more next h)

-- ---- sheets

module _ (holds : List ℕ → List ℕ → Bool) (sheets : List SheetText) where
  all-chained : Chained (after_parts (none_open []) (layered_parts holds sheets))
  all-chained =
      parts-chained (none_open []) (layered_parts holds sheets)
      (none-chained [] (λ k less. absurd (omega (arith, less)))
      (λ k less. absurd (omega (arith, less))))

  pub lists-earlier : AskEarlier (nested_lists holds sheets)
  lists-earlier = all-chained.lists

  pub lists-plain : (k : ℕ) → k < length (nested_lists holds sheets)
      → All (λ s. s.pseudo_element ≡ None) (get_or (nested_lists holds sheets) k [])
  lists-plain = all-chained.plain

  pub rules-ask : All (RuleAsks (suc (length (nested_lists holds sheets))))
      (cascade_rules holds sheets)
  rules-ask =
      let m = length (nested_lists holds sheets) in
      let known = sheet_layers holds sheets in
      ordered-all (RuleAsks (suc m)) is_before (source_rules holds sheets)
      (All-map (RuleAsks (suc m)) (ranked known sheets) (numbered_rules holds sheets)
      (parts-ask m (outermost_at sheets) known (none_open [])
      (layered_parts holds sheets)
      (none-chained [] (λ k less. absurd (omega (arith, less)))
      (λ k less. absurd (omega (arith, less)))) (omega arith)))
