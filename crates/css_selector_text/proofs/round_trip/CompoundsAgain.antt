-- Printed compound selectors, and lists of complex ones, read back.
-- Serves `printing_laws::printing_law`.
use Rattle.std.proofs.Common.{◌≡◌, ℕ, zero, suc, ◌≤◌, ◌⊎◌, inl, inr, ◌||◌, Bool, true, false, List, [], ◌∷◌, ◌++◌, Option, None, Some, All, length, flat_map, append_assoc, arith, refl, sym, ap, ◌∙◌, subst, eqb-true}
use Rattle.std.specs.Prelude.{codes, if◌then◌else◌}
use Rattle.std.proofs.lemmas.List.Elements.{All-nil, All-cons, All-head, All-tail}
use Rattle.css_text.specs.AsciiBytes.{asterisk, close_parenthesis, colon, comma, full_stop, greater_than_sign, number_sign, open_bracket, open_parenthesis, plus_sign, space, tilde}
use Rattle.css_text.specs.Bytes.{starts_by, starts, past_one}
use Rattle.css_text.specs.Comments.{opens_comment}
use Rattle.css_text.proofs.bytes.GapLemmas.{no_gap-byte, NoGap}
use Rattle.css_syntax.proofs.Shorter.{each-rests}
use Rattle.css_selector_text.specs.declared.refusal.Why.TheVariants.{NoSelector, Unexpected}
use Rattle.css_matching.specs.declared.Combinator.{Combinator}
use Rattle.css_matching.specs.declared.Combinator.TheVariants.{Descendant, Child, Adjacent, Sibling}
use Rattle.css_selector_text.specs.declared.components.ListKind.{ListKind}
use Rattle.css_selector_text.specs.declared.components.ListKind.TheVariants.{Not, Is, Where, Has}
use Rattle.css_selector_text.specs.reading.Rooms.{Room}
use Rattle.css_selector_text.specs.declared.components.Numbering.{Numbering}
use Rattle.css_selector_text.specs.declared.components.Numbering.TheVariants.{Child as OfChild, LastChild as OfLastChild}
use Rattle.css_selector_text.specs.declared.components.Function.TheVariants.{Numbered}
use Rattle.css_selector_text.specs.Components.{Progression, Namespace, Simple, ListTest, Condition, Selectors, Part, selectors_from}
use Rattle.css_selector_text.specs.Components.ListTest.{has, nth_child as nth_child_list, nth_last_child as nth_last_child_list}
use Rattle.css_selector_text.specs.Components.Selectors.{end_of_list, with_selector}
use Rattle.css_selector_text.specs.Components.Local.{any_type, a_type, some_attribute, an_attribute, implied}
use Rattle.css_selector_text.specs.Components.Simple.{universal, type_name, id, class, has_attribute, attribute, structure, language, state, function, named_element, nesting, namespaced}
use Rattle.css_selector_text.specs.Components.Condition.{simple, negation, any_of, where_any, tested}
use Rattle.css_selector_text.specs.reading.Readings.{Reading, got, refused, follow, give, ◌>>=◌, ◌>>◌, Step, item, none, stop, step_after, as_item, with_first, items}
use Rattle.css_selector_text.specs.reading.Grammar.{gap, past_comments, begins_name, past_any_name, is_bar, at_bar, prefix, if_declared, namespace, in_namespace, ampersand, any_or_name, type_after, begins_compound, closing, one_more, list_kind, function_named, list_test, with_argument, type_selector, next_simple, after_type, some_of, Finder, ListReader, compound, ends_part, part_value, past_part, no_selector, part_end, judged, listed_part, next_listed, kept, keep, selectors_after, is_forgiving, list_by, listed, begins_pseudo_class, simple_item, condition_here, condition_by, too_deep, condition_at, next_condition, outside, room_in, is_relative, leading_sign, after_leading, may_open, after_type_name, some_or_element, conditions, CompoundReader, sign_combinator, first_sign, joined_by, by_sign, part_after, next_part_in, complex_by, complex, complex_list}
use Rattle.css_selector_text.specs.printing.Printing.{leading_text, listed_text, identifier_text, progression_text, nth_of_text, namespace_text, further_text, list_text, condition_text, selectors_text, combinator_text, part_text, parts_text}
use Rattle.css_selector_text.specs.printing.WellFormed.{IsName, IsNamespace, IsProgression, IsFurtherCondition, IsFirstCondition, IsList, IsLeading, AreConditions}
use Rattle.css_syntax.proofs.CommentLemmas.{no_comments}
use Rattle.css_selector_text.proofs.round_trip.SpelledAgain.{name-again}
use Rattle.css_selector_text.proofs.round_trip.NumbersAgain.{no_gap, one_blank}
use Rattle.css_selector_text.proofs.round_trip.NestedLists.{selectors_in, selectors_from-in, row_text, rows_text, IsRow, IsLink, IsChain, AreChains, chains_out}
use Rattle.css_selector_text.proofs.round_trip.SimplesAgain.{EachReads, items-again, ends, ends_name, ends_calm, ends_barless, bare-again, namespace-again, namespace_begins, namespace_name, begins_solid, nth_assoc, of_argument, differ, name_other, name_compound, named_text, is_start, by_start, further_starts, call-again, further-again}
use Rattle.css_selector_text.specs.Names.{Names}

-- ---- how conditions begin

-- it begins with the sign of a condition that may follow others
abbrev Starts : List ℕ → Type 0
Starts text = starts_by is_start text ≡ true

start_ends : (text rest : List ℕ) → Starts text → ends (text ++ rest) ≡ true
start_ends [] rest h = absurd (cc)
start_ends (b ∷ text) rest h =
    by_start (λ d. ends (d ∷ (text ++ rest)) ≡ true) refl refl refl refl refl b h

start_some : (text : List ℕ) → Starts text → 1 ≤ length text
start_some [] h = absurd (cc)
start_some (b ∷ text) h = omega arith

-- no type selector is where neither `*`, a name nor a bar is
untyped : (names : Names) (text : List ℕ) → opens_comment text ≡ false → past_any_name text ≡ text
    → is_bar text ≡ false → (starts asterisk text || begins_name text) ≡ false
    → type_selector names text ≡ none
unfolding type_selector namespace at_bar
untyped names text calm stays bare nothing =
    ap (λ l. step_after (if is_bar l then if_declared text (prefix names text) (past_comments (past_one l))
    else got None text) type_after) (ap past_comments stays ∙ no_comments text calm)
    ∙ ap (λ (t : Bool). step_after (if t then if_declared text (prefix names text) (past_comments (past_one text))
    else got None text) type_after) bare
    ∙ ap (λ (t : Bool). if t then as_item (in_namespace None) (any_or_name text) else none) nothing

-- no type selector is where a sign is
start_untyped : (names : Names) (text rest : List ℕ) → Starts text → type_selector names (text ++ rest) ≡ none
start_untyped names [] rest h = absurd (cc)
start_untyped names (b ∷ text) rest h =
    let more : List ℕ = text ++ rest in
    by_start (λ d. type_selector names (d ∷ more) ≡ none)
    (untyped names (number_sign ∷ more) refl refl refl refl)
    (untyped names (full_stop ∷ more) refl refl refl refl)
    (untyped names (open_bracket ∷ more) refl refl refl refl)
    (untyped names (colon ∷ more) refl refl refl refl)
    (untyped names (ampersand ∷ more) refl refl refl refl) b h

start_begins : (text rest : List ℕ) → Starts text → starts_by begins_compound (text ++ rest) ≡ true
start_begins [] rest h = absurd (cc)
start_begins (b ∷ text) rest h =
    by_start (λ d. begins_compound d ≡ true) refl refl refl refl refl b h

test_starts : (test : ListTest) (selectors : Selectors)
    → Starts (condition_text (tested test selectors))
test_starts has selectors = refl
test_starts (nth_child_list p) selectors = refl
test_starts (nth_last_child_list p) selectors = refl

condition_starts : (n : Room) (c : Condition) → IsFurtherCondition n c → Starts (condition_text c)
condition_starts n (simple s) w = further_starts n.names s w
condition_starts n (negation _) w = refl
condition_starts n (any_of _) w = refl
condition_starts n (where_any _) w = refl
condition_starts n (tested test selectors) w = test_starts test selectors

-- `*` or a type, without a namespace and with one
star_bare : (names : Names) (rest : List ℕ) → ends rest ≡ true
    → namespace names (asterisk ∷ rest) ≡ got None (asterisk ∷ rest)
unfolding namespace at_bar
star_bare names rest h =
    let text : List ℕ = asterisk ∷ rest in
    ap (λ l. if is_bar l then if_declared text (prefix names text) (past_comments (past_one l)) else got None text)
    (no_comments rest (ends_calm rest h))
    ∙ ap (λ (t : Bool). if t then if_declared text (prefix names text) (past_comments (past_one rest))
    else got None text) (ends_barless rest h)

star-again : (names : Names) (rest : List ℕ) → ends rest ≡ true
    → type_selector names (asterisk ∷ rest) ≡ item universal rest
unfolding type_selector any_or_name
star-again names rest h = ap (λ r. step_after r type_after) (star_bare names rest h)

type-again : (names : Names) (n rest : List ℕ) → IsName n → ends rest ≡ true
    → type_selector names (identifier_text n ++ rest) ≡ item (type_name n) rest
unfolding type_selector any_or_name
type-again names n rest some h =
    let text : List ℕ = identifier_text n ++ rest in
    let begins = named_text n rest some h in
    let star : starts asterisk text ≡ false = name_other asterisk text begins refl in
    let reads = name-again n rest some (ends_name rest h) in
    ap (λ r. step_after r type_after)
    (bare-again names n rest some (ends_name rest h) (ends_calm rest h) (ends_barless rest h))
    ∙ rw (star, begins, reads) refl

star_in-again : (names : Names) (p : Namespace) (rest : List ℕ) → IsNamespace names p
    → type_selector names (namespace_text p ++ (asterisk ∷ rest)) ≡ item (namespaced p any_type) rest
unfolding type_selector any_or_name
star_in-again names p rest w =
    ap (λ r. step_after r type_after) (namespace-again names p (asterisk ∷ rest) w refl refl)

type_in-again : (names : Names) (p : Namespace) (n rest : List ℕ) → IsNamespace names p → IsName n → ends rest ≡ true
    → type_selector names (namespace_text p ++ (identifier_text n ++ rest))
    ≡ item (namespaced p (a_type n)) rest
unfolding type_selector any_or_name
type_in-again names p n rest w some h =
    let text : List ℕ = identifier_text n ++ rest in
    let begins = named_text n rest some h in
    let star : starts asterisk text ≡ false = name_other asterisk text begins refl in
    let reads = name-again n rest some (ends_name rest h) in
    ap (λ r. step_after r type_after) (namespace_name names p n rest w some (ends_name rest h))
    ∙ rw (star, reads) refl

-- the condition is `*` or a type, which is read
record IsTyped (names : Names) (c : Condition) (rest : List ℕ) : Type 0 where
  pub value : Simple
  pub is : simple value ≡ c
  pub reads : type_selector names (condition_text c ++ rest) ≡ item value rest
  pub begins : starts_by begins_compound (condition_text c ++ rest) ≡ true

-- a condition that may be the first is a type, or may follow others
first_kind : (n : Room) (c : Condition) (rest : List ℕ) → IsFirstCondition n c → ends rest ≡ true
    → IsTyped n.names c rest ⊎ IsFurtherCondition n c
first_kind n (simple universal) rest w h =
    inl (record { value = universal; is = refl; reads = star-again n.names rest h; begins = refl })
first_kind n (simple (type_name name)) rest w h =
    inl (record {
      value = type_name name;
      is = refl;
      reads = type-again n.names name rest w h;
      begins = name_compound (identifier_text name ++ rest) (named_text name rest w h);
    })
first_kind n (simple (id name)) rest w h = inr w
first_kind n (simple (class name)) rest w h = inr w
first_kind n (simple (has_attribute name)) rest w h = inr w
first_kind n (simple (attribute name c v ignores)) rest w h = inr w
first_kind n (simple (structure s)) rest w h = inr w
first_kind n (simple (language ranges)) rest w h = inr w
first_kind n (simple (state name)) rest w h = inr w
first_kind n (simple (function name argument)) rest w h = inr w
first_kind n (simple (named_element name argument)) rest w h = absurd w
first_kind n (simple (nesting list)) rest w h = inr w
first_kind n (simple (namespaced p any_type)) rest w h =
    let joined = append_assoc (namespace_text p) (asterisk ∷ []) rest in
    inl (record {
      value = namespaced p any_type;
      is = refl;
      reads = ap (type_selector n.names) joined ∙ star_in-again n.names p rest w.0;
      begins = ap (starts_by begins_compound) joined ∙ namespace_begins n.names p (asterisk ∷ rest) w.0;
    })
first_kind n (simple (namespaced p (a_type name))) rest w h =
    let joined = append_assoc (namespace_text p) (identifier_text name) rest in
    inl (record {
      value = namespaced p (a_type name);
      is = refl;
      reads = ap (type_selector n.names) joined ∙ type_in-again n.names p name rest w.0 w.1 h;
      begins = ap (starts_by begins_compound) joined
          ∙ namespace_begins n.names p (identifier_text name ++ rest) w.0;
    })
first_kind n (simple (namespaced p (some_attribute name))) rest w h = inr w
first_kind n (simple (namespaced p implied)) rest w h = absurd w.1
first_kind n (simple (namespaced p (an_attribute name c v ignores))) rest w h = inr w
first_kind n (negation _) rest w h = inr w
first_kind n (any_of _) rest w h = inr w
first_kind n (where_any _) rest w h = inr w
first_kind n (tested _ _) rest w h = inr w

-- ---- compound selectors, at a depth

-- further conditions end what is before them
conditions_end : (n : Room) (cs : List Condition) (rest : List ℕ) → All (IsFurtherCondition n) cs
    → ends rest ≡ true → ends (row_text cs ++ rest) ≡ true
conditions_end n [] rest all h = h
conditions_end n (c ∷ cs) rest all h =
    ap ends (append_assoc (condition_text c) (row_text cs) rest)
    ∙ start_ends (condition_text c) (row_text cs ++ rest)
    (condition_starts n c (All-head (IsFurtherCondition n) c cs all))

row_begins : (n : Room) (cs : List Condition) (rest : List ℕ) → IsRow n cs → ends rest ≡ true
    → starts_by begins_compound (row_text cs ++ rest) ≡ true
row_begins n [] rest w h = absurd w
row_begins n (c ∷ cs) rest w h =
    ap (starts_by begins_compound) (append_assoc (condition_text c) (row_text cs) rest)
    ∙ by (first_kind n c (row_text cs ++ rest) w.0 (conditions_end n cs rest w.1 h))
  where
    by : IsTyped n.names c (row_text cs ++ rest) ⊎ IsFurtherCondition n c
        → starts_by begins_compound (condition_text c ++ (row_text cs ++ rest)) ≡ true
    by (inl t) = t.begins
    by (inr f) = start_begins (condition_text c) (row_text cs ++ rest) (condition_starts n c f)

-- what is read after a type or without one; `accept` judges conditions that are read without one
abbrev pub Accept : Type 0
Accept = List ℕ → Reading (List Condition) → Reading (List Condition)

abbrev pub row_after : Accept → Finder → List ℕ → Step Simple → Reading (List Condition)
row_after accept next text (item s rest) = with_first (simple s) (items next rest)
row_after accept next text none = accept text (items next text)
row_after accept next text (stop why rest) = refused why rest

pub some_after : (next : Finder) (text : List ℕ) (step : Step Simple)
    → after_type next text step ≡ row_after some_of next text step
some_after next text (item s rest) = refl
some_after next text none = refl
some_after next text (stop why rest) = refl

pub some_or_element_after : (names : Names) (text : List ℕ) (step : Step Simple)
    → after_type_name names text step ≡ row_after some_or_element (next_condition (outside names)) text step
some_or_element_after names text (item s rest) = refl
some_or_element_after names text none = refl
some_or_element_after names text (stop why rest) = refl

-- a further condition is read before what ends it
abbrev ReadsFurther : Room → Type 0
ReadsFurther n = (c : Condition) (rest : List ℕ) → IsFurtherCondition n c → ends rest ≡ true
    → next_condition n (condition_text c ++ rest) ≡ item c rest

-- the conditions of a compound selector are read before what ends them
module _ (n : Room) (reads : ReadsFurther n) where
  each_condition : (cs : List Condition) (rest : List ℕ) → All (IsFurtherCondition n) cs
      → ends rest ≡ true → next_condition n rest ≡ none
      → EachReads (next_condition n) condition_text cs rest
  each_condition [] rest all h stops = stops
  each_condition (c ∷ cs) rest all h stops =
      let w = All-head (IsFurtherCondition n) c cs all in
      let more = All-tail (IsFurtherCondition n) c cs all in (
        start_some (condition_text c) (condition_starts n c w),
        reads c (row_text cs ++ rest) w (conditions_end n cs rest more h),
        each_condition cs rest more h stops,
      )

  row-again : (accept : Accept)
      → ((text : List ℕ) (c : Condition) (cs : List Condition) (rest : List ℕ)
      → accept text (got (c ∷ cs) rest) ≡ got (c ∷ cs) rest)
      → (cs : List Condition) (rest : List ℕ) → IsRow n cs → ends rest ≡ true
      → next_condition n rest ≡ none
      → row_after accept (next_condition n) (row_text cs ++ rest)
      (type_selector n.names (row_text cs ++ rest))
      ≡ got cs rest
  row-again accept accepts [] rest w h stops = absurd w
  row-again accept accepts (c ∷ cs) rest w h stops =
      ap (λ l. row_after accept (next_condition n) l (type_selector n.names l)) joined
      ∙ by (first_kind n c after w.0 (conditions_end n cs rest w.1 h))
    where
      after : List ℕ
      after = row_text cs ++ rest

      text : List ℕ
      text = condition_text c ++ after

      joined : row_text (c ∷ cs) ++ rest ≡ text
      joined = append_assoc (condition_text c) (row_text cs) rest

      by : IsTyped n.names c after ⊎ IsFurtherCondition n c
          → row_after accept (next_condition n) text (type_selector n.names text) ≡ got (c ∷ cs) rest
      by (inl t) =
          ap (row_after accept (next_condition n) text) t.reads
          ∙ ap (with_first (simple t.value))
          (items-again (next_condition n) condition_text cs rest
          (each_condition cs rest w.1 h stops))
          ∙ ap (λ d. got (d ∷ cs) rest) t.is
      by (inr f) =
          ap (row_after accept (next_condition n) text)
          (start_untyped n.names (condition_text c) after (condition_starts n c f))
          ∙ ap (accept text) (ap (items (next_condition n)) (sym joined)
          ∙ items-again (next_condition n) condition_text (c ∷ cs) rest
          (each_condition (c ∷ cs) rest (All-cons (IsFurtherCondition n) c cs f w.1) h stops))
          ∙ accepts text c cs rest

  compound-again : (cs : List Condition) (rest : List ℕ) → IsRow n cs → ends rest ≡ true
      → next_condition n rest ≡ none
      → compound n.names (next_condition n) (row_text cs ++ rest) ≡ got cs rest
  unfolding compound
  compound-again cs rest w h stops =
      some_after (next_condition n) (row_text cs ++ rest) (type_selector n.names (row_text cs ++ rest))
      ∙ row-again some_of (λ text c ds end. refl) cs rest w h stops

-- no condition is where neither a pseudo-class nor another simple selector begins
pub none_read : (n : Room) (text : List ℕ) → opens_comment text ≡ false
    → begins_pseudo_class text ≡ false → next_simple n.names text ≡ none → next_condition n text ≡ none
unfolding condition_at
none_read n text c e f = by n.depth n.in_has
  where
    here : (list : ListReader) → condition_here n.names list text ≡ none
    here list = rw e (ap simple_item f)

    other : (list : ListReader) → condition_by n.names list text ≡ none
    other list = ap (condition_here n.names list) (no_comments text c) ∙ here list

    by : (d : ℕ) (in_has : Bool) → condition_at n.names d in_has text ≡ none
    by zero in_has = other too_deep
    by (suc d) in_has = other (list_by n.names in_has (condition_at n.names d))

-- ---- compound selectors after others

-- no compound selector begins with a sign
no_sign : (l : List ℕ) → starts_by begins_compound l ≡ true → first_sign l ≡ None
no_sign [] h = refl
no_sign (b ∷ l) h =
    rw (
      differ begins_compound b greater_than_sign h refl,
      differ begins_compound b plus_sign h refl,
      differ begins_compound b tilde h refl,
    ) refl

-- a compound selector after another, by what reads it
pub part-again : (one : CompoundReader) (c : Combinator) (cs : List Condition) (rest : List ℕ)
    → starts_by begins_compound (row_text cs ++ rest) ≡ true
    → one (row_text cs ++ rest) ≡ got cs rest
    → part_after one (gap ((combinator_text c ++ row_text cs) ++ rest)) ≡ item (joined_by c cs) rest
part-again one c cs rest begins reads = by c
  where
    text : List ℕ
    text = row_text cs ++ rest

    solid : NoGap text
    solid = begins_solid text begins

    signed : (b : ℕ) (k : Combinator) → NoGap (b ∷ space ∷ text) → sign_combinator b ≡ Some k
        → part_after one (gap (space ∷ b ∷ space ∷ text)) ≡ item (joined_by k cs) rest
    signed b k calm is =
        ap (part_after one) (one_blank (b ∷ space ∷ text) calm)
        ∙ ap (by_sign one true (b ∷ space ∷ text)) is
        ∙ ap (λ r. as_item (joined_by k) (follow r (λ x. one))) (one_blank text solid)
        ∙ ap (as_item (joined_by k)) reads

    by : (k : Combinator) → part_after one (gap ((combinator_text k ++ row_text cs) ++ rest))
        ≡ item (joined_by k cs) rest
    by Descendant =
        ap (part_after one) (one_blank text solid)
        ∙ ap (by_sign one true text) (no_sign text begins)
        ∙ ap (λ (t : Bool). if t then as_item (joined_by Descendant) (one text) else none) begins
        ∙ ap (as_item (joined_by Descendant)) reads
    by Child = signed greater_than_sign Child (no_gap-byte greater_than_sign (space ∷ text) refl refl) refl
    by Adjacent = signed plus_sign Adjacent (no_gap-byte plus_sign (space ∷ text) refl refl) refl
    by Sibling = signed tilde Sibling (no_gap-byte tilde (space ∷ text) refl refl) refl

pub part_some : (p : Part) → 1 ≤ length (part_text p)
part_some p = by p.combinator
  where
    by : (c : Combinator) → 1 ≤ length (combinator_text c ++ row_text p.conditions)
    by Descendant = omega arith
    by Child = omega arith
    by Adjacent = omega arith
    by Sibling = omega arith

-- none is before a byte that is neither a gap nor a sign
pub no_part_at : (one : CompoundReader) (b : ℕ) (rest : List ℕ) → NoGap (b ∷ rest)
    → sign_combinator b ≡ None → part_after one (gap (b ∷ rest)) ≡ none
no_part_at one b rest calm is =
    ap (part_after one) (no_gap (b ∷ rest) calm) ∙ ap (by_sign one false (b ∷ rest)) is

-- ---- complex selectors in a list

-- what follows a compound selector or a list's complex selector
record Stops (n : Room) (rest : List ℕ) : Type 0 where
  pub ended : ends rest ≡ true
  pub last : next_condition n rest ≡ none
  pub no_part : next_part_in n.names (next_condition n) rest ≡ none

-- what follows a compound selector of it
links_follow : (n : Room) (ps : List Part) (rest : List ℕ) → Stops n rest
    → (ends (flat_map part_text ps ++ rest) ≡ true)
    × (next_condition n (flat_map part_text ps ++ rest) ≡ none)
unfolding next_simple
links_follow n [] rest stops = (stops.ended, stops.last)
links_follow n (p ∷ ps) rest stops = by p.combinator
  where
    by : (c : Combinator)
        → (ends (((combinator_text c ++ row_text p.conditions) ++ flat_map part_text ps) ++ rest)
        ≡ true)
        × (next_condition n
        (((combinator_text c ++ row_text p.conditions) ++ flat_map part_text ps) ++ rest) ≡ none)
    by Descendant = (refl, none_read n _ refl refl refl)
    by Child = (refl, none_read n _ refl refl refl)
    by Adjacent = (refl, none_read n _ refl refl refl)
    by Sibling = (refl, none_read n _ refl refl refl)

module _ (n : Room) (reads : ReadsFurther n) where
  link_next : (p : Part) (rest : List ℕ) → IsLink n p → ends rest ≡ true
      → next_condition n rest ≡ none
      → next_part_in n.names (next_condition n) (part_text p ++ rest) ≡ item p rest
  unfolding next_part_in
  link_next p rest w h stops =
      part-again (compound n.names (next_condition n)) p.combinator p.conditions rest
      (row_begins n p.conditions rest w h)
      (compound-again n reads p.conditions rest w h stops)

  each_link : (ps : List Part) (rest : List ℕ) → All (IsLink n) ps → Stops n rest
      → EachReads (next_part_in n.names (next_condition n)) part_text ps rest
  each_link [] rest all stops = stops.no_part
  each_link (p ∷ ps) rest all stops =
      let follows = links_follow n ps rest stops in (
        part_some p,
        link_next p _ (All-head (IsLink n) p ps all) follows.0 follows.1,
        each_link ps rest (All-tail (IsLink n) p ps all) stops,
      )

  links_begin : (p : Part) (ps : List Part) (rest : List ℕ) → IsRow n p.conditions → Stops n rest
      → starts_by begins_compound (parts_text (p ∷ ps) ++ rest) ≡ true
  links_begin p ps rest w stops =
      let follows = links_follow n ps rest stops in
      ap (starts_by begins_compound)
      (append_assoc (row_text p.conditions) (flat_map part_text ps) rest)
      ∙ row_begins n p.conditions (flat_map part_text ps ++ rest) w follows.0

  joined-again : (k : Combinator) (p : Part) (ps : List Part) (rest : List ℕ)
      → IsRow n p.conditions → All (IsLink n) ps → Stops n rest
      → complex_by n.names k (next_condition n) (parts_text (p ∷ ps) ++ rest)
      ≡ got (joined_by k p.conditions ∷ ps) rest
  unfolding complex_by
  joined-again k p ps rest w all stops =
      let next : List ℕ → Step Part = next_part_in n.names (next_condition n) in
      let others : List ℕ = flat_map part_text ps ++ rest in
      let follows = links_follow n ps rest stops in
      ap (complex_by n.names k (next_condition n))
      (append_assoc (row_text p.conditions) (flat_map part_text ps) rest)
      ∙ ap (λ r. follow r (λ first. one_more (joined_by k first) (items next)))
      (compound-again n reads p.conditions others w follows.0 follows.1)
      ∙ ap (with_first (joined_by k p.conditions))
      (items-again next part_text ps rest (each_link ps rest all stops))

  -- what is written before the first compound selector, and it
  abbrev led_text : Combinator → Part → List Part → List ℕ
  led_text k p ps = leading_text k ++ parts_text (p ∷ ps)

  led_solid : (k : Combinator) (p : Part) (ps : List Part) (rest : List ℕ) → IsRow n p.conditions
      → Stops n rest → NoGap (led_text k p ps ++ rest)
  led_solid Descendant p ps rest w stops =
      begins_solid (parts_text (p ∷ ps) ++ rest) (links_begin p ps rest w stops)
  led_solid Child p ps rest w stops = no_gap-byte greater_than_sign _ refl refl
  led_solid Adjacent p ps rest w stops = no_gap-byte plus_sign _ refl refl
  led_solid Sibling p ps rest w stops = no_gap-byte tilde _ refl refl

  led-again : (kind : ListKind) (k : Combinator) (p : Part) (ps : List Part) (rest : List ℕ)
      → IsLeading kind k → IsRow n p.conditions → All (IsLink n) ps → Stops n rest
      → complex n.names kind (next_condition n) (led_text k p ps ++ rest)
      ≡ got (joined_by k p.conditions ∷ ps) rest
  unfolding complex
  led-again kind k p ps rest leads w all stops = by kind k leads
    where
      text : List ℕ
      text = parts_text (p ∷ ps) ++ rest

      unsigned : (o : Option Combinator) → o ≡ None
          → after_leading n.names (next_condition n) text o ≡ got (joined_by Descendant p.conditions ∷ ps) rest
      unsigned o e =
          ap (after_leading n.names (next_condition n) text) e ∙ joined-again Descendant p ps rest w all stops

      signed : (c : Combinator)
          → follow (gap (space ∷ text)) (λ x. complex_by n.names c (next_condition n))
          ≡ got (joined_by c p.conditions ∷ ps) rest
      signed c =
          ap (λ r. follow r (λ x. complex_by n.names c (next_condition n)))
          (one_blank text (begins_solid text (links_begin p ps rest w stops)))
          ∙ joined-again c p ps rest w all stops

      plain : (o : ListKind) → is_relative o ≡ false → (c : Combinator) → c ≡ Descendant
          → after_leading n.names (next_condition n) (led_text c p ps ++ rest)
          (leading_sign o (led_text c p ps ++ rest))
          ≡ got (joined_by c p.conditions ∷ ps) rest
      plain o e c is =
          subst (λ (b : Combinator). after_leading n.names (next_condition n) (led_text b p ps ++ rest)
          (leading_sign o (led_text b p ps ++ rest))
          ≡ got (joined_by b p.conditions ∷ ps) rest) (sym is)
          (unsigned (leading_sign o text)
          (ap (λ (t : Bool). if t then first_sign text else None) e))

      by : (o : ListKind) (c : Combinator) → IsLeading o c
          → after_leading n.names (next_condition n) (led_text c p ps ++ rest)
          (leading_sign o (led_text c p ps ++ rest))
          ≡ got (joined_by c p.conditions ∷ ps) rest
      by Not c is = plain Not refl c is
      by Is c is = plain Is refl c is
      by Where c is = plain Where refl c is
      by Has Descendant is =
          unsigned (first_sign text) (no_sign text (links_begin p ps rest w stops))
      by Has Child is = signed Child
      by Has Adjacent is = signed Adjacent
      by Has Sibling is = signed Sibling

  chain_solid : (kind : ListKind) (ps : List Part) (rest : List ℕ) → IsChain kind n ps
      → Stops n rest → NoGap (listed_text ps ++ rest)
  chain_solid kind [] rest w stops = absurd w
  chain_solid kind (p ∷ ps) rest w stops = led_solid p.combinator p ps rest w.1 stops

  complex-again : (kind : ListKind) (ps : List Part) (rest : List ℕ) → IsChain kind n ps
      → Stops n rest → complex n.names kind (next_condition n) (listed_text ps ++ rest) ≡ got ps rest
  complex-again kind [] rest w stops = absurd w
  complex-again kind (p ∷ ps) rest w stops =
      led-again kind p.combinator p ps rest w.0 w.1 w.2 stops

  -- a complex selector as a part of a list, after a gap
  listed-again : (kind : ListKind) (text : List ℕ) (spaced : Bool) (ps : List Part) (rest : List ℕ)
      → gap text ≡ got spaced (listed_text ps ++ rest) → IsChain kind n ps → Stops n rest
      → NoGap rest → ends_part rest ≡ true
      → listed_part n.names kind (next_condition n) text ≡ got (Some ps) rest
  unfolding listed_part
  listed-again kind text spaced ps rest begins w stops calm last =
      let f : Bool = is_forgiving kind in
      ap (λ r. judged f text (follow r (λ x. complex n.names kind (next_condition n)))) begins
      ∙ ap (judged f text) (complex-again kind ps rest w stops)
      ∙ ap (part_end f text ps) (no_gap rest calm)
      ∙ ap (λ (t : Bool). if t then got (Some ps) rest
      else no_selector f text Unexpected rest) last

  -- a further one
  listed_next : (kind : ListKind) (ps : List Part) (rest : List ℕ) → IsChain kind n ps
      → Stops n rest → NoGap rest → ends_part rest ≡ true
      → next_listed n.names kind (next_condition n) (further_text listed_text ps ++ rest)
      ≡ item (Some ps) rest
  unfolding next_listed
  listed_next kind ps rest w stops calm last =
      let text : List ℕ = listed_text ps ++ rest in
      ap (as_item (λ s. s))
      (listed-again kind (space ∷ text) true ps rest
      (one_blank text (chain_solid kind ps rest w stops)) w stops calm last)

list_end : (names : Names) (f : ListKind) (next : Finder) (rest : List ℕ)
    → next_listed names f next (close_parenthesis ∷ rest) ≡ none
unfolding next_listed
list_end names f next rest = refl

part_stays : (rest : List ℕ) → past_part (close_parenthesis ∷ rest) ≡ close_parenthesis ∷ rest
unfolding past_part
part_stays rest = each-rests part_value (close_parenthesis ∷ rest) refl

-- what follows a complex selector of a list
list_stops : (n : Room) (ss : List (List Part)) (rest : List ℕ)
    → Stops n (flat_map (further_text listed_text) ss ++ (close_parenthesis ∷ rest))
unfolding next_simple next_part_in
list_stops n [] rest = record {
  ended = refl;
  last = none_read n (close_parenthesis ∷ rest) refl refl refl;
  no_part = no_part_at (compound n.names (next_condition n)) close_parenthesis rest
      (no_gap-byte close_parenthesis rest refl refl) refl;
}
list_stops n (s ∷ ss) rest = record {
  ended = refl;
  last = none_read n (comma ∷ _) refl refl refl;
  no_part = no_part_at (compound n.names (next_condition n)) comma _
      (no_gap-byte comma _ refl refl) refl;
}

-- ---- lists

after_calm : (ss : List (List Part)) (rest : List ℕ)
    → NoGap (flat_map (further_text listed_text) ss ++ (close_parenthesis ∷ rest))
after_calm [] rest = no_gap-byte close_parenthesis rest refl refl
after_calm (s ∷ ss) rest = no_gap-byte comma _ refl refl

after_ends : (ss : List (List Part)) (rest : List ℕ)
    → ends_part (flat_map (further_text listed_text) ss ++ (close_parenthesis ∷ rest)) ≡ true
after_ends [] rest = refl
after_ends (s ∷ ss) rest = refl

-- the text of a further part
abbrev shown : Option (List Part) → List ℕ
shown None = []
shown (Some s) = further_text listed_text s

abbrev all_some : List (List Part) → List (Option (List Part))
all_some [] = []
all_some (s ∷ ss) = Some s ∷ all_some ss

shown_all : (ss : List (List Part))
    → flat_map shown (all_some ss) ≡ flat_map (further_text listed_text) ss
shown_all [] = refl
shown_all (s ∷ ss) = ap (λ t. further_text listed_text s ++ t) (shown_all ss)

kept_all : (ss : List (List Part)) → kept (all_some ss) ≡ ss
kept_all [] = refl
kept_all (s ∷ ss) = ap (λ t. s ∷ t) (kept_all ss)

module _ (n : Room) (reads : ReadsFurther n) (f : ListKind) where
  each_part : (ss : List (List Part)) (rest : List ℕ) → All (IsChain f n) ss
      → EachReads (next_listed n.names f (next_condition n)) shown (all_some ss) (close_parenthesis ∷ rest)
  each_part [] rest all = list_end n.names f (next_condition n) rest
  each_part (s ∷ ss) rest all = (
    omega arith,
    subst (λ l. next_listed n.names f (next_condition n) (further_text listed_text s
        ++ (l ++ (close_parenthesis ∷ rest))) ≡ item (Some s) (l ++ (close_parenthesis ∷ rest)))
        (sym (shown_all ss))
        (listed_next n reads f s _ (All-head (IsChain f n) s ss all) (list_stops n ss rest)
        (after_calm ss rest) (after_ends ss rest)),
    each_part ss rest (All-tail (IsChain f n) s ss all),
  )

  parts-again : (ss : List (List Part)) (rest : List ℕ) → All (IsChain f n) ss
      → items (next_listed n.names f (next_condition n))
      (flat_map (further_text listed_text) ss ++ (close_parenthesis ∷ rest))
      ≡ got (all_some ss) (close_parenthesis ∷ rest)
  parts-again ss rest all =
      ap (λ l. items (next_listed n.names f (next_condition n)) (l ++ (close_parenthesis ∷ rest)))
      (sym (shown_all ss))
      ∙ items-again (next_listed n.names f (next_condition n)) shown (all_some ss)
      (close_parenthesis ∷ rest) (each_part ss rest all)

  -- no selector is where a list ends
  nothing_there : (rest : List ℕ)
      → complex n.names f (next_condition n) (close_parenthesis ∷ rest)
      ≡ refused NoSelector (close_parenthesis ∷ rest)
  unfolding complex complex_by compound next_simple
  nothing_there rest =
      ap (after_leading n.names (next_condition n) (close_parenthesis ∷ rest)) (by (is_relative f))
      ∙ ap (λ s. follow (after_type (next_condition n) (close_parenthesis ∷ rest) s) (λ first.
      one_more (joined_by Descendant first) (items (next_part_in n.names (next_condition n)))))
      (untyped n.names (close_parenthesis ∷ rest) refl refl refl refl)
      ∙ ap (λ r. follow (some_of (close_parenthesis ∷ rest) r) (λ first.
      one_more (joined_by Descendant first) (items (next_part_in n.names (next_condition n)))))
      (items-again (next_condition n) condition_text [] (close_parenthesis ∷ rest)
      (none_read n (close_parenthesis ∷ rest) refl refl refl))
    where
      by : (t : Bool) → (if t then first_sign (close_parenthesis ∷ rest) else None) ≡ None
      by true = refl
      by false = refl

  empty_part : (rest : List ℕ) → is_forgiving f ≡ true
      → listed_part n.names f (next_condition n) (close_parenthesis ∷ rest)
      ≡ got None (close_parenthesis ∷ rest)
  unfolding listed_part
  empty_part rest is =
      let text : List ℕ = close_parenthesis ∷ rest in
      ap (λ r. judged (is_forgiving f) text (follow r (λ x. complex n.names f (next_condition n))))
      (no_gap text (no_gap-byte close_parenthesis rest refl refl))
      ∙ ap (judged (is_forgiving f) text) (nothing_there rest)
      ∙ ap (λ b. no_selector b text NoSelector text) is
      ∙ ap (got None) (part_stays rest)

  -- a list with something in it, after a gap
  some-again : (text : List ℕ) (spaced : Bool) (s : List Part) (ss : List (List Part)) (rest : List ℕ)
      → gap text ≡ got spaced (listed_text s ++ (flat_map (further_text listed_text) ss
      ++ (close_parenthesis ∷ rest)))
      → IsChain f n s → All (IsChain f n) ss
      → complex_list n.names f (next_condition n) text ≡ got (s ∷ ss) rest
  unfolding complex_list
  some-again text spaced s ss rest begins one more =
      let next : Finder = next_condition n in
      let others : List ℕ = flat_map (further_text listed_text) ss ++ (close_parenthesis ∷ rest) in
      ap (λ r. follow r (λ first. selectors_after n.names f next first >>= λ all.
      closing close_parenthesis >> give all))
      (listed-again n reads f text spaced s others begins one (list_stops n ss rest)
      (after_calm ss rest) (after_ends ss rest))
      ∙ ap (λ r. follow (keep (with_first (Some s) r)) (λ all.
      closing close_parenthesis >> give all))
      (parts-again ss rest more)
      ∙ ap (λ l. got (s ∷ l) rest) (kept_all ss)

  list_begins : (s : List Part) (ss : List (List Part)) (rest : List ℕ) → IsChain f n s
      → NoGap (listed_text s ++ (flat_map (further_text listed_text) ss ++ (close_parenthesis ∷ rest)))
  list_begins s ss rest w =
      let others : List ℕ = flat_map (further_text listed_text) ss ++ (close_parenthesis ∷ rest) in
      chain_solid n reads f s others w (list_stops n ss rest)

  -- after a blank
  spaced-again : (rest : List ℕ) (s : List Part) (ss : List (List Part)) → IsChain f n s
      → All (IsChain f n) ss
      → complex_list n.names f (next_condition n)
      (space ∷ (list_text listed_text (s ∷ ss) ++ (close_parenthesis ∷ rest)))
      ≡ got (s ∷ ss) rest
  spaced-again rest s ss one more =
      let end : List ℕ = close_parenthesis ∷ rest in
      let others : List ℕ = flat_map (further_text listed_text) ss ++ end in
      ap (λ l. complex_list n.names f (next_condition n) (space ∷ l))
      (append_assoc (listed_text s) (flat_map (further_text listed_text) ss) end)
      ∙ some-again (space ∷ (listed_text s ++ others)) true s ss rest
      (one_blank (listed_text s ++ others) (list_begins s ss rest one)) one more

  complexes-again : (rest : List ℕ) (ss : List (List Part)) → AreChains f n ss
      → complex_list n.names f (next_condition n) (list_text listed_text ss ++ (close_parenthesis ∷ rest))
      ≡ got ss rest
  unfolding complex_list
  complexes-again rest [] w =
      ap (λ r. follow r (λ first. selectors_after n.names f (next_condition n) first >>= λ all.
      closing close_parenthesis >> give all)) (empty_part rest w)
      ∙ ap (λ r. follow (keep (with_first None r)) (λ all. closing close_parenthesis >> give all))
      (parts-again [] rest (All-nil (IsChain f n)))
  complexes-again rest (s ∷ ss) w =
      let end : List ℕ = close_parenthesis ∷ rest in
      let text : List ℕ = listed_text s ++ (flat_map (further_text listed_text) ss ++ end) in
      ap (complex_list n.names f (next_condition n))
      (append_assoc (listed_text s) (flat_map (further_text listed_text) ss) end)
      ∙ some-again text false s ss rest (no_gap text (list_begins s ss rest w.0)) w.0 w.1

-- ---- conditions

-- a list is read, up to its closing parenthesis
abbrev ReadsLists : Room → ListReader → Type 0
ReadsLists n list = (kind : ListKind) (opened rest : List ℕ) (selectors : Selectors)
    → IsList kind n selectors
    → list kind opened (selectors_text selectors ++ (close_parenthesis ∷ rest))
    ≡ got (selectors_in selectors) rest

-- so is one that is not forgiving after a blank
abbrev ReadsSpaced : Room → ListReader → Type 0
ReadsSpaced n list = (opened rest : List ℕ) (selectors : Selectors) → IsList Not n selectors
    → list Not opened (space ∷ (selectors_text selectors ++ (close_parenthesis ∷ rest)))
    ≡ got (selectors_in selectors) rest

module _ (n : Room) (list : ListReader) (reads : ReadsLists n list) (spaced : ReadsSpaced n list) where
  nth-again : (name rest : List ℕ) (kind : Numbering) (test : ListTest)
      (p : Progression) (selectors : Selectors) → IsName name → list_kind name ≡ None
      → function_named name ≡ Some (Numbered kind) → list_test kind p ≡ Some test
      → IsProgression p × IsList Not n selectors
      → condition_by n.names list (colon ∷ (identifier_text name ++ (open_parenthesis ∷
      ((nth_of_text p (selectors_text selectors) ++ (close_parenthesis ∷ [])) ++ rest))))
      ≡ item (tested test selectors) rest
  nth-again name rest kind test p selectors some no_list is is_test w =
      call-again n.names list name argument rest (tested test selectors) some argument_reads
    where
      argument : List ℕ
      argument = (nth_of_text p (selectors_text selectors) ++ (close_parenthesis ∷ [])) ++ rest

      shown_list : List ℕ
      shown_list = selectors_text selectors ++ (close_parenthesis ∷ rest)

      argument_reads : (opened : List ℕ)
          → with_argument n.names list opened name (list_kind name) (function_named name) argument
          ≡ got (tested test selectors) rest
      argument_reads opened =
          ap (λ k. with_argument n.names list opened name k (function_named name) argument) no_list
          ∙ ap (λ f. with_argument n.names list opened name None f argument) is
          ∙ ap (with_argument n.names list opened name None (Some (Numbered kind)))
          (nth_assoc (progression_text p) (codes " of ") (selectors_text selectors)
          (close_parenthesis ∷ []) rest)
          ∙ of_argument n.names list opened name shown_list kind test p is_test w.0
          ∙ ap (λ r. follow r (λ all. give (tested test (selectors_from all))))
          (spaced opened rest selectors w.1)
          ∙ ap (λ l. got (tested test l) rest) (selectors_from-in selectors)

  list-again : (name rest : List ℕ) (kind : ListKind) (selectors : Selectors) → IsName name
      → list_kind name ≡ Some kind → IsList kind n selectors
      → condition_by n.names list (colon ∷ (identifier_text name ++ (open_parenthesis ∷
      ((selectors_text selectors ++ (close_parenthesis ∷ [])) ++ rest))))
      ≡ item (listed kind (selectors_in selectors)) rest
  list-again name rest kind selectors some is w =
      call-again n.names list name argument rest (listed kind (selectors_in selectors)) some (λ opened.
      ap (λ k. with_argument n.names list opened name k (function_named name) argument) is
      ∙ ap (with_argument n.names list opened name (Some kind) (function_named name))
      (append_assoc (selectors_text selectors) (close_parenthesis ∷ []) rest)
      ∙ ap (λ r. follow r (λ all. give (listed kind all))) (reads kind opened rest selectors w))
    where
      argument : List ℕ
      argument = (selectors_text selectors ++ (close_parenthesis ∷ [])) ++ rest

  condition_by-again : (c : Condition) (rest : List ℕ) → IsFurtherCondition n c
      → ends rest ≡ true → condition_by n.names list (condition_text c ++ rest) ≡ item c rest
  condition_by-again (simple s) rest w h = further-again n.names list s rest w h
  condition_by-again (negation selectors) rest w h =
      list-again (codes "not") rest Not selectors (omega arith, refl) refl w
      ∙ ap (λ cs. item (negation cs) rest) (selectors_from-in selectors)
  condition_by-again (any_of selectors) rest w h =
      list-again (codes "is") rest Is selectors (omega arith, refl) refl w
      ∙ ap (λ cs. item (any_of cs) rest) (selectors_from-in selectors)
  condition_by-again (where_any selectors) rest w h =
      list-again (codes "where") rest Where selectors (omega arith, refl) refl w
      ∙ ap (λ cs. item (where_any cs) rest) (selectors_from-in selectors)
  condition_by-again (tested has selectors) rest w h =
      list-again (codes "has") rest Has selectors (omega arith, refl) refl w.1
      ∙ ap (λ cs. item (tested has cs) rest) (selectors_from-in selectors)
  condition_by-again (tested (nth_child_list p) selectors) rest w h =
      nth-again (codes "nth-child") rest OfChild (nth_child_list p) p selectors (omega arith, refl) refl
      refl refl w
  condition_by-again (tested (nth_last_child_list p) selectors) rest w h =
      nth-again (codes "nth-last-child") rest OfLastChild (nth_last_child_list p) p selectors
      (omega arith, refl) refl refl refl w

abbrev pub room_of : Names → ℕ → Bool → Room
room_of names d in_has = record { depth = d; in_has = in_has; names = names }

opens : (names : Names) (kind : ListKind) (d : ℕ) (in_has : Bool) (opened text : List ℕ)
    → may_open kind in_has ≡ true
    → list_by names in_has (condition_at names d) kind opened text
    ≡ complex_list names kind (next_condition (room_in kind (room_of names (suc d) in_has))) text
opens names kind d in_has opened text may =
    ap (λ (t : Bool). if t then complex_list names kind (condition_at names d (is_relative kind || in_has)) text
    else refused Unexpected opened) may

module _ (names : Names) (d : ℕ) (reads : (in_has : Bool) → ReadsFurther (room_of names d in_has)) (in_has : Bool) where
  complex_list-again : ReadsLists (room_of names (suc d) in_has) (list_by names in_has (condition_at names d))
  complex_list-again kind opened rest selectors w =
      let n : Room = room_of names (suc d) in_has in
      let ss : List (List Part) = selectors_in selectors in
      let same : selectors ≡ selectors_from ss = sym (selectors_from-in selectors) in
      let chains = chains_out kind n ss (subst (IsList kind n) same w) in
      ap (λ l. list_by names in_has (condition_at names d) kind opened (l ++ (close_parenthesis ∷ rest)))
      (ap selectors_text same ∙ rows_text ss)
      ∙ opens names kind d in_has opened (list_text listed_text ss ++ (close_parenthesis ∷ rest)) chains.0.1
      ∙ complexes-again (room_in kind n) (reads (is_relative kind || in_has)) kind rest ss chains.1

  spaced_list-again : ReadsSpaced (room_of names (suc d) in_has) (list_by names in_has (condition_at names d))
  spaced_list-again opened rest selectors w =
      let n : Room = room_of names (suc d) in_has in
      let ss : List (List Part) = selectors_in selectors in
      let same : selectors ≡ selectors_from ss = sym (selectors_from-in selectors) in
      ap (λ l. complex_list names Not (condition_at names d in_has) (space ∷ (l ++ (close_parenthesis ∷ rest))))
      (ap selectors_text same ∙ rows_text ss)
      ∙ by ss (chains_out Not n ss (subst (IsList Not n) same w)).1
    where
      by : (all : List (List Part)) → AreChains Not (room_of names d in_has) all
          → complex_list names Not (condition_at names d in_has)
          (space ∷ (list_text listed_text all ++ (close_parenthesis ∷ rest)))
          ≡ got all rest
      by [] v = absurd (cc)
      by (s ∷ all) v = spaced-again (room_of names d in_has) (reads in_has) Not rest s all v.0 v.1

condition_at-again : (names : Names) (d : ℕ) (in_has : Bool) → ReadsFurther (room_of names d in_has)
unfolding condition_at
condition_at-again names zero in_has c rest w h =
    condition_by-again (room_of names zero in_has) too_deep
    (λ kind opened end selectors v. absurd (none kind selectors v))
    (λ opened end selectors v. absurd (none Not selectors v)) c rest w h
  where
    none : (kind : ListKind) (selectors : Selectors) → IsList kind (room_of names zero in_has) selectors → ⊥
    none kind end_of_list v = let k = v.0.0 in omega (arith, k)
    none kind (with_selector s selectors) v = let k = v.0.0 in omega (arith, k)
condition_at-again names (suc d) in_has c rest w h =
    condition_by-again (room_of names (suc d) in_has) (list_by names in_has (condition_at names d))
    (complex_list-again names d (condition_at-again names d) in_has)
    (spaced_list-again names d (condition_at-again names d) in_has) c rest w h

pub condition-again : (n : Room) → ReadsFurther n
condition-again n = condition_at-again n.names n.depth n.in_has

-- ---- the compound selectors of a selector

-- what follows the conditions of a compound selector
pub record Follows (names : Names) (before_element : Bool) (rest : List ℕ) : Type 0 where
  pub ended : ends rest ≡ true
  pub last : next_condition (outside names) rest ≡ none
  pub element : before_element ≡ true → starts colon rest ≡ true

-- no compound selector is before a pseudo-element
no_conditions : (names : Names) (rest : List ℕ) → next_condition (outside names) rest ≡ none → starts colon rest ≡ true
    → (conditions names rest ≡ got [] rest) × (starts_by begins_compound rest ≡ true)
unfolding conditions
no_conditions names [] stops h = absurd (cc)
no_conditions names (b ∷ rest) stops h =
    let is : b ≡ colon = eqb-true b colon h in
    let untyped : type_selector names (b ∷ rest) ≡ none =
    start_untyped names (b ∷ []) rest (ap is_start is) in (
      ap (after_type_name names (b ∷ rest)) untyped
          ∙ ap (some_or_element (b ∷ rest))
          (items-again (next_condition (outside names)) condition_text [] (b ∷ rest) stops)
          ∙ ap (λ (t : Bool). if t then got [] (b ∷ rest)
          else some_of (b ∷ rest) (got [] (b ∷ rest))) h,
      ap begins_compound is,
    )

element_accepts : (text : List ℕ) (c : Condition) (cs : List Condition) (rest : List ℕ)
    → some_or_element text (got (c ∷ cs) rest) ≡ got (c ∷ cs) rest
element_accepts text c cs rest = by (starts colon text)
  where
    by : (t : Bool) → (if t then got (c ∷ cs) rest else some_of text (got (c ∷ cs) rest))
        ≡ got (c ∷ cs) rest
    by true = refl
    by false = refl

pub conditions-again : (names : Names) (e : Bool) (cs : List Condition) (rest : List ℕ) → AreConditions names e cs
    → Follows names e rest → conditions names (row_text cs ++ rest) ≡ got cs rest
unfolding conditions
conditions-again names e [] rest w f = (no_conditions names rest f.last (f.element w)).0
conditions-again names e (c ∷ cs) rest w f =
    some_or_element_after names (row_text (c ∷ cs) ++ rest) (type_selector names (row_text (c ∷ cs) ++ rest))
    ∙ row-again (outside names) (condition-again (outside names)) some_or_element element_accepts (c ∷ cs) rest w
    f.ended f.last

pub conditions_begin : (names : Names) (e : Bool) (cs : List Condition) (rest : List ℕ) → AreConditions names e cs
    → Follows names e rest → starts_by begins_compound (row_text cs ++ rest) ≡ true
conditions_begin names e [] rest w f = (no_conditions names rest f.last (f.element w)).1
conditions_begin names e (c ∷ cs) rest w f = row_begins (outside names) (c ∷ cs) rest w f.ended
