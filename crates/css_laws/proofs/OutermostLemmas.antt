-- Outside of nested rules `&` stands for no list that has a number.
-- Serves `nested_lists_law`.
use Rattle.std.proofs.Common.{◌≡◌, ℕ, zero, suc, ◌<◌, ◌||◌, ◌&&◌, ◌==◌, not, Bool, true, false, List, [], ◌∷◌, length, Option, Some, None, refl, subst, if◌then◌else◌, codes}
use Rattle.std.specs.Prelude.{All}
use Rattle.std.proofs.lemmas.List.Elements.{All-nil, All-cons}
use Rattle.css_text.specs.AsciiBytes.{asterisk, colon, comma, full_stop, number_sign, open_bracket, open_parenthesis, close_parenthesis}
use Rattle.css_text.specs.Bytes.{past_one, starts, starts_by}
use Rattle.css_matching.specs.declared.Combinator.{Combinator}
use Rattle.css_matching.specs.declared.Combinator.TheVariants.{Descendant}
use Rattle.css_selector_text.specs.declared.refusal.Why.{Why}
use Rattle.css_selector_text.specs.declared.refusal.Why.TheVariants.{Unexpected}
use Rattle.css_selector_text.specs.Components.{ListTest, Progression, Structure, Namespace, Local, Simple, Condition, Conditions, Parts, Selectors, Part, Placed, conditions_from, parts_from, selectors_from}
use Rattle.css_selector_text.specs.Components.ListTest.{nth_child, nth_last_child}
use Rattle.css_selector_text.specs.Components.Local.{any_type, a_type, some_attribute, an_attribute, implied}
use Rattle.css_selector_text.specs.Components.Simple.{universal, type_name, id, class, has_attribute, attribute, structure, language, state, function, named_element, nesting, namespaced}
use Rattle.css_selector_text.specs.Components.Condition.{simple, negation, any_of, where_any, tested as tested_condition}
use Rattle.css_selector_text.specs.Components.Conditions.{end_of_compound, with_condition}
use Rattle.css_selector_text.specs.Components.Parts.{end_of_selector, with_part}
use Rattle.css_selector_text.specs.Components.Selectors.{end_of_list, with_selector}
use Rattle.css_selector_text.specs.reading.Defaults.{type_in, is_exempting, begins_typed, with_implied, is_end, condition_in, compound_in, complex_in, selectors_in, in_default}
use Rattle.css_selector_text.specs.Names.{Names}
use Rattle.css_selector_text.proofs.DefaultLemmas.{complex_in-from}
use Rattle.css_selector_text.specs.reading.KnownNames.{is_one_of, states, functions}
use Rattle.css_selector_text.specs.reading.Readings.{Reading, got, refused, Reader, follow, Step, item, none, stop, step_after, as_item, with_first, go_on, items_up_to, items}
use Rattle.css_selector_text.specs.reading.Grammar.{gap, name, ident_sequence, namespace, in_namespace, attribute_from_name, attribute_selector, any_or_name, type_after, type_selector, ampersand, next_simple, plain_structure, plain_pseudo, is_old_element, named_pseudo, list_kind, function_named, argument_of, language_ranges, progression, closing, is_word, begins_name, of_list, after_word, functional, begins_pseudo_class, simple_item, with_argument, pseudo_condition, condition_here, condition_by, too_deep, next_condition, deepest, condition_at, outside, Finder, ListReader, CompoundReader, some_of, after_type, compound, first_sign, joined_by, signed_part, by_sign, part_after, begins_compound, next_part_in, complex_by, is_relative, leading_sign, after_leading, complex, ends_part, is_lasting, no_selector, part_end, judged, listed_part, next_listed, kept, keep, selectors_after, is_forgiving, complex_list, may_open, list_by, after_type_name, conditions, next_part, parts, placed, placed_by, next_placed, placed_list_by, placed_list, past_comments, pseudo_element, at_end}
use Rattle.css_tree.specs.Asked.{SimpleAsksBelow, AsksBelow, CompoundAsksBelow, PartsAskBelow, ListAsksBelow, SelectorAsksBelow}

-- ---- readers

-- what is read has this, if something is
abbrev Gets : {A : Type 0} → (A → Type 0) → Reading A → Type 0
Gets P (got x rest) = P x
Gets P (refused why rest) = Unit {0}

abbrev Finds : {A : Type 0} → (A → Type 0) → Step A → Type 0
Finds P (item x rest) = P x
Finds P none = Unit {0}
Finds P (stop why rest) = Unit {0}

abbrev Every : {A : Type 0} → (A → Type 0) → List A → Type 0
Every P [] = Unit {0}
Every P (x ∷ xs) = P x × Every P xs

every-all : {A : Type 0} (P : A → Type 0) (xs : List A) → Every P xs → All P xs
every-all P [] h = All-nil P
every-all P (x ∷ xs) h = All-cons P x xs h.0 (every-all P xs h.1)

follow-gets : {A B : Type 0} (P : A → Type 0) (Q : B → Type 0) (r : Reading A) (next : A → Reader B)
    → Gets P r → ((x : A) (t : List ℕ) → P x → Gets Q (next x t)) → Gets Q (follow r next)
follow-gets P Q (got x t) next h k = k x t h
follow-gets P Q (refused why t) next h k = tt

then-gets : {A B : Type 0} (Q : B → Type 0) (r : Reading A) (next : A → Reader B)
    → ((x : A) (t : List ℕ) → Gets Q (next x t)) → Gets Q (follow r next)
then-gets Q (got x t) next k = k x t
then-gets Q (refused why t) next k = tt

step-finds : {A B : Type 0} (Q : B → Type 0) (r : Reading A) (next : A → List ℕ → Step B)
    → ((x : A) (t : List ℕ) → Finds Q (next x t)) → Finds Q (step_after r next)
step-finds Q (got x t) next k = k x t
step-finds Q (refused why t) next k = tt

item-finds : {A B : Type 0} (P : A → Type 0) (Q : B → Type 0) (make : A → B) (r : Reading A)
    → Gets P r → ((x : A) → P x → Q (make x)) → Finds Q (as_item make r)
item-finds P Q make (got x t) h k = k x h
item-finds P Q make (refused why t) h k = tt

made-finds : {A B : Type 0} (Q : B → Type 0) (make : A → B) (r : Reading A)
    → ((x : A) → Q (make x)) → Finds Q (as_item make r)
made-finds Q make (got x t) k = k x
made-finds Q make (refused why t) k = tt

if-finds : {A : Type 0} (Q : A → Type 0) (c : Bool) (x y : Step A) → Finds Q x → Finds Q y
    → Finds Q (if c then x else y)
if-finds Q true x y h k = h
if-finds Q false x y h k = k

if-gets : {A : Type 0} (Q : A → Type 0) (c : Bool) (x y : Reading A) → Gets Q x → Gets Q y
    → Gets Q (if c then x else y)
if-gets Q true x y h k = h
if-gets Q false x y h k = k

first-gets : {A : Type 0} (P : A → Type 0) (x : A) (r : Reading (List A)) → P x → Gets (Every P) r
    → Gets (Every P) (with_first x r)
first-gets P x (got xs t) h k = (h, k)
first-gets P x (refused why t) h k = tt

items-get : {A : Type 0} (P : A → Type 0) (read : List ℕ → Step A)
    → ((t : List ℕ) → Finds P (read t)) → (n : ℕ) (t : List ℕ)
    → Gets (Every P) (items_up_to n read t)
items-get P read k zero t = tt
items-get {A = A} P read k (suc n) t = by (read t) (k t) (λ u. items-get P read k n u)
  where
    by : (s : Step A) → Finds P s → ((u : List ℕ) → Gets (Every P) (items_up_to n read u))
        → Gets (Every P) (go_on t s (items_up_to n read))
    by (item x u) h more = first-gets P x (items_up_to n read u) h (more u)
    by none h more = tt
    by (stop why u) h more = tt

some-gets : {A : Type 0} (P : A → Type 0) (t : List ℕ) (r : Reading (List A)) → Gets (Every P) r
    → Gets (Every P) (some_of t r)
some-gets P t (got [] u) h = tt
some-gets P t (got (x ∷ xs) u) h = h
some-gets P t (refused why u) h = tt

-- ---- simple selectors

module _ (names : Names) (n : ℕ) (some : 0 < n) where
  abbrev S : Simple → Type 0
  S s = SimpleAsksBelow n s

  abbrev C : Condition → Type 0
  C c = AsksBelow n c

  -- a compound selector
  abbrev P : Part → Type 0
  P p = CompoundAsksBelow n (conditions_from p.conditions)

  -- a complex selector
  abbrev L : List Part → Type 0
  L s = PartsAskBelow n (parts_from s)

  local-asks : (m : Option Namespace) (l : Local) → S (in_namespace m l)
  local-asks (Some m) l = tt
  local-asks None any_type = tt
  local-asks None (a_type x) = tt
  local-asks None (some_attribute x) = tt
  local-asks None (an_attribute x c v i) = tt
  local-asks None implied = tt

  attribute-gets : (t : List ℕ) → Gets S (attribute_selector names t)
  unfolding attribute_selector
  attribute-gets t =
      then-gets S (gap t) _ (λ x u. then-gets S (namespace names u) _ (λ m v.
      then-gets S (attribute_from_name v) _ (λ l w. local-asks m l)))

  simple-finds : (t : List ℕ) → Finds S (next_simple names t)
  unfolding next_simple
  simple-finds [] = tt
  simple-finds (b ∷ t) =
      if-finds S (b == full_stop) _ _ (made-finds S class (name (past_comments t)) (λ x. tt))
      (if-finds S (b == number_sign) _ _ (made-finds S id (ident_sequence t) (λ x. tt))
      (if-finds S (b == open_bracket) _ _
      (item-finds S S (λ s. s) (attribute_selector names t) (attribute-gets t) (λ s h. h))
      (if-finds S (b == ampersand) _ _ some tt)))

  type-finds : (t : List ℕ) → Finds S (type_selector names t)
  unfolding type_selector
  type-finds t = step-finds S (namespace names t) type_after after
    where
      after : (m : Option Namespace) (u : List ℕ) → Finds S (type_after m u)
      after None u =
          if-finds S (starts asterisk u || begins_name u) _ _
          (made-finds S (in_namespace None) (any_or_name u) (local-asks None)) tt
      after (Some m) u =
          made-finds S (in_namespace (Some m)) (any_or_name u) (local-asks (Some m))

  plain-gets : (opened x : List ℕ) (o : Option Structure) (t : List ℕ)
      → Gets S (plain_pseudo names opened x o t)
  plain-gets opened x (Some s) t = tt
  plain-gets opened x None t = if-gets S (is_one_of (states names) x) _ _ tt tt

  named-finds : (opened x t : List ℕ) → Finds S (named_pseudo names opened x t)
  named-finds opened x t =
      if-finds S (is_old_element x) _ _ tt
      (item-finds S S (λ s. s) (plain_pseudo names opened x (plain_structure x) t)
      (plain-gets opened x (plain_structure x) t) (λ s h. h))

  -- ---- conditions

  simple_item-finds : (s : Step Simple) → Finds S s → Finds C (simple_item s)
  simple_item-finds (item s t) h = h
  simple_item-finds none h = tt
  simple_item-finds (stop why t) h = tt

  complexes-ask : (ss : List (List Part)) → Every L ss → ListAsksBelow n (selectors_from ss)
  complexes-ask [] h = tt
  complexes-ask (s ∷ ss) h = (h.0, complexes-ask ss h.1)

  abbrev ListGood : ListReader → Type 0
  ListGood list = (kind : _) (opened t : List ℕ) → Gets (Every L) (list kind opened t)

  abbrev FinderGood : Finder → Type 0
  FinderGood next = (t : List ℕ) → Finds C (next t)

  module _ (list : ListReader) (good : ListGood list) where
    of-gets : (test : ListTest) (opened t : List ℕ) → Gets C (of_list list test opened t)
    of-gets test opened t =
        follow-gets (Every L) C (list _ opened t) _ (good _ opened t)
        (λ ss u h. complexes-ask ss h)

    -- what may be after `An+B`, if a list may be
    list_or-gets : (test : ListTest) (opened t : List ℕ) (other : Reading Condition)
        → Gets C other
        → Gets C (if begins_name t then follow (name t) (after_word list opened test t) else other)
    list_or-gets test opened t other h =
        if-gets C (begins_name t) _ other
        (then-gets C (name t) _ (λ word u.
        if-gets C (is_word (codes "of") word) _ _ (of-gets test opened u) tt)) h

    functional-gets : (opened x t : List ℕ)
        → Gets C (functional names list opened x (function_named x) t)
    functional-gets opened x t =
        by (is_word (codes "lang") x) (is_word (codes "nth-child") x)
        (is_word (codes "nth-last-child") x) (is_word (codes "nth-of-type") x)
        (is_word (codes "nth-last-of-type") x) refl refl refl refl refl
      where
        by : (a b c d f : Bool) → is_word (codes "lang") x ≡ a → is_word (codes "nth-child") x ≡ b
            → is_word (codes "nth-last-child") x ≡ c → is_word (codes "nth-of-type") x ≡ d
            → is_word (codes "nth-last-of-type") x ≡ f
            → Gets C (functional names list opened x (function_named x) t)
        by true b c d f e g h i j =
            rw e (then-gets C (language_ranges t) _ (λ a u. tt))
        by false true c d f e g h i j =
            rw (e, g) (then-gets C (gap t) _ (λ x u. then-gets C (progression u) _ (λ p v.
            then-gets C (gap v) _ (λ y w. list_or-gets (nth_child p) opened w _
            (then-gets C (closing close_parenthesis w) _ (λ z o. tt))))))
        by false false true d f e g h i j =
            rw (e, g, h) (then-gets C (gap t) _ (λ x u. then-gets C (progression u) _ (λ p v.
            then-gets C (gap v) _ (λ y w. list_or-gets (nth_last_child p) opened w _
            (then-gets C (closing close_parenthesis w) _ (λ z o. tt))))))
        by false false false true f e g h i j =
            rw (e, g, h, i) (then-gets C (gap t) _ (λ x u. then-gets C (progression u) _ (λ p v.
            then-gets C (gap v) _ (λ y w. then-gets C (closing close_parenthesis w) _ (λ z o. tt)))))
        by false false false false true e g h i j =
            rw (e, g, h, i, j) (then-gets C (gap t) _ (λ x u. then-gets C (progression u) _ (λ p v.
            then-gets C (gap v) _ (λ y w. then-gets C (closing close_parenthesis w) _ (λ z o. tt)))))
        by false false false false false e g h i j =
            rw (e, g, h, i, j) (then-gets C (argument_of (functions names) opened x t) _ (λ a u. tt))

    argument-gets : (opened x t : List ℕ)
        → Gets C (with_argument names list opened x (list_kind x) (function_named x) t)
    argument-gets opened x t =
        by (is_word (codes "not") x) (is_word (codes "is") x) (is_word (codes "where") x)
        (is_word (codes "has") x) refl refl refl refl
      where
        by : (a b c d : Bool) → is_word (codes "not") x ≡ a → is_word (codes "is") x ≡ b
            → is_word (codes "where") x ≡ c → is_word (codes "has") x ≡ d
            → Gets C (with_argument names list opened x (list_kind x) (function_named x) t)
        by true b c d e f g h =
            rw e (follow-gets (Every L) C (list _ opened t) _ (good _ opened t)
            (λ ss u k. complexes-ask ss k))
        by false true c d e f g h =
            rw (e, f) (follow-gets (Every L) C (list _ opened t) _ (good _ opened t)
            (λ ss u k. complexes-ask ss k))
        by false false true d e f g h =
            rw (e, f, g) (follow-gets (Every L) C (list _ opened t) _ (good _ opened t)
            (λ ss u k. complexes-ask ss k))
        by false false false true e f g h =
            rw (e, f, g, h) (follow-gets (Every L) C (list _ opened t) _ (good _ opened t)
            (λ ss u k. complexes-ask ss k))
        by false false false false e f g h =
            rw (e, f, g, h) (functional-gets opened x t)

    pseudo-finds : (opened x t : List ℕ) → Finds C (pseudo_condition names list opened x t)
    pseudo-finds opened x t =
        if-finds C (starts open_parenthesis t) _ _
        (item-finds C C (λ c. c) _ (argument-gets opened x (past_one t)) (λ c h. h))
        (simple_item-finds (named_pseudo names opened x t) (named-finds opened x t))

    here-finds : (t : List ℕ) → Finds C (condition_here names list t)
    here-finds t =
        if-finds C (begins_pseudo_class t) _ _
        (step-finds C (name (past_comments (past_one t))) (pseudo_condition names list t)
        (λ x u. pseudo-finds t x u))
        (simple_item-finds (next_simple names t) (simple-finds t))

    condition-finds : FinderGood (condition_by names list)
    condition-finds t = here-finds (past_comments t)

  -- ---- compound selectors

  conditions-ask : (cs : List Condition) → Every C cs → CompoundAsksBelow n (conditions_from cs)
  conditions-ask [] h = tt
  conditions-ask (c ∷ cs) h = (h.0, conditions-ask cs h.1)

  parts-ask : (ps : List Part) → Every P ps → L ps
  parts-ask [] h = tt
  parts-ask (p ∷ ps) h = (h.0, parts-ask ps h.1)

  abbrev OneGood : CompoundReader → Type 0
  OneGood one = (t : List ℕ) → Gets (Every C) (one t)

  module _ (one : CompoundReader) (good : OneGood one) where
    part-finds : (t : List ℕ) (r : Reading Bool) → Finds P (part_after one r)
    part-finds t (refused why u) = tt
    part-finds t (got spaced u) = by (first_sign u)
      where
        by : (o : Option Combinator) → Finds P (by_sign one spaced u o)
        by (Some c) =
            item-finds (Every C) P (joined_by c) (signed_part one (past_one u))
            (then-gets (Every C) (gap (past_one u)) _ (λ x v. good v)) (λ cs h. conditions-ask cs h)
        by None =
            if-finds P (spaced && starts_by begins_compound u) _ _
            (item-finds (Every C) P (joined_by Descendant) (one u) (good u)
            (λ cs h. conditions-ask cs h)) tt

  module _ (next : Finder) (good : FinderGood next) where
    compound-gets : OneGood (compound names next)
    unfolding compound
    compound-gets t = by (type_selector names t) (type-finds t)
      where
        by : (s : Step Simple) → Finds S s → Gets (Every C) (after_type next t s)
        by (item s u) h =
            first-gets C (simple s) (items next u) h (items-get C next good (length u) u)
        by none h = some-gets C t (items next t) (items-get C next good (length t) t)
        by (stop why u) h = tt

    further-finds : (t : List ℕ) → Finds P (next_part_in names next t)
    unfolding next_part_in
    further-finds t = part-finds (compound names next) compound-gets t (gap t)

    complex_by-gets : (c : Combinator) (t : List ℕ) → Gets L (complex_by names c next t)
    unfolding complex_by
    complex_by-gets c t =
        follow-gets (Every C) L (compound names next t) _ (compound-gets t) (λ first u h.
        all (with_first (joined_by c first) (items (next_part_in names next) u))
        (first-gets P (joined_by c first) (items (next_part_in names next) u)
        (conditions-ask first h) (items-get P (next_part_in names next) further-finds (length u) u)))
      where
        all : (r : Reading (List Part)) → Gets (Every P) r → Gets L r
        all (got ps v) h = parts-ask ps h
        all (refused why v) h = tt

    complex-gets : (kind : _) (t : List ℕ) → Gets L (complex names kind next t)
    unfolding complex
    complex-gets kind t = by (leading_sign kind t)
      where
        by : (o : Option Combinator) → Gets L (after_leading names next t o)
        by None = complex_by-gets Descendant t
        by (Some c) = then-gets L (gap (past_one t)) _ (λ x u. complex_by-gets c u)

    -- a part of a list, if it is a selector
    abbrev O : Option (List Part) → Type 0
    O None = Unit {0}
    O (Some s) = L s

    none-gets : (forgiving : Bool) (t : List ℕ) (why : Why) (u : List ℕ)
        → Gets O (no_selector forgiving t why u)
    none-gets forgiving t why u = if-gets O (forgiving && not (is_lasting why)) _ _ tt tt

    judged-gets : (forgiving : Bool) (t : List ℕ) (r : Reading (List Part)) → Gets L r
        → Gets O (judged forgiving t r)
    judged-gets forgiving t (got s u) h = by (gap u)
      where
        by : (g : Reading Bool) → Gets O (part_end forgiving t s g)
        by (got spaced v) = if-gets O (ends_part v) _ _ h (none-gets forgiving t Unexpected v)
        by (refused why v) = tt
    judged-gets forgiving t (refused why u) h = none-gets forgiving t why u

    listed-gets : (kind : _) (t : List ℕ) → Gets O (listed_part names kind next t)
    unfolding listed_part
    listed-gets kind t =
        judged-gets (is_forgiving kind) t _ (then-gets L (gap t) _ (λ x u. complex-gets kind u))

    listed-finds : (kind : _) (t : List ℕ) → Finds O (next_listed names kind next t)
    unfolding next_listed
    listed-finds kind t =
        if-finds O (starts comma t) _ _
        (item-finds O O (λ s. s) (listed_part names kind next (past_one t))
        (listed-gets kind (past_one t)) (λ s h. h)) tt

    kept-ask : (all : List (Option (List Part))) → Every O all → Every L (kept all)
    kept-ask [] h = tt
    kept-ask (None ∷ all) h = kept-ask all h.1
    kept-ask (Some s ∷ all) h = (h.0, kept-ask all h.1)

    keep-gets : (r : Reading (List (Option (List Part)))) → Gets (Every O) r
        → Gets (Every L) (keep r)
    keep-gets (got all u) h = kept-ask all h
    keep-gets (refused why u) h = tt

    list-gets : (kind : _) (t : List ℕ) → Gets (Every L) (complex_list names kind next t)
    unfolding complex_list
    list-gets kind t =
        follow-gets O (Every L) (listed_part names kind next t) _ (listed-gets kind t)
        (λ first u h.
        follow-gets (Every L) (Every L) (selectors_after names kind next first u) _
        (keep-gets (with_first first (items (next_listed names kind next) u))
        (first-gets O first (items (next_listed names kind next) u) h
        (items-get O (next_listed names kind next) (listed-finds kind) (length u) u)))
        (λ ss v k. then-gets (Every L) (closing close_parenthesis v) _ (λ x w. k)))

  list_by-good : (in_has : Bool) (next : Bool → Finder) → ((b : Bool) → FinderGood (next b))
      → ListGood (list_by names in_has next)
  list_by-good in_has next good kind opened t =
      if-gets (Every L) (may_open kind in_has) _ _
      (list-gets (next (is_relative kind || in_has)) (good (is_relative kind || in_has)) kind t) tt

  at-finds : (m : ℕ) (in_has : Bool) → FinderGood (condition_at names m in_has)
  unfolding condition_at
  at-finds zero in_has t = condition-finds too_deep (λ kind opened u. tt) t
  at-finds (suc m) in_has t =
      condition-finds (list_by names in_has (condition_at names m))
      (list_by-good in_has (condition_at names m) (at-finds m)) t

  outside-finds : FinderGood (next_condition (outside names))
  outside-finds t = at-finds deepest false t

  -- ---- selectors

  conditions-get : OneGood (conditions names)
  unfolding conditions
  conditions-get t = by (type_selector names t) (type-finds t)
    where
      rest : (u : List ℕ) → Gets (Every C) (items (next_condition (outside names)) u)
      rest u = items-get C (next_condition (outside names)) outside-finds (length u) u

      by : (s : Step Simple) → Finds S s → Gets (Every C) (after_type_name names t s)
      by (item s u) h = first-gets C (simple s) (items (next_condition (outside names)) u) h (rest u)
      by none h =
          if-gets (Every C) (starts colon t) _ _ (rest t)
          (some-gets C t (items (next_condition (outside names)) t) (rest t))
      by (stop why u) h = tt

  next_part-finds : (t : List ℕ) → Finds P (next_part names t)
  unfolding next_part
  next_part-finds t = part-finds (conditions names) conditions-get t (gap t)

  parts-get : (t : List ℕ) → Gets L (parts names t)
  unfolding parts
  parts-get t =
      then-gets L (gap t) _ (λ x u.
      follow-gets (Every C) L (conditions names u) _ (conditions-get u) (λ first v h.
      all (with_first (joined_by Descendant first) (items (next_part names) v))
      (first-gets P (joined_by Descendant first) (items (next_part names) v) (conditions-ask first h)
      (items-get P (next_part names) next_part-finds (length v) v))))
    where
      all : (r : Reading (List Part)) → Gets (Every P) r → Gets L r
      all (got ps v) h = parts-ask ps h
      all (refused why v) h = tt

  -- ---- the default namespace

  type-asks : (number : ℕ) (s : Simple) → S s → S (type_in number s)
  type-asks number universal h = tt
  type-asks number (type_name x) h = tt
  type-asks number (id x) h = h
  type-asks number (class x) h = h
  type-asks number (has_attribute x) h = h
  type-asks number (attribute x c v i) h = h
  type-asks number (structure x) h = h
  type-asks number (language x) h = h
  type-asks number (state x) h = h
  type-asks number (function x a) h = h
  type-asks number (named_element x a) h = h
  type-asks number (nesting list) h = h
  type-asks number (namespaced m l) h = h

  implied-asks : (number : ℕ) (b : Bool) (c : Conditions) → CompoundAsksBelow n c
      → CompoundAsksBelow n (with_implied number b c)
  implied-asks number true c h = (tt, h)
  implied-asks number false c h = h

  mutual
    condition_in-asks : (number : ℕ) (exempting : Bool) (c : Condition) → C c
        → C (condition_in number exempting c)
    condition_in-asks number exempting (simple s) h = type-asks number s h
    condition_in-asks number exempting (negation ss) h = selectors_in-ask number true ss h
    condition_in-asks number exempting (any_of ss) h = selectors_in-ask number true ss h
    condition_in-asks number exempting (where_any ss) h = selectors_in-ask number true ss h
    condition_in-asks number exempting (tested_condition test ss) h =
        selectors_in-ask number (exempting || is_exempting test) ss h

    compound_in-asks : (number : ℕ) (exempting : Bool) (c : Conditions) → CompoundAsksBelow n c
        → CompoundAsksBelow n (compound_in number exempting c)
    compound_in-asks number exempting end_of_compound h = tt
    compound_in-asks number exempting (with_condition c cs) h =
        (condition_in-asks number exempting c h.0, compound_in-asks number exempting cs h.1)

    complex_in-asks : (number : ℕ) (exempting : Bool) (ps : Parts) → PartsAskBelow n ps
        → PartsAskBelow n (complex_in number exempting ps)
    complex_in-asks number exempting end_of_selector h = tt
    complex_in-asks number exempting (with_part k c ps) h = (
      implied-asks number (not (begins_typed c || exempting && is_end ps))
          (compound_in number exempting c) (compound_in-asks number exempting c h.0),
      complex_in-asks number exempting ps h.1,
    )

    selectors_in-ask : (number : ℕ) (exempting : Bool) (ss : Selectors) → ListAsksBelow n ss
        → ListAsksBelow n (selectors_in number exempting ss)
    selectors_in-ask number exempting end_of_list h = tt
    selectors_in-ask number exempting (with_selector s ss) h =
        (complex_in-asks number exempting s h.0, selectors_in-ask number exempting ss h.1)

  default-asks : (o : Option ℕ) (ps : List Part) → L ps → L (in_default o ps)
  default-asks None ps h = h
  default-asks (Some number) ps h =
      subst (PartsAskBelow n) (complex_in-from number false ps)
      (complex_in-asks number false (parts_from ps) h)

  abbrev A : Placed → Type 0
  A p = SelectorAsksBelow n p.selector

  placed-gets : (t : List ℕ) → Gets A (placed names t)
  unfolding placed_by
  placed-gets t =
      then-gets A (gap t) _ (λ x u.
      follow-gets L A (parts names u) _ (parts-get u) (λ all v h.
      then-gets A (pseudo_element names (past_comments v)) _ (λ e w.
      then-gets A (gap w) _ (λ y z. default-asks names.default_namespace all h))))

  module _ (start : _) (good : (t : List ℕ) → Gets A (placed_by names start t)) where
    placed-finds : (t : List ℕ) → Finds A (next_placed names start t)
    unfolding next_placed
    placed-finds t =
        if-finds A (starts comma t) _ _
        (item-finds A A (λ p. p) (placed_by names start (past_one t)) (good (past_one t)) (λ p h. h)) tt

    list-placed : (t : List ℕ) → Gets (Every A) (placed_list_by names start t)
    unfolding placed_list_by
    list-placed t =
        follow-gets A (Every A) (placed_by names start t) _ (good t) (λ first u h.
        follow-gets (Every A) (Every A) (with_first first (items (next_placed names start) u)) _
        (first-gets A first (items (next_placed names start) u) h
        (items-get A (next_placed names start) placed-finds (length u) u))
        (λ all v k. at-end all k v))
      where
        at-end : (all : List Placed) → Every A all → (v : List ℕ)
            → Gets (Every A) (follow (at_end v) (λ x w. got all w))
        at-end all k [] = k
        at-end all k (b ∷ v) = tt

  -- a list that was read
  pub list-asks : (text rest : List ℕ) (all : List Placed) → placed_list names text ≡ got all rest
      → All A all
  list-asks text rest all e =
      every-all A all (subst (Gets (Every A)) e (list-placed _ placed-gets text))
