-- What a text reads as: simple selectors that are well-formed.
-- Serves `printing_laws::printing_law`.
use Rattle.std.proofs.Common.{◌≡◌, ℕ, zero, suc, ◌<◌, ◌≤◌, ◌==◌, ◌||◌, ◌&&◌, not, eqb-true, Bool, true, false, List, [], ◌∷◌, Option, None, Some, All, length, length-append, option_map, arith, refl, ap, subst}
use Rattle.std.specs.Prelude.{codes, if◌then◌else◌}
use Rattle.std.specs.Str.{str_eq_ignore_ascii_case}
use Rattle.std.proofs.lemmas.List.Elements.{All-nil, All-cons}
use Rattle.css_text.specs.AsciiBytes.{asterisk, comma, full_stop, number_sign, open_bracket, close_bracket, close_parenthesis, hyphen, underscore}
use Rattle.css_text.specs.Bytes.{starts_by, starts, past_one, is_digit}
use Rattle.css_text.specs.Characters.{is_letter}
use Rattle.css_text.specs.Reading.{before}
use Rattle.css_text.specs.Strings.{is_quote}
use Rattle.css_syntax.specs.Tokens.{is_wide_byte, is_name_byte, begins_escape, past_word, past_string_parts}
use Rattle.css_syntax.specs.Statements.{begins_cdc}
use Rattle.css_syntax.specs.Escapes.{unescaped_in, decoded_in}
use Rattle.css_syntax.proofs.Decoding.{decoded-some_bytes}
use Rattle.css_syntax.proofs.WithoutNul.{nul-some, nul-once}
use Rattle.css_syntax.proofs.PartTexts.{word_ends}
use Rattle.css_syntax.proofs.Shorter.{word-less}
use Rattle.css_selector_text.specs.declared.components.Numbering.{Numbering}
use Rattle.css_selector_text.specs.declared.components.Numbering.TheVariants.{Child as OfChild, LastChild as OfLastChild, OfType, LastOfType as OfLastType}
use Rattle.css_selector_text.specs.declared.components.Function.{Function}
use Rattle.css_selector_text.specs.declared.components.Function.TheVariants.{Numbered, Language}
use Rattle.css_selector_text.specs.declared.components.ListKind.{ListKind}
use Rattle.css_selector_text.specs.declared.components.ListKind.TheVariants.{Not}
use Rattle.css_selector_text.specs.reading.Rooms.{Room}
use Rattle.css_selector_text.specs.Components.ListTest.{nth_child as nth_child_list, nth_last_child as nth_last_child_list}
use Rattle.css_selector_text.specs.Components.{Comparison, Signed, Progression, Structure, Namespace, Local, Simple, ListTest, Condition, Part, selectors_from, outermost}
use Rattle.css_selector_text.specs.Components.Structure.{root, scope, empty, first_child, last_child, only_child, first_of_type, last_of_type, only_of_type}
use Rattle.css_selector_text.specs.Components.Namespace.{absent, any_namespace, of_prefix}
use Rattle.css_selector_text.specs.Components.Local.{any_type, a_type, some_attribute, an_attribute, implied}
use Rattle.css_selector_text.specs.Components.Simple.{universal, type_name, id, class, has_attribute, attribute, structure, language, state, function, named_element, nesting, namespaced}
use Rattle.css_selector_text.specs.Components.Condition.{simple, tested}
use Rattle.css_selector_text.specs.reading.Readings.{Reading, got, refused, follow, give, ◌>>=◌, ◌>>◌, Step, item, none, stop, step_after, as_item, with_first, go_on, items, items_up_to}
use Rattle.css_selector_text.specs.declared.refusal.Why.TheVariants.{NoName, BrokenString, NoProgression, UnknownName, UnknownFunction, Unexpected}
use Rattle.css_selector_text.specs.reading.Grammar.{gap, past_comments, ident_sequence, name, begins_name, begins_plain_name, begins_word, string, closed_string, value, comparison, flag, compared, by_comparison, is_bar, at_bar, prefix, of_declared, if_declared, namespace, in_namespace, attribute_from_name, attribute_selector, any_or_name, type_after, closing, progression, digits, with_digit, sign, is_sign, is_n, signed, stepping, offset_after, offset_or_none, with_offset, is_number, subtracted, by_tail, n_word, numbered, is_lone_plus, unsigned, odd_or_even, word_progression, one_more, is_word, plain_structure, plain_pseudo, numbered_by, next_range, range_after, language_ranges, list_kind, function_named, argument, argument_of, of_list, after_word, without_list, list_test, after_progression, functional, is_old_element, ListReader, named_pseudo, type_selector, next_simple, ampersand}
use Rattle.css_selector_text.specs.reading.KnownNames.{is_one_of, states, functions}
use Rattle.css_selector_text.specs.printing.WellFormed.{IsDenoted, IsName, IsArgumentOf, IsSize, IsProgression, IsStructure, IsNamespace, IsAttribute, IsLocal, IsFurther, IsFirst, IsFurtherCondition, kind_of, IsTest, IsList}
use Rattle.css_selector_text.proofs.round_trip.ArgumentLemmas.{argument-again}
use Rattle.css_selector_text.proofs.round_trip.ReadingLemmas.{followed}
use Rattle.css_selector_text.specs.Names.{Names, number_of}

-- ---- readers

-- an item that is found after a value was found after it
pub record FoundAfter {A B : Type 0} (r : Reading A) (next : A → List ℕ → Step B) (y : B)
    (rest : List ℕ) : Type 0 where
  pub value : A
  pub middle : List ℕ
  pub first : r ≡ got value middle
  pub second : next value middle ≡ item y rest

pub found_after : {A B : Type 0} (r : Reading A) (next : A → List ℕ → Step B) (y : B)
    (rest : List ℕ) → step_after r next ≡ item y rest → FoundAfter r next y rest
found_after (got x mid) next y rest h =
    record { value = x; middle = mid; first = refl; second = h }
found_after (refused why mid) next y rest h = absurd (cc)

-- an item is what was read
pub record Made {A B : Type 0} (make : A → B) (r : Reading A) (y : B) (rest : List ℕ) : Type 0 where
  pub value : A
  pub first : r ≡ got value rest
  pub is : make value ≡ y

pub made : {A B : Type 0} (make : A → B) (r : Reading A) (y : B) (rest : List ℕ)
    → as_item make r ≡ item y rest → Made make r y rest
made make (got x mid) y rest h =
    let same : mid ≡ rest = cc in
    record { value = x; first = ap (got x) same; is = cc }
made make (refused why mid) y rest h = absurd (cc)

-- a first value and those that were read after it
pub record FirstOf {A : Type 0} (x : A) (r : Reading (List A)) (xs : List A) (rest : List ℕ)
    : Type 0 where
  pub others : List A
  pub reads : r ≡ got others rest
  pub is : x ∷ others ≡ xs

pub first_of_all : {A : Type 0} (x : A) (r : Reading (List A)) (xs : List A) (rest : List ℕ)
    → with_first x r ≡ got xs rest → FirstOf x r xs rest
first_of_all x (got ys mid) xs rest h =
    let same : mid ≡ rest = cc in
    record { others = ys; reads = ap (got ys) same; is = cc }
first_of_all x (refused why mid) xs rest h = absurd (cc)

some_first : {A : Type 0} (x : A) (r : Reading (List A)) (xs : List A) (rest : List ℕ)
    → FirstOf x r xs rest → 0 < length xs
some_first x r xs rest f = subst (λ l. 0 < length l) f.is (omega arith)

module _ {A : Type 0} (read : List ℕ → Step A) (P : A → Type 0)
    (each : (text : List ℕ) (x : A) (rest : List ℕ) → read text ≡ item x rest → P x) where
  all_up_to : (n : ℕ) (text : List ℕ) (xs : List A) (rest : List ℕ)
      → items_up_to n read text ≡ got xs rest → All P xs
  all_up_to zero text xs rest h =
      let nothing : [] ≡ xs = cc in subst (All P) nothing (All-nil P)
  all_up_to (suc n) text xs rest h = by (read text) refl h (all_up_to n)
    where
      by : (s : Step A) → read text ≡ s → go_on text s (items_up_to n read) ≡ got xs rest
          → ((t : List ℕ) (ys : List A) (end : List ℕ) → items_up_to n read t ≡ got ys end
          → All P ys)
          → All P xs
      by none e k more = let nothing : [] ≡ xs = cc in subst (All P) nothing (All-nil P)
      by (stop why t) e k more = absurd (cc)
      by (item x t) e k more =
          let f = first_of_all x (items_up_to n read t) xs rest k in
          subst (All P) f.is
          (All-cons P x f.others (each text x t e) (more t f.others rest f.reads))

  pub all_items : (text : List ℕ) (xs : List A) (rest : List ℕ) → items read text ≡ got xs rest
      → All P xs
  all_items text xs rest h = all_up_to (length text) text xs rest h

-- where no item is read, nothing is
pub nothing_read : {A : Type 0} (read : List ℕ → Step A) (n : ℕ) (text rest : List ℕ)
    → items_up_to n read text ≡ got [] rest → rest ≡ text
nothing_read read zero text rest h = cc
nothing_read {A} read (suc n) text rest h = by (read text) h
  where
    by : (s : Step A) → go_on text s (items_up_to n read) ≡ got [] rest → rest ≡ text
    by none k = cc
    by (stop why t) k = absurd (cc)
    by (item x t) k =
        let f = first_of_all x (items_up_to n read t) [] rest k in
        absurd (let is = f.is in cc)

-- ---- names

name_starts : (b : ℕ) (text : List ℕ) → begins_name (b ∷ text) ≡ true
    → (is_name_byte b || begins_escape (b ∷ text)) ≡ true
name_starts b text h =
    by (begins_word b) (begins_escape (b ∷ text)) (b == hyphen) refl refl h
  where
    name_byte : (l u w d y : Bool) → (l || u || w) ≡ true → (l || d || u || y || w) ≡ true
    name_byte true u w d y k = refl
    name_byte false true w true y k = refl
    name_byte false true w false y k = refl
    name_byte false false true true y k = refl
    name_byte false false true false true k = refl
    name_byte false false true false false k = refl
    name_byte false false false d y k = absurd (cc)

    or_other : (t e : Bool) → e ≡ true → (t || e) ≡ true
    or_other true e k = refl
    or_other false e k = k

    by : (w e y : Bool) → begins_word b ≡ w → (b == hyphen) ≡ y
        → ((w || e) || (y && (begins_plain_name text || starts hyphen text))) ≡ true
        → (is_name_byte b || e) ≡ true
    by true e y ew ey k =
        let is : is_name_byte b ≡ true =
        name_byte (is_letter b) (b == underscore) (is_wide_byte b) (is_digit b) (b == hyphen) ew in
        rw is refl
    by false true y ew ey k = or_other (is_name_byte b) true refl
    by false false true ew ey k =
        let is : is_name_byte b ≡ true = ap is_name_byte (eqb-true b hyphen ey) in rw is refl
    by false false false ew ey k = absurd (cc)

name_value : (text : List ℕ) → begins_name text ≡ true
    → 0 < length (decoded_in false (before text (past_word text)))
name_value [] h = absurd (cc)
name_value (b ∷ text) h =
    let rest = past_word (b ∷ text) in
    nul-some (unescaped_in false (before (b ∷ text) rest))
    (decoded-some_bytes false refl (before (b ∷ text) rest)
    (omega (
      arith,
      word-less b text (name_starts b text h),
      ap length (word_ends (b ∷ text)),
      length-append (before (b ∷ text) rest) rest,
    )))

-- what is decoded has no U+0000
pub decoded_denoted : (in_string : Bool) (text : List ℕ) → IsDenoted (decoded_in in_string text)
decoded_denoted in_string text = nul-once (unescaped_in in_string text)

spelled_well : (text : List ℕ) → begins_name text ≡ true
    → IsName (decoded_in false (before text (past_word text)))
spelled_well text h = (name_value text h, decoded_denoted false (before text (past_word text)))

pub ident_well : (text n rest : List ℕ) → ident_sequence text ≡ got n rest → IsName n
unfolding ident_sequence
ident_well text n rest h = by (begins_name text) refl h
  where
    by : (t : Bool) → begins_name text ≡ t
        → (if t then got (decoded_in false (before text (past_word text))) (past_word text)
        else refused NoName text) ≡ got n rest → IsName n
    by false e k = absurd (cc)
    by true e k =
        let is : decoded_in false (before text (past_word text)) ≡ n = cc in
        subst IsName is (spelled_well text e)

pub name_well : (text n rest : List ℕ) → name text ≡ got n rest → IsName n
unfolding name
name_well text n rest h = by (begins_cdc text) h
  where
    by : (t : Bool) → (if t then refused NoName text else ident_sequence text) ≡ got n rest
        → IsName n
    by true k = absurd (cc)
    by false k = ident_well text n rest k

string_well : (opened : List ℕ) (quote : ℕ) (text v rest : List ℕ)
    → string opened quote text ≡ got v rest → IsDenoted v
unfolding string
string_well opened quote text v rest h = by (past_string_parts quote text) h
  where
    inside : List ℕ
    inside = before text (past_string_parts quote text)

    end : (t : Bool) (after : List ℕ) → (if t then got (decoded_in true inside) after
        else refused BrokenString opened) ≡ got v rest → IsDenoted v
    end true after k =
        let is : decoded_in true inside ≡ v = cc in subst IsDenoted is (decoded_denoted true inside)
    end false after k = absurd (cc)

    by : (left : List ℕ) → closed_string opened quote (decoded_in true inside) left ≡ got v rest
        → IsDenoted v
    by [] k =
        let is : decoded_in true inside ≡ v = cc in subst IsDenoted is (decoded_denoted true inside)
    by (b ∷ after) k = end (b == quote) after k

value_well : (text v rest : List ℕ) → value text ≡ got v rest → IsDenoted v
unfolding value
value_well [] v rest h = absurd (cc)
value_well (b ∷ text) v rest h = by (is_quote b) h
  where
    by : (t : Bool) → (if t then string (b ∷ text) b text else name (b ∷ text)) ≡ got v rest
        → IsDenoted v
    by true k = string_well (b ∷ text) b text v rest k
    by false k = (name_well (b ∷ text) v rest k).1

-- ---- An+B

digits_small : (n : ℕ) (text : List ℕ) → n ≤ 4294967295 → (digits n text).0 ≤ 4294967295
digits_small n [] h = h
digits_small n (b ∷ text) h =
    by (is_digit b) (digits_small (with_digit n b) text (omega arith))
  where
    by : (t : Bool) → (digits (with_digit n b) text).0 ≤ 4294967295
        → (if t then digits (with_digit n b) text else (n, b ∷ text)).0 ≤ 4294967295
    by true k = k
    by false k = h

offset_well : (step : Signed) (negative : Bool) (text : List ℕ) (p : Progression) (rest : List ℕ)
    → IsSize step → offset_after step negative text ≡ got p rest → IsProgression p
offset_well step negative text p rest fits h =
    by (starts_by is_digit text && not (begins_name (digits 0 text).1)) h
  where
    by : (t : Bool) → (if t then got (stepping step (signed negative (digits 0 text).0))
        (digits 0 text).1
        else refused NoProgression text) ≡ got p rest → IsProgression p
    by false k = absurd (cc)
    by true k =
        let is : stepping step (signed negative (digits 0 text).0) ≡ p = cc in
        subst IsProgression is (fits, digits_small 0 text (omega arith))

with_offset_well : (step : Signed) (text : List ℕ) (p : Progression) (rest : List ℕ)
    → IsSize step → with_offset step text ≡ got p rest → IsProgression p
unfolding with_offset offset_or_none
with_offset_well step text p rest fits h =
    let f = followed (gap text) (λ x. offset_or_none step) p rest h in
    by f.middle (starts_by is_sign f.middle) f.second
  where
    by : (mid : List ℕ) (t : Bool) → (if t
        then follow (gap (sign mid).1) (λ x. offset_after step (sign mid).0)
        else got (stepping step (signed false 0)) mid) ≡ got p rest → IsProgression p
    by mid true k =
        let f = followed (gap (sign mid).1) (λ x. offset_after step (sign mid).0) p rest k in
        offset_well step (sign mid).0 f.middle p rest fits f.second
    by mid false k =
        let is : stepping step (signed false 0) ≡ p = cc in
        subst IsProgression is (fits, omega arith)

odd_well : (start word text : List ℕ) (p : Progression) (rest : List ℕ)
    → odd_or_even start word text ≡ got p rest → IsProgression p
odd_well start word text p rest h =
    by (str_eq_ignore_ascii_case word (codes "odd")) (str_eq_ignore_ascii_case word
    (codes "even")) h
  where
    by : (o e : Bool) → (if o then got (stepping (signed false 2) (signed false 1)) text
        else (if e then got (stepping (signed false 2) (signed false 0)) text
        else refused NoProgression start)) ≡ got p rest → IsProgression p
    by true e k =
        let is : stepping (signed false 2) (signed false 1) ≡ p = cc in
        subst IsProgression is (omega arith, omega arith)
    by false true k =
        let is : stepping (signed false 2) (signed false 0) ≡ p = cc in
        subst IsProgression is (omega arith, omega arith)
    by false false k = absurd (cc)

subtracted_well : (start : List ℕ) (step : Signed) (number text : List ℕ) (p : Progression)
    (rest : List ℕ) → IsSize step → subtracted start step number text ≡ got p rest
    → IsProgression p
unfolding subtracted
subtracted_well start step [] text p rest fits h =
    let f = followed (gap text) (λ x. offset_after step true) p rest h in
    offset_well step true f.middle p rest fits f.second
subtracted_well start step (b ∷ number) text p rest fits h = by (is_number (b ∷ number)) h
  where
    by : (t : Bool) → (if t then got (stepping step (signed true (digits 0 (b ∷ number)).0)) text
        else refused NoProgression start) ≡ got p rest → IsProgression p
    by false k = absurd (cc)
    by true k =
        let is : stepping step (signed true (digits 0 (b ∷ number)).0) ≡ p = cc in
        subst IsProgression is (fits, digits_small 0 (b ∷ number) (omega arith))

tail_well : (start : List ℕ) (step : Signed) (tail text : List ℕ) (p : Progression)
    (rest : List ℕ) → IsSize step → by_tail start step tail text ≡ got p rest → IsProgression p
unfolding by_tail
tail_well start step [] text p rest fits h = with_offset_well step text p rest fits h
tail_well start step (b ∷ tail) text p rest fits h = by (b == hyphen) h
  where
    by : (t : Bool) → (if t then subtracted start step tail text
        else refused NoProgression start) ≡ got p rest → IsProgression p
    by false k = absurd (cc)
    by true k = subtracted_well start step tail text p rest fits k

n_word_well : (start : List ℕ) (step : Signed) (word text : List ℕ) (p : Progression)
    (rest : List ℕ) → IsSize step → n_word start step word text ≡ got p rest → IsProgression p
unfolding n_word
n_word_well start step word text p rest fits h = by (starts_by is_n word) h
  where
    by : (t : Bool) → (if t then by_tail start step (past_one word) text
        else refused NoProgression start) ≡ got p rest → IsProgression p
    by false k = absurd (cc)
    by true k = tail_well start step (past_one word) text p rest fits k

word_well : (start word text : List ℕ) (p : Progression) (rest : List ℕ)
    → word_progression start word text ≡ got p rest → IsProgression p
word_well start word text p rest h = by (starts hyphen word) (starts_by is_n word) h
  where
    by : (m n : Bool) → (if m then n_word start (signed true 1) (past_one word) text
        else (if n then n_word start (signed false 1) word text
        else odd_or_even start word text)) ≡ got p rest → IsProgression p
    by true n k = n_word_well start (signed true 1) (past_one word) text p rest (omega arith) k
    by false true k = n_word_well start (signed false 1) word text p rest (omega arith) k
    by false false k = odd_well start word text p rest k

numbered_well : (start : List ℕ) (negative : Bool) (size : ℕ) (text : List ℕ) (p : Progression)
    (rest : List ℕ) → size ≤ 4294967295 → numbered start negative size text ≡ got p rest
    → IsProgression p
numbered_well start negative size text p rest fits h = by (begins_name text) h
  where
    by : (t : Bool) → (if t then follow (ident_sequence text) (n_word start (signed negative size))
        else got (stepping (signed false 0) (signed negative size)) text) ≡ got p rest
        → IsProgression p
    by true k =
        let f = followed (ident_sequence text) (n_word start (signed negative size)) p rest k in
        n_word_well start (signed negative size) f.value f.middle p rest fits f.second
    by false k =
        let is : stepping (signed false 0) (signed negative size) ≡ p = cc in
        subst IsProgression is (omega arith, fits)

unsigned_well : (start : List ℕ) (negative : Bool) (text : List ℕ) (p : Progression)
    (rest : List ℕ) → unsigned start negative text ≡ got p rest → IsProgression p
unsigned_well start negative text p rest h = by (starts_by is_digit text) h
  where
    by : (t : Bool) → (if t then numbered start negative (digits 0 text).0 (digits 0 text).1
        else follow (name start) (word_progression start)) ≡ got p rest → IsProgression p
    by true k =
        numbered_well start negative (digits 0 text).0 (digits 0 text).1 p rest
        (digits_small 0 text (omega arith)) k
    by false k =
        let f = followed (name start) (word_progression start) p rest k in
        word_well start f.value f.middle p rest f.second

progression_well : (text : List ℕ) (p : Progression) (rest : List ℕ)
    → progression text ≡ got p rest → IsProgression p
unfolding progression
progression_well text p rest h = by (is_lone_plus text) h
  where
    named : List ℕ
    named = past_comments (past_one text)

    by : (t : Bool) → (if t then follow (name named) (n_word text (signed false 1))
        else unsigned text (sign text).0 (sign text).1) ≡ got p rest → IsProgression p
    by true k =
        let f = followed (name named) (n_word text (signed false 1)) p rest k in
        n_word_well text (signed false 1) f.value f.middle p rest (omega arith) f.second
    by false k = unsigned_well text (sign text).0 (sign text).1 p rest k

-- ---- simple selectors

-- what is given after a closing byte was there before it
pub closed_well : {A : Type 0} (P : A → Type 0) (byte : ℕ) (x y : A)
    (text rest : List ℕ) → follow (gap text) (λ z. closing byte >> give x) ≡ got y rest
    → P x → P y
closed_well P byte x y text rest h =
    let f = followed (gap text) (λ z. closing byte >> give x) y rest h in
    let g = followed (closing byte f.middle) (λ z. give x) y rest f.second in
    let is : x ≡ y = (let k = g.second in cc) in
    subst P is

-- ---- namespaces

prefix_well : (names : Names) (text : List ℕ) (p : Namespace) → prefix names text ≡ Some p
    → IsNamespace names p
unfolding prefix
prefix_well names text p h = by (starts asterisk text) (begins_name text) refl h
  where
    word : List ℕ
    word = decoded_in false (before text (past_word text))

    declared : begins_name text ≡ true → (o : Option ℕ) → number_of names word ≡ o
        → option_map (of_prefix word) o ≡ Some p → IsNamespace names p
    declared e None is k = absurd (cc)
    declared e (Some number) is k =
        let same : of_prefix word number ≡ p = cc in
        subst (IsNamespace names) same (spelled_well text e, is)

    by : (a n : Bool) → begins_name text ≡ n
        → (if a then Some any_namespace
        else (if n then of_declared names word else Some absent)) ≡ Some p
        → IsNamespace names p
    by true n e k = let is : any_namespace ≡ p = cc in subst (IsNamespace names) is tt
    by false true e k = declared e (number_of names word) refl k
    by false false e k = let is : absent ≡ p = cc in subst (IsNamespace names) is tt

namespace_well : (names : Names) (text : List ℕ) (p : Namespace) (rest : List ℕ)
    → namespace names text ≡ got (Some p) rest → IsNamespace names p
unfolding namespace
namespace_well names text p rest h = by (is_bar (at_bar text)) h
  where
    after : List ℕ
    after = past_comments (past_one (at_bar text))

    read : (o : Option Namespace) → prefix names text ≡ o
        → if_declared text o after ≡ got (Some p) rest → IsNamespace names p
    read None e k = absurd (cc)
    read (Some q) e k =
        let is : q ≡ p = cc in subst (IsNamespace names) is (prefix_well names text q e)

    by : (t : Bool) → (if t then if_declared text (prefix names text) after else got None text)
        ≡ got (Some p) rest → IsNamespace names p
    by true k = read (prefix names text) refl k
    by false k = absurd (cc)

-- ---- attributes

by_comparison_well : (n : List ℕ) → IsName n → (o : Option Comparison) (text : List ℕ) (l : Local)
    (rest : List ℕ) → by_comparison n o text ≡ got l rest → IsAttribute l
unfolding compared
by_comparison_well n some None text l rest k =
    let f = followed (closing close_bracket text) (λ x. give (some_attribute n)) l rest k in
    let is : some_attribute n ≡ l = (let e = f.second in cc) in
    subst IsAttribute is some
by_comparison_well n some (Some c) text l rest k =
    let f = followed (gap text) (λ x. value >>= λ v. gap >> (flag >>= λ i. gap >>
    (closing close_bracket >> give (an_attribute n c v i)))) l rest k in
    let g = followed (value f.middle) (λ v. gap >> (flag >>= λ i. gap >>
    (closing close_bracket >> give (an_attribute n c v i)))) l rest f.second in
    let j = followed (gap g.middle) (λ x. flag >>= λ i. gap >>
    (closing close_bracket >> give (an_attribute n c g.value i))) l rest g.second in
    let m = followed (flag j.middle) (λ i. gap >>
    (closing close_bracket >> give (an_attribute n c g.value i))) l rest j.second in
    closed_well IsAttribute close_bracket (an_attribute n c g.value m.value) l m.middle rest
    m.second (some, value_well f.middle g.value g.middle g.first)

from_name_well : (text : List ℕ) (l : Local) (rest : List ℕ)
    → attribute_from_name text ≡ got l rest → IsAttribute l
unfolding attribute_from_name
from_name_well text l rest h =
    let f = followed (name text) (λ n. gap >> (comparison >>= by_comparison n)) l rest h in
    let g = followed (gap f.middle) (λ x. comparison >>= by_comparison f.value) l rest f.second in
    let k = followed (comparison g.middle) (by_comparison f.value) l rest g.second in
    by_comparison_well f.value (name_well text f.value f.middle f.first) k.value k.middle l rest
    k.second

-- an attribute selector, with a namespace or without one
attribute_in_well : (names : Names) (o : Option Namespace) (text mid : List ℕ) → namespace names text ≡ got o mid
    → (l : Local) → IsAttribute l → IsFurther names (in_namespace o l)
attribute_in_well names (Some p) text mid h l w = (namespace_well names text p mid h, w)
attribute_in_well names None text mid h any_type w = absurd w
attribute_in_well names None text mid h implied w = absurd w
attribute_in_well names None text mid h (a_type n) w = absurd w
attribute_in_well names None text mid h (some_attribute n) w = w
attribute_in_well names None text mid h (an_attribute n c v ignores) w = w

attribute_well : (names : Names) (text : List ℕ) (s : Simple) (rest : List ℕ)
    → attribute_selector names text ≡ got s rest → IsFurther names s
unfolding attribute_selector
attribute_well names text s rest h =
    let f = followed (gap text) (λ x. namespace names >>= λ n. attribute_from_name >>= λ l.
    give (in_namespace n l)) s rest h in
    let g = followed (namespace names f.middle) (λ n. attribute_from_name >>= λ l.
    give (in_namespace n l)) s rest f.second in
    let k = followed (attribute_from_name g.middle) (λ l. give (in_namespace g.value l)) s rest
    g.second in
    let is : in_namespace g.value k.value ≡ s = (let e = k.second in cc) in
    subst (IsFurther names) is
    (attribute_in_well names g.value f.middle g.middle g.first k.value
    (from_name_well g.middle k.value k.middle k.first))

-- ---- arguments of pseudo-classes

range_well : (text range rest : List ℕ) → next_range text ≡ item range rest → IsDenoted range
unfolding next_range
range_well text range rest h = by (gap text) h
  where
    read : (t : Bool) (mid : List ℕ)
        → (if t then as_item (λ r. r) ((gap >> value) (past_one mid)) else none) ≡ item range rest
        → IsDenoted range
    read false mid k = absurd (cc)
    read true mid k =
        let m = made (λ r. r) ((gap >> value) (past_one mid)) range rest k in
        let f = followed (gap (past_one mid)) (λ x. value) m.value rest m.first in
        subst IsDenoted m.is (value_well f.middle m.value rest f.second)

    by : (r : Reading Bool) → range_after r ≡ item range rest → IsDenoted range
    by (refused why mid) k = absurd (cc)
    by (got spaced mid) k = read (starts comma mid) mid k

ranges_well : (text : List ℕ) (ranges : List (List ℕ)) (rest : List ℕ)
    → language_ranges text ≡ got ranges rest → 0 < length ranges × All IsDenoted ranges
unfolding language_ranges
ranges_well text ranges rest h =
    let f = followed (gap text) (λ x. value >>= λ first. one_more first
    (items next_range) >>= λ all.
    gap >> (closing close_parenthesis >> give all)) ranges rest h in
    let g = followed (value f.middle) (λ first. one_more first (items next_range) >>= λ all.
    gap >> (closing close_parenthesis >> give all)) ranges rest f.second in
    let i = followed (one_more g.value (items next_range) g.middle) (λ all.
    gap >> (closing close_parenthesis >> give all)) ranges rest g.second in
    let all = first_of_all g.value (items next_range g.middle) i.value i.middle i.first in
    closed_well (λ (l : List (List ℕ)). 0 < length l × All IsDenoted l) close_parenthesis i.value
    ranges i.middle rest i.second (
      some_first g.value (items next_range g.middle) i.value i.middle all,
      subst (All IsDenoted) all.is (All-cons IsDenoted g.value all.others
          (value_well f.middle g.value g.middle g.first)
          (all_items next_range IsDenoted range_well g.middle all.others i.middle all.reads)),
    )

-- an argument that is kept
pub argument_of_well : (names : List (List ℕ)) (opened n text a rest : List ℕ)
    → argument_of names opened n text ≡ got a rest → IsArgumentOf names n a
argument_of_well names opened n text a rest h = by (is_one_of names n) refl h
  where
    by : (t : Bool) → is_one_of names n ≡ t
        → (if t then argument text else refused UnknownFunction opened) ≡ got a rest
        → IsArgumentOf names n a
    by false e k = absurd (cc)
    by true e k = (e, argument-again text a rest k [])

-- ---- functional pseudo-classes, by what reads a list

-- what was read as `An+B`, and what after it
pub record NumberedRead (list : ListReader) (opened : List ℕ) (kind : Numbering) (c : Condition)
    (rest : List ℕ) : Type 0 where
  pub value : Progression
  pub start : List ℕ
  pub middle : List ℕ
  pub after : List ℕ
  pub first : progression start ≡ got value middle
  pub last : after_progression list opened kind value (list_test kind value) after ≡ got c rest

pub numbered_read : (list : ListReader) (opened : List ℕ) (kind : Numbering) (text : List ℕ)
    (c : Condition) (rest : List ℕ)
    → (gap >> (progression >>= λ p. gap >> after_progression list opened kind p (list_test kind p))) text
    ≡ got c rest
    → NumberedRead list opened kind c rest
numbered_read list opened kind text c rest h =
    let f = followed (gap text) (λ x. progression >>= λ p. gap >>
    after_progression list opened kind p (list_test kind p)) c rest h in
    let g = followed (progression f.middle) (λ p. gap >>
    after_progression list opened kind p (list_test kind p)) c rest f.second in
    let i = followed (gap g.middle) (λ x. after_progression list opened kind g.value (list_test kind g.value)) c
    rest g.second in
    record {
      value = g.value;
      start = f.middle;
      middle = g.middle;
      after = i.middle;
      first = g.first;
      last = i.second;
    }

-- a list is asked something only after a well-formed `An+B`
test_well : (kind : Numbering) (p : Progression) (test : ListTest) → IsProgression p
    → list_test kind p ≡ Some test → IsTest test × (Not ≡ kind_of test)
test_well OfChild p test fits e =
    let is : nth_child_list p ≡ test = cc in
    subst (λ (t : ListTest). IsTest t × (Not ≡ kind_of t)) is (fits, refl)
test_well OfLastChild p test fits e =
    let is : nth_last_child_list p ≡ test = cc in
    subst (λ (t : ListTest). IsTest t × (Not ≡ kind_of t)) is (fits, refl)
test_well OfType p test fits e = absurd (cc)
test_well OfLastType p test fits e = absurd (cc)

-- where each list that is not forgiving is well-formed
module _ (d : Room) (list : ListReader) (opened : List ℕ)
    (lists : (text : List ℕ) (ss : List (List Part)) (rest : List ℕ) → list Not opened text ≡ got ss rest
    → IsList Not d (selectors_from ss)) where
  of_list_well : (test : ListTest) (text : List ℕ) (c : Condition) (rest : List ℕ)
      → IsTest test × (Not ≡ kind_of test) → of_list list test opened text ≡ got c rest
      → IsFurtherCondition d c
  of_list_well test text c rest fits h =
      let f = followed (list Not opened text) (λ ss. give (tested test (selectors_from ss))) c rest h in
      let is : tested test (selectors_from f.value) ≡ c = (let e = f.second in cc) in
      subst (IsFurtherCondition d) is (
        fits.0,
        subst (λ (k : ListKind). IsList k d (selectors_from f.value)) fits.1
            (lists text f.value f.middle f.first),
      )

  without_list_well : (kind : Numbering) (p : Progression) (text : List ℕ) (c : Condition)
      (rest : List ℕ) → IsProgression p → without_list kind p text ≡ got c rest
      → IsFurtherCondition d c
  without_list_well kind p text c rest fits h =
      let f = followed (closing close_parenthesis text)
      (λ x. give (simple (structure (numbered_by kind p)))) c rest h in
      let is : simple (structure (numbered_by kind p)) ≡ c = (let e = f.second in cc) in
      subst (IsFurtherCondition d) is (by kind)
    where
      by : (k : Numbering) → IsFurtherCondition d (simple (structure (numbered_by k p)))
      by OfChild = fits
      by OfLastChild = fits
      by OfType = fits
      by OfLastType = fits

  after_progression_well : (kind : Numbering) (p : Progression) (o : Option ListTest)
      (text : List ℕ) (c : Condition) (rest : List ℕ) → IsProgression p → list_test kind p ≡ o
      → after_progression list opened kind p o text ≡ got c rest → IsFurtherCondition d c
  after_progression_well kind p None text c rest fits is h =
      without_list_well kind p text c rest fits h
  after_progression_well kind p (Some test) text c rest fits is h = by (begins_name text) h
    where
      word : (n mid : List ℕ) (t : Bool) → (if t then of_list list test opened mid
          else refused Unexpected text) ≡ got c rest → IsFurtherCondition d c
      word n mid true k = of_list_well test mid c rest (test_well kind p test fits is) k
      word n mid false k = absurd (cc)

      by : (t : Bool) → (if t then follow (name text) (after_word list opened test text)
          else without_list kind p text) ≡ got c rest → IsFurtherCondition d c
      by true k =
          let f = followed (name text) (after_word list opened test text) c rest k in
          word f.value f.middle (is_word (codes "of") f.value) f.second
      by false k = without_list_well kind p text c rest fits k

  pub functional_well : (n text : List ℕ) (kind : Option Function) (c : Condition) (rest : List ℕ)
      → IsName n → list_kind n ≡ None → function_named n ≡ kind
      → functional d.names list opened n kind text ≡ got c rest → IsFurtherCondition d c
  functional_well n text None c rest some no_list no_kind h =
      let f = followed (argument_of (functions d.names) opened n text) (λ a. give (simple (function n a))) c rest h
      in
      let is : simple (function n f.value) ≡ c = (let e = f.second in cc) in
      subst (IsFurtherCondition d) is
      (some, no_list, no_kind, argument_of_well (functions d.names) opened n text f.value f.middle f.first)
  functional_well n text (Some Language) c rest some no_list is_kind h =
      let f = followed (language_ranges text) (λ ranges. give (simple (language ranges))) c rest h in
      let is : simple (language f.value) ≡ c = (let e = f.second in cc) in
      subst (IsFurtherCondition d) is (ranges_well text f.value f.middle f.first)
  functional_well n text (Some (Numbered kind)) c rest some no_list is_kind h =
      let r = numbered_read list opened kind text c rest h in
      after_progression_well kind r.value (list_test kind r.value) r.after c rest
      (progression_well r.start r.value r.middle r.first) refl r.last

-- a pseudo-class that is only a name
PlainWell : Option Structure → Type 0
PlainWell None = Unit {0}
PlainWell (Some s) = IsStructure s

either_plain : (t : Bool) (a b : Option Structure) → PlainWell a → PlainWell b
    → PlainWell (if t then a else b)
either_plain true a b h k = h
either_plain false a b h k = k

plain_well : (n : List ℕ) → PlainWell (plain_structure n)
unfolding PlainWell
plain_well n =
    either_plain (is_word (codes "root") n) (Some root) _ tt
    (either_plain (is_word (codes "scope") n) (Some scope) _ tt
    (either_plain (is_word (codes "empty") n) (Some empty) _ tt
    (either_plain (is_word (codes "first-child") n) (Some first_child) _ tt
    (either_plain (is_word (codes "last-child") n) (Some last_child) _ tt
    (either_plain (is_word (codes "only-child") n) (Some only_child) _ tt
    (either_plain (is_word (codes "first-of-type") n) (Some first_of_type) _ tt
    (either_plain (is_word (codes "last-of-type") n) (Some last_of_type) _ tt
    (either_plain (is_word (codes "only-of-type") n) (Some only_of_type) None tt tt))))))))

plain_pseudo_well : (names : Names) (opened n text : List ℕ) (s : Simple) (rest : List ℕ) → IsName n
    → is_old_element n ≡ false → plain_pseudo names opened n (plain_structure n) text ≡ got s rest
    → IsFurther names s
unfolding PlainWell
plain_pseudo_well names opened n text s rest some other h = by (plain_structure n) refl (plain_well n) h
  where
    known : plain_structure n ≡ None → (t : Bool) → is_one_of (states names) n ≡ t
        → (if t then got (state n) text else refused UnknownName opened) ≡ got s rest → IsFurther names s
    known e true q k =
        let is : state n ≡ s = cc in subst (IsFurther names) is (some, e, other, q)
    known e false q k = absurd (cc)

    by : (o : Option Structure) → plain_structure n ≡ o → PlainWell o
        → plain_pseudo names opened n o text ≡ got s rest → IsFurther names s
    by None e w k = known e (is_one_of (states names) n) refl k
    by (Some t) e w k = let is : structure t ≡ s = cc in subst (IsFurther names) is w

pub named_pseudo_well : (names : Names) (opened n text : List ℕ) (s : Simple) (rest : List ℕ) → IsName n
    → named_pseudo names opened n text ≡ item s rest → IsFurther names s
named_pseudo_well names opened n text s rest some h = by (is_old_element n) refl h
  where
    by : (t : Bool) → is_old_element n ≡ t
        → (if t then none else as_item (λ x. x) (plain_pseudo names opened n (plain_structure n) text))
        ≡ item s rest
        → IsFurther names s
    by true e k = absurd (cc)
    by false e k =
        let m = made (λ x. x) (plain_pseudo names opened n (plain_structure n) text) s rest k in
        subst (IsFurther names) m.is (plain_pseudo_well names opened n text m.value rest some e m.first)

-- what is a name after a sign
named_well : (names : Names) (make : List ℕ → Simple) → ((n : List ℕ) → IsName n → IsFurther names (make n))
    → (r : Reading (List ℕ)) → ((n rest : List ℕ) → r ≡ got n rest → IsName n) → (s : Simple)
    (rest : List ℕ) → as_item make r ≡ item s rest → IsFurther names s
named_well names make well r are s rest h =
    let m = made make r s rest h in
    subst (IsFurther names) m.is (well m.value (are m.value rest m.first))

pub next_simple_well : (names : Names) (text : List ℕ) (s : Simple) (rest : List ℕ)
    → next_simple names text ≡ item s rest → IsFurther names s
unfolding next_simple
next_simple_well names [] s rest h = absurd (cc)
next_simple_well names (b ∷ text) s rest h =
    by (b == full_stop) (b == number_sign) (b == open_bracket) (b == ampersand) h
  where
    by : (c i o a : Bool) → (if c then as_item class (name (past_comments text))
        else (if i then as_item id (ident_sequence text)
        else (if o then as_item (λ s. s) (attribute_selector names text)
        else (if a then item (nesting outermost) text else none)))) ≡ item s rest → IsFurther names s
    by true i o a k =
        named_well names class (λ n some. some) (name (past_comments text))
        (name_well (past_comments text)) s rest k
    by false true o a k =
        named_well names id (λ n some. some) (ident_sequence text) (ident_well text) s rest k
    by false false true a k =
        let m = made (λ x. x) (attribute_selector names text) s rest k in
        subst (IsFurther names) m.is (attribute_well names text m.value rest m.first)
    by false false false true k = let is : nesting outermost ≡ s = cc in subst (IsFurther names) is refl
    by false false false false k = absurd (cc)

any_or_name_well : (text : List ℕ) (l : Local) (rest : List ℕ) → any_or_name text ≡ got l rest
    → IsLocal l
unfolding any_or_name
any_or_name_well text l rest h = by (starts asterisk text) h
  where
    by : (a : Bool) → (if a then got any_type (past_one text)
        else follow (name text) (λ n. give (a_type n))) ≡ got l rest → IsLocal l
    by true k = let is : any_type ≡ l = cc in subst IsLocal is tt
    by false k =
        let f = followed (name text) (λ n. give (a_type n)) l rest k in
        let is : a_type f.value ≡ l = (let e = f.second in cc) in
        subst IsLocal is (name_well text f.value f.middle f.first)

type_in_well : (names : Names) (o : Option Namespace) (text mid : List ℕ) → namespace names text ≡ got o mid
    → (l : Local) → IsLocal l → IsFirst names (in_namespace o l)
type_in_well names (Some p) text mid h l w = (namespace_well names text p mid h, w)
type_in_well names None text mid h any_type w = tt
type_in_well names None text mid h implied w = absurd w
type_in_well names None text mid h (a_type n) w = w
type_in_well names None text mid h (some_attribute n) w = w
type_in_well names None text mid h (an_attribute n c v ignores) w = w

pub type_well : (names : Names) (text : List ℕ) (s : Simple) (rest : List ℕ) → type_selector names text ≡ item s rest
    → IsFirst names s
unfolding type_selector
type_well names text s rest h =
    let f = found_after (namespace names text) type_after s rest h in
    by f.value f.middle f.first f.second
  where
    here : (o : Option Namespace) (mid : List ℕ) → namespace names text ≡ got o mid
        → as_item (in_namespace o) (any_or_name mid) ≡ item s rest → IsFirst names s
    here o mid e k =
        let m = made (in_namespace o) (any_or_name mid) s rest k in
        subst (IsFirst names) m.is
        (type_in_well names o text mid e m.value (any_or_name_well mid m.value rest m.first))

    by : (o : Option Namespace) (mid : List ℕ) → namespace names text ≡ got o mid
        → type_after o mid ≡ item s rest → IsFirst names s
    by (Some p) mid e k = here (Some p) mid e k
    by None mid e k = there (starts asterisk mid || begins_name mid) k
      where
        there : (t : Bool) → (if t then as_item (in_namespace None) (any_or_name mid) else none)
            ≡ item s rest → IsFirst names s
        there true k = here None mid e k
        there false k = absurd (cc)

-- what may follow others may be the first
pub first_of_further : (names : Names) (s : Simple) → IsFurther names s → IsFirst names s
first_of_further names universal w = tt
first_of_further names (type_name n) w = absurd w
first_of_further names (id n) w = w
first_of_further names (class n) w = w
first_of_further names (has_attribute n) w = w
first_of_further names (attribute n c v ignores) w = w
first_of_further names (structure s) w = w
first_of_further names (language ranges) w = w
first_of_further names (state n) w = w
first_of_further names (function n a) w = w
first_of_further names (named_element n a) w = absurd w
first_of_further names (nesting list) w = w
first_of_further names (namespaced p any_type) w = absurd w.1
first_of_further names (namespaced p implied) w = absurd w.1
first_of_further names (namespaced p (a_type n)) w = absurd w.1
first_of_further names (namespaced p (some_attribute n)) w = w
first_of_further names (namespaced p (an_attribute n c v ignores)) w = w
