-- A printed `An+B` reads back.
-- Serves `printing_laws::printing_law`.
use Rattle.std.proofs.Common.{◌≡◌, ℕ, ◌+◌, ◌*◌, ◌-◌, ◌<◌, ◌≤◌, ◌==◌, ◌&&◌, not, Bool, true, false, List, [], ◌∷◌, ◌++◌, decimal, None, length, flat_map, append_assoc, append-nil, arith, refl, sym, ap, ◌∙◌, subst, eqb-true}
use Rattle.std.specs.Prelude.{codes, if◌then◌else◌}
use Rattle.std.specs.Char.{digit_value}
use Rattle.std.specs.Str.Parse.{AllDigits, digits_value_after}
use Rattle.std.proofs.lemmas.Bool.Decides.{nat_tests}
use Rattle.std.proofs.lemmas.Fmt.{decimal_is_IsNumeral}
use Rattle.std.proofs.lemmas.Str.{digit_value_digit}
use Rattle.std.proofs.lemmas.Str.Parse.{digit_from_value}
use Rattle.css_text.specs.AsciiBytes.{close_parenthesis, hyphen, plus_sign, slash, space}
use Rattle.css_text.specs.Characters.{is_space}
use Rattle.css_text.specs.Bytes.{starts_by, is_digit, past_one}
use Rattle.css_text.proofs.bytes.GapLemmas.{NoGap, no_gap-byte, gap-none, gap-space}
use Rattle.css_selector_text.specs.Components.{Signed, Progression}
use Rattle.css_selector_text.specs.declared.refusal.Why.TheVariants.{NoProgression}
use Rattle.css_selector_text.specs.reading.Readings.{Reading, got, refused, Reader, follow, ◌>>◌, give}
use Rattle.css_selector_text.specs.reading.Grammar.{gap, past_comments, begins_name, closed_gap, digits, with_digit, sign, is_sign, signed, stepping, offset_after, offset_or_none, with_offset, is_number, subtracted, by_tail, n_word, numbered, is_lone_plus, unsigned, progression, ident_sequence, name, word_progression}
use Rattle.css_selector_text.proofs.round_trip.SpelledAgain.{EndsName, begins-again, ident-again, name-again, all_below, passes, none_passes}
use Rattle.css_selector_text.specs.printing.Printing.{minus_text, signed_text, is_zero, size_text, plus_text, offset_text, progression_text, is_kept, byte_text, escape_text, start_text, identifier_text}
use Rattle.css_selector_text.specs.printing.WellFormed.{IsDenoted, IsName}

-- ---- gaps

-- no gap is read where none begins
pub no_gap : (text : List ℕ) → NoGap text → gap text ≡ got false text
unfolding gap
no_gap text w = ap closed_gap (gap-none text w)

-- a blank before that
pub one_blank : (text : List ℕ) → NoGap text → gap (32 ∷ text) ≡ got true text
unfolding gap
one_blank text w = ap closed_gap (gap-space text w)

-- ---- digits

-- a byte of a number
is_digit-true : (c : ℕ) → 48 ≤ c → c ≤ 57 → is_digit c ≡ true
is_digit-true c low high = grind (arith, nat_tests)

digits_stop : (n : ℕ) (rest : List ℕ) → starts_by is_digit rest ≡ false
    → digits n rest ≡ (n, rest)
digits_stop n [] e = refl
digits_stop n (b ∷ rest) e = rw e refl

value_grows : (n : ℕ) (ds : List ℕ) → n ≤ digits_value_after 10 n ds
value_grows n [] = omega arith
value_grows n (c ∷ ds) = omega (arith, value_grows (n * 10 + digit_value c) ds)

digits_after : (n : ℕ) (ds rest : List ℕ) → AllDigits 10 ds
    → digits_value_after 10 n ds ≤ 4294967295 → starts_by is_digit rest ≡ false
    → digits n (ds ++ rest) ≡ (digits_value_after 10 n ds, rest)
digits_after n [] rest all small stop = digits_stop n rest stop
digits_after n (c ∷ ds) rest all small stop =
    let r = digit_from_value c all.0 in
    let own = digit_value_digit c r in
    let most = value_grows (n * 10 + digit_value c) ds in
    let is : is_digit c ≡ true = is_digit-true c r.0 r.1 in
    let next : with_digit n c ≡ n * 10 + digit_value c = omega (arith, own, most, small, r.0) in
    ap (λ (t : Bool). if t then digits (with_digit n c) (ds ++ rest) else (n, c ∷ (ds ++ rest))) is
    ∙ ap (λ m. digits m (ds ++ rest)) next
    ∙ digits_after (n * 10 + digit_value c) ds rest all.1 small stop

pub digits-again : (n : ℕ) (rest : List ℕ) → n ≤ 4294967295
    → starts_by is_digit rest ≡ false → digits 0 (decimal n ++ rest) ≡ (n, rest)
digits-again n rest small stop =
    let d = decimal_is_IsNumeral n (omega arith) in
    digits_after 0 (decimal n) rest d.0.1 (omega (arith, d.1)) stop ∙ ap (λ m. (m, rest)) d.1

-- the first digit of a number
record FirstDigit (text : List ℕ) : Type 0 where
  pub first : ℕ
  pub others : List ℕ
  pub is : text ≡ first ∷ others
  pub low : 48 ≤ first
  pub high : first ≤ 57

first_digit : (n : ℕ) → n ≤ 4294967295 → FirstDigit (decimal n)
first_digit n small = by (decimal n) (decimal_is_IsNumeral n (omega arith)).0
  where
    by : (ds : List ℕ) → (0 < length ds) × AllDigits 10 ds → FirstDigit ds
    by [] h = absurd (omega (arith, h.0))
    by (c ∷ ds) h =
        let r = digit_from_value c h.1.0 in
        record { first = c; others = ds; is = refl; low = r.0; high = r.1 }

-- ---- An+B

digit_byte : (d : ℕ) → 48 ≤ d → d ≤ 57 → (test : ℕ → Bool)
    → all_below (λ k. test (48 + k)) 10 ≡ true
    → test d ≡ true
digit_byte d low high test all =
    subst (λ k. test k ≡ true) (omega arith) (passes (λ k. test (48 + k)) 10 (d - 48) all
    (omega arith))

digit_other : (d : ℕ) → 48 ≤ d → d ≤ 57 → (test : ℕ → Bool)
    → all_below (λ k. not (test (48 + k))) 10 ≡ true → test d ≡ false
digit_other d low high test all = none_passes (test d) (digit_byte d low high (λ k. not
    (test k)) all)

-- a number begins with no sign, and no gap begins with it
number_calm : (n : ℕ) (rest : List ℕ) → n ≤ 4294967295 → NoGap (decimal n ++ rest)
number_calm n rest small =
    let f = first_digit n small in
    subst (λ l. NoGap (l ++ rest)) (sym f.is)
    (no_gap-byte f.first (f.others ++ rest) (digit_other f.first f.low f.high is_space refl)
    (digit_other f.first f.low f.high (λ k. k == slash) refl))

number_unsigned : (n : ℕ) (rest : List ℕ) → n ≤ 4294967295
    → sign (decimal n ++ rest) ≡ (false, decimal n ++ rest)
number_unsigned n rest small =
    let f = first_digit n small in
    let one : (f.first == hyphen) ≡ false =
    digit_other f.first f.low f.high (λ k. k == hyphen) refl in
    let two : (f.first == plus_sign) ≡ false =
    digit_other f.first f.low f.high (λ k. k == plus_sign) refl in
    subst (λ l. sign (l ++ rest) ≡ (false, l ++ rest)) (sym f.is) (rw (one, two) refl)

number_begins : (n : ℕ) (rest : List ℕ) → n ≤ 4294967295
    → starts_by is_digit (decimal n ++ rest) ≡ true
number_begins n rest small =
    let f = first_digit n small in
    subst (λ l. starts_by is_digit (l ++ rest) ≡ true) (sym f.is)
    (digit_byte f.first f.low f.high is_digit refl)

-- what is after a printed `An+B`, and what is left of that after a gap
pub record Ended (end left : List ℕ) : Type 0 where
  pub spaced : Bool
  pub gap_there : gap end ≡ got spaced left
  pub solid : gap left ≡ got false left
  pub unsigned : starts_by is_sign left ≡ false
  pub ends : EndsName end
  pub stops : starts_by is_digit end ≡ false
  pub unnamed : begins_name end ≡ false

-- a value, and a gap after it
abbrev pub gapped : {A : Type 0} → Reading A → Reading A
gapped r = follow r (λ x. gap >> give x)

pub gapped_next : {A B : Type 0} (r : Reading A) (next : A → Reader B) (x : A) (left : List ℕ)
    → gapped r ≡ got x left → follow r (λ y. gap >> next y) ≡ next x left
gapped_next {A} {B} (got y mid) next x left h = by (gap mid) h
  where
    by : (g : Reading Bool) → follow g (λ s. give y) ≡ got x left
        → follow g (λ s. next y) ≡ next x left
    by (got s m) k =
        let one : y ≡ x = cc in
        let two : m ≡ left = cc in
        ap (λ z. next z m) one ∙ ap (next x) two
    by (refused why m) k = absurd (cc)
gapped_next (refused why m) next x left h = absurd (cc)

-- the closing parenthesis
pub closed_end : (rest : List ℕ) → Ended (close_parenthesis ∷ rest) (close_parenthesis ∷ rest)
closed_end rest =
    let calm = no_gap (close_parenthesis ∷ rest) (no_gap-byte close_parenthesis rest refl refl) in
    record {
      spaced = false;
      gap_there = calm;
      solid = calm;
      unsigned = refl;
      ends = record { bare = refl; calm = refl; apart = refl };
      stops = refl;
      unnamed = refl;
    }

-- a blank and then `o`, as in `of`
pub of_end : (rest : List ℕ) → Ended (space ∷ 111 ∷ rest) (111 ∷ rest)
of_end rest =
    let solid = no_gap-byte 111 rest refl refl in
    record {
      spaced = true;
      gap_there = one_blank (111 ∷ rest) solid;
      solid = no_gap (111 ∷ rest) solid;
      unsigned = refl;
      ends = record { bare = refl; calm = refl; apart = refl };
      stops = refl;
      unnamed = refl;
    }

-- what follows the sign of an offset
offset_after-again : (step : Signed) (negative : Bool) (n : ℕ) (end left : List ℕ)
    → n ≤ 4294967295 → Ended end left
    → follow (gap (decimal n ++ end)) (λ spaced. offset_after step negative)
    ≡ got (stepping step (signed negative n)) end
offset_after-again step negative n end left small e =
    let text : List ℕ = decimal n ++ end in
    let calm : gap text ≡ got false text = no_gap text (number_calm n end small) in
    let begins : starts_by is_digit text ≡ true = number_begins n end small in
    let reads : digits 0 text ≡ (n, end) = digits-again n end small e.stops in
    let bare = e.unnamed in
    ap (λ r. follow r (λ spaced. offset_after step negative)) calm
    ∙ ap (λ (t : Bool). if t && not (begins_name (digits 0 text).1)
    then got (stepping step (signed negative (digits 0 text).0)) (digits 0 text).1
    else refused NoProgression text) begins
    ∙ ap (λ p. if not (begins_name p.1) then got (stepping step (signed negative p.0)) p.1
    else refused NoProgression text) reads
    ∙ ap (λ (t : Bool). if not t then got (stepping step (signed negative n)) end
    else refused NoProgression text) bare

-- the gap after a value
gap_end : {A : Type 0} (x : A) (end left : List ℕ) → Ended end left
    → gapped (got x end) ≡ got x left
gap_end x end left e = ap (λ r. follow r (λ s. give x)) e.gap_there

-- B after `An`
offset-again : (step offset : Signed) (end left : List ℕ) → offset.size ≤ 4294967295
    → Ended end left
    → gapped (with_offset step (offset_text offset ++ end)) ≡ got (stepping step offset) left
unfolding with_offset offset_or_none
offset-again step offset end left small e =
    by offset.is_negative offset.size (offset.size == 0) small refl
  where
    reads : (text : List ℕ) (negative : Bool) (n : ℕ) → n ≤ 4294967295 → NoGap text
        → starts_by is_sign text ≡ true → sign text ≡ (negative, decimal n ++ end)
        → gapped (with_offset step text) ≡ got (stepping step (signed negative n)) left
    reads text negative n small calm begins is =
        let none = no_gap text calm in
        ap (λ r. gapped (follow r (λ spaced. offset_or_none step))) none
        ∙ ap (λ (t : Bool). gapped (if t
        then follow (gap (sign text).1) (λ spaced. offset_after step (sign text).0)
        else got (stepping step (signed false 0)) text)) begins
        ∙ ap (λ p. gapped (follow (gap p.1) (λ spaced. offset_after step p.0))) is
        ∙ ap gapped (offset_after-again step negative n end left small e)
        ∙ gap_end (stepping step (signed negative n)) end left e

    by : (negative : Bool) (n : ℕ) (none : Bool) → n ≤ 4294967295 → (n == 0) ≡ none
        → gapped (with_offset step ((if none && not negative then []
        else plus_text negative ++ (minus_text negative ++ decimal n)) ++ end))
        ≡ got (stepping step (signed negative n)) left
    by true n true small z =
        reads (hyphen ∷ (decimal n ++ end)) true n small
        (no_gap-byte hyphen (decimal n ++ end) refl refl) refl refl
    by true n false small z =
        reads (hyphen ∷ (decimal n ++ end)) true n small
        (no_gap-byte hyphen (decimal n ++ end) refl refl) refl refl
    by false n true small z =
        let is : n ≡ 0 = eqb-true n 0 z in
        let zero : Progression = stepping step (signed false 0) in
        ap (λ r. gapped (follow r (λ spaced. offset_or_none step))) e.gap_there
        ∙ ap (λ (t : Bool). gapped (if t
        then follow (gap (sign left).1) (λ spaced. offset_after step (sign left).0)
        else got zero left)) e.unsigned
        ∙ ap (λ r. follow r (λ s. give zero)) e.solid
        ∙ ap (λ m. got (stepping step (signed false m)) left) (sym is)
    by false n false small z =
        reads (plus_sign ∷ (decimal n ++ end)) false n small
        (no_gap-byte plus_sign (decimal n ++ end) refl refl) refl refl

-- a number is read as its step or its offset
from_number : (text after rest : List ℕ) (negative : Bool) (n : ℕ)
    → is_lone_plus text ≡ false → sign text ≡ (negative, after)
    → starts_by is_digit after ≡ true → digits 0 after ≡ (n, rest)
    → progression text ≡ numbered text negative n rest
unfolding progression
from_number text after rest negative n alone signs begins reads =
    ap (λ (t : Bool). if t
    then follow (name (past_comments (past_one text))) (n_word text (signed false 1))
    else unsigned text (sign text).0 (sign text).1) alone
    ∙ ap (λ p. unsigned text p.0 p.1) signs
    ∙ ap (λ (t : Bool). if t then numbered text negative (digits 0 after).0 (digits 0 after).1
    else follow (name text) (word_progression text)) begins
    ∙ ap (λ p. numbered text negative p.0 p.1) reads

-- a word is read
from_word : (text word rest : List ℕ) → is_lone_plus text ≡ false
    → starts_by is_digit (sign text).1 ≡ false → name text ≡ got word rest
    → progression text ≡ word_progression text word rest
unfolding progression
from_word text word rest alone plain reads =
    ap (λ (t : Bool). if t
    then follow (name (past_comments (past_one text))) (n_word text (signed false 1))
    else unsigned text (sign text).0 (sign text).1) alone
    ∙ ap (λ (t : Bool). if t
    then numbered text (sign text).0 (digits 0 (sign text).1).0 (digits 0 (sign text).1).1
    else follow (name text) (word_progression text)) plain
    ∙ ap (λ r. follow r (word_progression text)) reads

-- a number begins with no plus
number_alone : (n : ℕ) (rest : List ℕ) → n ≤ 4294967295
    → is_lone_plus (decimal n ++ rest) ≡ false
number_alone n rest small =
    let f = first_digit n small in
    let plus : (f.first == plus_sign) ≡ false =
    digit_other f.first f.low f.high (λ k. k == plus_sign) refl in
    subst (λ l. is_lone_plus (l ++ rest) ≡ false) (sym f.is) (rw plus refl)

number-again : (negative : Bool) (n : ℕ) (end left : List ℕ) → n ≤ 4294967295 → Ended end left
    → gapped (progression ((minus_text negative ++ decimal n) ++ end))
    ≡ got (stepping (signed false 0) (signed negative n)) left
number-again negative n end left small e =
    let text : List ℕ = (minus_text negative ++ decimal n) ++ end in
    let is : Progression = stepping (signed false 0) (signed negative n) in
    ap gapped (from_number text (decimal n ++ end) end negative n (alone negative) (signs negative)
    (number_begins n end small) (digits-again n end small e.stops)
    ∙ ap (λ (t : Bool). if t then follow (ident_sequence end) (n_word text (signed negative n))
    else got is end) e.unnamed)
    ∙ gap_end is end left e
  where
    alone : (t : Bool) → is_lone_plus ((minus_text t ++ decimal n) ++ end) ≡ false
    alone true = refl
    alone false = number_alone n end small

    signs : (t : Bool) → sign ((minus_text t ++ decimal n) ++ end) ≡ (t, decimal n ++ end)
    signs true = refl
    signs false = number_unsigned n end small

-- ---- words of An+B

-- digits are written as they are
digits_kept : (ds : List ℕ) → AllDigits 10 ds → flat_map (byte_text None) ds ≡ ds
digits_kept [] all = refl
digits_kept (c ∷ ds) all =
    let r = digit_from_value c all.0 in
    let kept : is_kept None c ≡ true = digit_byte c r.0 r.1 (is_kept None) refl in
    ap (λ (t : Bool). (if t then c ∷ [] else escape_text c) ++ flat_map (byte_text None) ds) kept
    ∙ ap (λ l. c ∷ l) (digits_kept ds all.1)

-- and are none of them U+0000
digits_denoted : (ds : List ℕ) → AllDigits 10 ds → IsDenoted ds
digits_denoted [] all = refl
digits_denoted (c ∷ ds) all =
    let r = digit_from_value c all.0 in
    let some = none_passes (c == 0) (digit_byte c r.0 r.1 (λ k. not (k == 0)) refl) in
    rw some (ap (λ l. c ∷ l) (digits_denoted ds all.1))

-- what follows the `n` of a word, in it and after it, is read as the offset
record Tail (offset : Signed) (end left : List ℕ) : Type 0 where
  pub tail : List ℕ
  pub after : List ℕ
  pub is : offset_text offset ++ end ≡ tail ++ after
  pub kept : flat_map (byte_text None) tail ≡ tail
  pub denoted : IsDenoted tail
  pub ends : EndsName after
  pub reads : (start : List ℕ) (step : Signed)
      → gapped (by_tail start step tail after) ≡ got (stepping step offset) left

-- a printed number is one
is_number-again : (n : ℕ) → n ≤ 4294967295
    → (is_number (decimal n) ≡ true) × ((digits 0 (decimal n)).0 ≡ n)
is_number-again n small =
    let same = append-nil (decimal n) in
    let reads : digits 0 (decimal n) ≡ (n, []) =
    ap (digits 0) (sym same) ∙ digits-again n [] small refl in
    let begins : starts_by is_digit (decimal n) ≡ true =
    ap (starts_by is_digit) (sym same) ∙ number_begins n [] small in
    (rw (begins, reads) refl, ap (λ p. p.0) reads)

subtracted-again : (start rest : List ℕ) (step : Signed) (n : ℕ) → n ≤ 4294967295
    → subtracted start step (decimal n) rest ≡ got (stepping step (signed true n)) rest
unfolding subtracted
subtracted-again start rest step n small =
    by (decimal n) (first_digit n small) (is_number-again n small)
  where
    by : (ds : List ℕ) → FirstDigit ds → (is_number ds ≡ true) × ((digits 0 ds).0 ≡ n)
        → subtracted start step ds rest ≡ got (stepping step (signed true n)) rest
    by [] f w = absurd (let e = f.is in cc)
    by (b ∷ ds) f w =
        ap (λ (t : Bool). if t then got (stepping step (signed true (digits 0 (b ∷ ds)).0)) rest
        else refused NoProgression start) w.0
        ∙ ap (λ m. got (stepping step (signed true m)) rest) w.1

tail_of : (offset : Signed) (end left : List ℕ) → offset.size ≤ 4294967295 → Ended end left
    → Tail offset end left
unfolding by_tail
tail_of offset end left small e = by offset.is_negative (is_zero offset) refl refl
  where
    -- nothing follows in the word
    none : EndsName (offset_text offset ++ end) → Tail offset end left
    none ends = record {
      tail = [];
      after = offset_text offset ++ end;
      is = refl;
      kept = refl;
      denoted = refl;
      ends = ends;
      reads = λ start step. offset-again step offset end left small e;
    }

    by : (negative zero : Bool) → offset.is_negative ≡ negative → is_zero offset ≡ zero
        → Tail offset end left
    by negative true en ez =
        none (subst (λ (t : Bool). EndsName ((if t then []
        else plus_text offset.is_negative ++ signed_text offset) ++ end)) (sym ez) e.ends)
    by false false en ez =
        none (subst (λ (t : Bool). EndsName ((if t then []
        else plus_text offset.is_negative ++ signed_text offset) ++ end)) (sym ez)
        (subst (λ (t : Bool). EndsName ((plus_text t ++ (minus_text t ++ decimal offset.size))
        ++ end)) (sym en) (record { bare = refl; calm = refl; apart = refl })))
    by true false en ez = record {
      tail = hyphen ∷ decimal offset.size;
      after = end;
      is = ap (λ (t : Bool). (if t then []
          else plus_text offset.is_negative ++ signed_text offset) ++ end) ez
          ∙ ap (λ (t : Bool). (plus_text t ++ (minus_text t ++ decimal offset.size)) ++ end) en;
      kept = ap (λ l. hyphen ∷ l)
          (digits_kept (decimal offset.size) (decimal_is_IsNumeral offset.size (omega arith)).0.1);
      denoted = ap (λ l. hyphen ∷ l)
          (digits_denoted (decimal offset.size) (decimal_is_IsNumeral offset.size (omega arith)).0.1);
      ends = e.ends;
      reads = λ start step. ap gapped (subtracted-again start end step offset.size small
          ∙ ap (λ (t : Bool). got (stepping step (signed t offset.size)) end) (sym en))
          ∙ gap_end (stepping step offset) end left e;
    }

step-again : (negative : Bool) (n : ℕ) (offset : Signed) (end left : List ℕ) → n ≤ 4294967295
    → offset.size ≤ 4294967295 → Ended end left
    → gapped (progression ((minus_text negative ++ size_text n ++ codes "n" ++ offset_text offset)
    ++ end))
    ≡ got (stepping (signed negative n) offset) left
unfolding n_word
step-again negative n offset end left small within e = by negative (n == 1) refl
  where
    t : Tail offset end left
    t = tail_of offset end left within e

    after : List ℕ
    after = t.tail ++ t.after

    -- the word from its `n` on
    word : List ℕ
    word = 110 ∷ t.tail

    written : start_text word ≡ word
    written = ap (λ l. 110 ∷ l) t.kept

    denoted : IsDenoted word
    denoted = ap (λ l. 110 ∷ l) t.denoted

    named : (w : List ℕ) → IsName w → identifier_text w ≡ w
        → (name (w ++ t.after) ≡ got w t.after) × (begins_name (w ++ t.after) ≡ true)
        × (ident_sequence (w ++ t.after) ≡ got w t.after)
    named w some same = (
      ap (λ l. name (l ++ t.after)) (sym same) ∙ name-again w t.after some t.ends,
      ap (λ l. begins_name (l ++ t.after)) (sym same) ∙ begins-again w t.after some t.ends,
      ap (λ l. ident_sequence (l ++ t.after)) (sym same) ∙ ident-again w t.after some t.ends,
    )

    one : (negative : Bool) → n ≡ 1
        → gapped (progression (minus_text negative ++ (110 ∷ after)))
        ≡ got (stepping (signed negative n) offset) left
    one true is =
        ap gapped (from_word (hyphen ∷ 110 ∷ after) (hyphen ∷ word) t.after refl refl
        (named (hyphen ∷ word) (omega arith, ap (λ l. hyphen ∷ l) denoted)
        (ap (λ l. hyphen ∷ l) written)).0)
        ∙ t.reads (hyphen ∷ 110 ∷ after) (signed true 1)
        ∙ ap (λ m. got (stepping (signed true m) offset) left) (sym is)
    one false is =
        ap gapped
        (from_word (110 ∷ after) word t.after refl refl
        (named word (omega arith, denoted) written).0)
        ∙ t.reads (110 ∷ after) (signed false 1)
        ∙ ap (λ m. got (stepping (signed false m) offset) left) (sym is)

    many : (negative : Bool) (text : List ℕ) → is_lone_plus text ≡ false
        → sign text ≡ (negative, decimal n ++ (110 ∷ after))
        → gapped (progression text) ≡ got (stepping (signed negative n) offset) left
    many negative text alone signs =
        let w = named word (omega arith, denoted) written in
        ap gapped (from_number text (decimal n ++ (110 ∷ after)) (110 ∷ after) negative n alone signs
        (number_begins n (110 ∷ after) small) (digits-again n (110 ∷ after) small refl)
        ∙ ap (λ (b : Bool). if b
        then follow (ident_sequence (110 ∷ after)) (n_word text (signed negative n))
        else got (stepping (signed false 0) (signed negative n)) (110 ∷ after)) w.1
        ∙ ap (λ r. follow r (n_word text (signed negative n))) w.2)
        ∙ t.reads text (signed negative n)

    joined : ((decimal n ++ codes "n") ++ offset_text offset) ++ end ≡ decimal n ++ (110 ∷ after)
    joined =
        append_assoc (decimal n ++ codes "n") (offset_text offset) end
        ∙ append_assoc (decimal n) (codes "n") (offset_text offset ++ end)
        ∙ ap (λ l. decimal n ++ (110 ∷ l)) t.is

    by : (negative is_one : Bool) → (n == 1) ≡ is_one
        → gapped (progression ((minus_text negative ++ (if is_one then [] else decimal n)
        ++ codes "n" ++ offset_text offset) ++ end)) ≡ got (stepping (signed negative n) offset) left
    by true true z =
        ap (λ l. gapped (progression (hyphen ∷ 110 ∷ l))) t.is ∙ one true (eqb-true n 1 z)
    by false true z =
        ap (λ l. gapped (progression (110 ∷ l))) t.is ∙ one false (eqb-true n 1 z)
    by true false z = many true _ refl (ap (λ l. (true, l)) joined)
    by false false z =
        many false _
        (ap is_lone_plus joined ∙ number_alone n (110 ∷ after) small)
        (ap sign joined ∙ number_unsigned n (110 ∷ after) small)

pub progression-again : (p : Progression) (end left : List ℕ) → p.step.size ≤ 4294967295
    → p.offset.size ≤ 4294967295 → Ended end left
    → gapped (progression (progression_text p ++ end)) ≡ got p left
progression-again p end left small within e =
    by p.step.is_negative p.step.size (p.step.size == 0) small refl
  where
    by : (t : Bool) (n : ℕ) (none : Bool) → n ≤ 4294967295 → (n == 0) ≡ none
        → gapped (progression ((if none && not t then signed_text p.offset
        else minus_text t ++ size_text n ++ codes "n" ++ offset_text p.offset) ++ end))
        ≡ got (stepping (signed t n) p.offset) left
    by true n true fits z = step-again true n p.offset end left fits within e
    by true n false fits z = step-again true n p.offset end left fits within e
    by false n false fits z = step-again false n p.offset end left fits within e
    by false n true fits z =
        number-again p.offset.is_negative p.offset.size end left within e
        ∙ ap (λ m. got (stepping (signed false m) p.offset) left) (sym (eqb-true n 0 z))

-- no gap begins with a printed `An+B`
pub progression_calm : (p : Progression) (rest : List ℕ) → p.step.size ≤ 4294967295
    → p.offset.size ≤ 4294967295 → NoGap (progression_text p ++ rest)
progression_calm p rest small within =
    by (is_zero p.step) p.step.is_negative p.offset.is_negative (p.step.size == 1)
  where
    number : (n : ℕ) (tail : List ℕ) → n ≤ 4294967295
        → NoGap (((decimal n ++ codes "n") ++ tail) ++ rest)
    number n tail fits =
        subst NoGap
        (sym (append_assoc (decimal n ++ codes "n") tail rest
        ∙ append_assoc (decimal n) (codes "n") (tail ++ rest)))
        (number_calm n (codes "n" ++ (tail ++ rest)) fits)

    by : (none t o one : Bool) → NoGap ((if none then minus_text o ++ decimal p.offset.size
        else minus_text t ++ (if one then [] else decimal p.step.size) ++ codes "n"
        ++ offset_text p.offset) ++ rest)
    by true t true one = no_gap-byte hyphen (decimal p.offset.size ++ rest) refl refl
    by true t false one = number_calm p.offset.size rest within
    by false true o one = no_gap-byte hyphen _ refl refl
    by false false o true = no_gap-byte 110 _ refl refl
    by false false o false = number p.step.size (offset_text p.offset) small
