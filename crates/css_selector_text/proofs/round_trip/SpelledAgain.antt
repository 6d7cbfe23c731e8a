-- What an escape, an identifier or a string is printed as reads back.
-- Serves `printing_laws::printing_law`.
use Rattle.std.proofs.Common.{◌≡◌, ℕ, zero, suc, ◌+◌, ◌*◌, ◌/◌, ◌%◌, ◌<◌, ◌≤◌, ◌⊎◌, inl, inr, ◌==◌, ◌||◌, ◌&&◌, not, nat_le, nat_lt, Bool, true, false, List, [], ◌∷◌, ◌++◌, Option, None, Some, length, flat_map, encode_utf8, append_assoc, arith, refl, sym, ap, ◌∙◌, subst, eqb-true}
use Rattle.std.specs.Prelude.{codes, if◌then◌else◌}
use Rattle.std.specs.Fmt.{digit_glyph}
use Rattle.std.proofs.lemmas.Bool.Decides.{nat_tests}
use Rattle.std.proofs.lemmas.Fmt.{hex_one_digit, hex_two_digits}
use Rattle.std.proofs.lemmas.Str.{encode_ascii}
use Rattle.std.proofs.Math.Nat.{eq-or-lt_of_le}
use Rattle.css_text.specs.AsciiBytes.{backslash, double_quote, hyphen, space, newline, carriage_return, form_feed, underscore}
use Rattle.css_text.specs.Bytes.{starts, starts_by, is_digit, is_hex_digit, is_within}
use Rattle.css_text.specs.Characters.{is_letter}
use Rattle.css_text.specs.Reading.{each, before}
use Rattle.css_text.proofs.reading.EachLemmas.{Takes}
use Rattle.css_text.proofs.reading.EndsLemmas.{before-append}
use Rattle.css_syntax.specs.Tokens.{is_newline, is_wide_byte, is_name_byte, begins_escape, hex_digit, past_escape, name_part, string_part, past_word}
use Rattle.css_syntax.specs.Statements.{begins_cdc}
use Rattle.css_syntax.specs.Escapes.{character_of, escaped_text, unescaped_in, without_nul_byte, without_nul, decoded_in}
use Rattle.css_syntax.proofs.Decoding.{decoded-nil, decoded-plain, decoded-escape}
use Rattle.css_syntax.proofs.RunSteps.{no_name_part}
use Rattle.css_syntax.proofs.WithoutNul.{nul-once}
use Rattle.css_syntax.proofs.Shorter.{each-goes, each-rests, name_part-takes, string_part-takes}
use Rattle.css_selector_text.specs.declared.refusal.Why.TheVariants.{NoName}
use Rattle.css_selector_text.specs.reading.Readings.{got, refused}
use Rattle.css_selector_text.specs.reading.Grammar.{begins_plain_name, begins_name, ident_sequence, name, string, closed_string, value}
use Rattle.css_selector_text.specs.printing.Printing.{is_control, is_kept, code_point_text, escape_text, byte_text, start_text, after_hyphen, identifier_text, string_text}
use Rattle.css_selector_text.specs.printing.WellFormed.{IsName, IsDenoted}
use Rattle.css_selector_text.proofs.round_trip.PrintLemmas.{kept_low}
use Rattle.css_selector_text.proofs.TextLemmas.{name_low}

-- ---- a test of each byte below a bound

abbrev pub all_below : (ℕ → Bool) → ℕ → Bool
all_below test zero = true
all_below test (suc n) = test n && all_below test n

pub and_first : (a b : Bool) → (a && b) ≡ true → a ≡ true
and_first true b h = refl
and_first false b h = absurd (cc)

pub and_second : (a b : Bool) → (a && b) ≡ true → b ≡ true
and_second true b h = h
and_second false b h = absurd (cc)

pub passes : (test : ℕ → Bool) (n k : ℕ) → all_below test n ≡ true → k < n → test k ≡ true
passes test zero k h less = absurd (omega arith)
passes test (suc n) k h less =
    by (eq-or-lt_of_le (omega arith))
    (passes test n k (and_second (test n) (all_below test n) h))
  where
    by : (k ≡ n) ⊎ (k < n) → (k < n → test k ≡ true) → test k ≡ true
    by (inl same) lower =
        subst (λ m. test m ≡ true) (sym same) (and_first (test n) (all_below test n) h)
    by (inr low) lower = lower low

-- one of two tests fails
pub either_fails : (a b : Bool) → not (a && b) ≡ true → a ≡ true → b ≡ false
either_fails true true h e = absurd (cc)
either_fails true false h e = refl
either_fails false b h e = absurd (cc)

-- one of two tests passes
pub either_passes : (a b : Bool) → (a || b) ≡ true → a ≡ false → b ≡ true
either_passes true b h e = absurd (cc)
either_passes false b h e = h

pub none_passes : (a : Bool) → not a ≡ true → a ≡ false
none_passes true h = absurd (cc)
none_passes false h = refl

-- ---- escapes

glyph_hex : (d : ℕ) → d < 16 → is_hex_digit (digit_glyph false d) ≡ true
glyph_hex d h = passes (λ k. is_hex_digit (digit_glyph false k)) 16 d refl h

glyph_calm : (d : ℕ) → d < 16 → is_newline (digit_glyph false d) ≡ false
glyph_calm d h =
    none_passes _ (passes (λ k. not (is_newline (digit_glyph false k))) 16 d refl h)

glyph_value : (d : ℕ) → d < 16 → hex_digit (digit_glyph false d) ≡ d
glyph_value d h =
    eqb-true (hex_digit (digit_glyph false d)) d
    (passes (λ k. hex_digit (digit_glyph false k) == k) 16 d refl h)

-- the number of an ASCII character but U+0000 spells it
own_character : (n b : ℕ) → n ≡ b → (b == 0) ≡ false → b < 128
    → encode_utf8 (character_of n) ≡ b ∷ []
own_character n b same some low =
    let is = none_passes _ (either_passes (b == 0)
    (not (b == 0 || is_within 55296 57343 b || nat_lt 1114111 b))
    (passes (λ k. k == 0 || not (k == 0 || is_within 55296 57343 k || nat_lt 1114111 k)) 128 b
    refl low) some) in
    let own : character_of b ≡ b = rw is refl in
    ap (λ m. encode_utf8 (character_of m)) same ∙ ap encode_utf8 own ∙ encode_ascii b low

one_digit : (in_string : Bool) (g : ℕ) (t : List ℕ) → is_hex_digit g ≡ true
    → escaped_text in_string (g ∷ space ∷ t) ≡ encode_utf8 (character_of (16 * 0 + hex_digit g))
one_digit in_string g t h = rw h refl

one_digit-left : (g : ℕ) (t : List ℕ) → is_hex_digit g ≡ true → past_escape (g ∷ space ∷ t) ≡ t
unfolding past_escape
one_digit-left g t h = rw h refl

two_digits : (in_string : Bool) (g k : ℕ) (t : List ℕ) → is_hex_digit g ≡ true
    → is_hex_digit k ≡ true
    → escaped_text in_string (g ∷ k ∷ space ∷ t)
    ≡ encode_utf8 (character_of (16 * (16 * 0 + hex_digit g) + hex_digit k))
two_digits in_string g k t h i = rw (h, i) refl

two_digits-left : (g k : ℕ) (t : List ℕ) → is_hex_digit g ≡ true → is_hex_digit k ≡ true
    → past_escape (g ∷ k ∷ space ∷ t) ≡ t
unfolding past_escape
two_digits-left g k t h i = rw (h, i) refl

-- an escape of a byte: what follows its backslash begins with no newline, and denotes the byte
record Escaped (b : ℕ) (text : List ℕ) : Type 0 where
  pub others : List ℕ
  pub is : text ≡ backslash ∷ others
  pub calm : (t : List ℕ) → starts_by is_newline (others ++ t) ≡ false
  pub denotes : (in_string : Bool) (t : List ℕ) → escaped_text in_string (others ++ t) ≡ b ∷ []
  pub leaves : (t : List ℕ) → past_escape (others ++ t) ≡ t

by_one_digit : (b : ℕ) → (b == 0) ≡ false → b < 16 → Escaped b (code_point_text b)
by_one_digit b some low =
    let g : ℕ = digit_glyph false b in
    let is : 16 * 0 + hex_digit g ≡ b = omega (arith, glyph_value b low) in
    record {
      others = g ∷ space ∷ [];
      is = ap (λ ds. codes "\\" ++ ds ++ codes " ") (hex_one_digit false b low);
      calm = λ t. glyph_calm b low;
      denotes = λ s t. one_digit s g t (glyph_hex b low) ∙ own_character _ b is some (omega arith);
      leaves = λ t. one_digit-left g t (glyph_hex b low);
    }

by_two_digits : (b : ℕ) → 16 ≤ b → b < 128 → (b == 0) ≡ false → Escaped b (code_point_text b)
by_two_digits b high low some =
    let one : b / 16 < 16 = omega arith in
    let two : b % 16 < 16 = omega arith in
    let g : ℕ = digit_glyph false (b / 16) in
    let k : ℕ = digit_glyph false (b % 16) in
    let is : 16 * (16 * 0 + hex_digit g) + hex_digit k ≡ b =
    omega (arith, glyph_value (b / 16) one, glyph_value (b % 16) two) in
    record {
      others = g ∷ k ∷ space ∷ [];
      is = ap (λ ds. codes "\\" ++ ds ++ codes " ") (hex_two_digits false b high (omega arith));
      calm = λ t. glyph_calm (b / 16) one;
      denotes = λ s t. two_digits s g k t (glyph_hex (b / 16) one) (glyph_hex (b % 16) two)
          ∙ own_character _ b is some low;
      leaves = λ t. two_digits-left g k t (glyph_hex (b / 16) one) (glyph_hex (b % 16) two);
    }

code_point_escaped : (b : ℕ) → (b == 0) ≡ false → b < 128 → Escaped b (code_point_text b)
code_point_escaped b some low = by (nat_le 16 b) refl
  where
    by : (t : Bool) → nat_le 16 b ≡ t → Escaped b (code_point_text b)
    by true e = by_two_digits b (grind (arith, nat_tests, e)) low some
    by false e = by_one_digit b some (grind (arith, nat_tests, e))

-- a backslash and an ASCII character that is neither a newline nor a hexadecimal digit
sign_escaped : (b : ℕ) → is_newline b ≡ false → is_hex_digit b ≡ false
    → Escaped b (backslash ∷ b ∷ [])
unfolding past_escape
sign_escaped b calm plain = record {
  others = b ∷ [];
  is = refl;
  calm = λ t. calm;
  denotes = λ s t. rw plain refl;
  leaves = λ t. rw (plain, calm) refl;
}

-- what is written of a byte that is not kept
escape_escaped : (b : ℕ) → (b == 0) ≡ false → b < 128
    → (is_control b ≡ false → (is_newline b ≡ false) × (is_hex_digit b ≡ false))
    → Escaped b (escape_text b)
escape_escaped b some low plain = by (b == 0) (is_control b) some refl
  where
    by : (z t : Bool) → z ≡ false → is_control b ≡ t
        → Escaped b (if z then encode_utf8 65533
        else (if t then code_point_text b else backslash ∷ b ∷ []))
    by true t k e = absurd (cc)
    by false true k e = code_point_escaped b some low
    by false false k e = let p = plain e in sign_escaped b p.0 p.1

-- ---- what is spelled

-- a byte or an escape of a name, or of a string with this quote
abbrev spelled_part : Option ℕ → List ℕ → Option (Unit {0} × List ℕ)
spelled_part None = name_part
spelled_part (Some quote) = string_part quote

abbrev is_string : Option ℕ → Bool
is_string None = false
is_string (Some quote) = true

part-takes : (quote : Option ℕ) → Takes (spelled_part quote)
part-takes None = name_part-takes
part-takes (Some quote) = string_part-takes quote

-- the text is what spells the value, and the rest
record Spells (quote : Option ℕ) (text value rest : List ℕ) : Type 0 where
  pub own : List ℕ
  pub is : text ≡ own ++ rest
  pub leaves : (each (spelled_part quote) text).1 ≡ rest
  pub denotes : unescaped_in (is_string quote) own ≡ value

whole : (quote : Option ℕ) (text value rest : List ℕ) → Spells quote text (without_nul value) rest
    → decoded_in (is_string quote) (before text rest) ≡ without_nul value
whole quote text value rest s =
    ap (decoded_in (is_string quote)) (ap (λ t. before t rest) s.is ∙ before-append s.own rest)
    ∙ ap without_nul s.denotes ∙ nul-once value

spells_nothing : (quote : Option ℕ) (rest : List ℕ) → spelled_part quote rest ≡ None
    → Spells quote rest [] rest
spells_nothing quote rest e = record {
  own = [];
  is = refl;
  leaves = each-rests (spelled_part quote) rest e;
  denotes = decoded-nil (is_string quote);
}

-- how bytes are written where this quote ends the text
record IsPlace (quote : Option ℕ) : Type 0 where
  pub kept : (b : ℕ) → is_kept quote b ≡ true → (text : List ℕ)
      → spelled_part quote (b ∷ text) ≡ Some (tt, text)
  pub plain : (b : ℕ) → is_kept quote b ≡ true → (b == backslash) ≡ false
  pub escaped : (b : ℕ) → (b == 0) ≡ false → is_kept quote b ≡ false → Escaped b (escape_text b)
  pub nul : is_kept quote 0 ≡ false
  pub replaced : (is_kept quote 239 ≡ true) × (is_kept quote 191 ≡ true)
      × (is_kept quote 189 ≡ true)
  pub begins : (text : List ℕ) → starts_by is_newline text ≡ false
      → spelled_part quote (backslash ∷ text) ≡ Some (tt, past_escape text)

module _ (quote : Option ℕ) (place : IsPlace quote) where
  -- a byte that is kept, before what spells a value
  spells_bare : (b : ℕ) (text value rest : List ℕ) → is_kept quote b ≡ true
      → Spells quote text value rest → Spells quote (b ∷ text) (b ∷ value) rest
  spells_bare b text value rest e s = record {
    own = b ∷ s.own;
    is = ap (λ l. b ∷ l) s.is;
    leaves = sym (each-goes (spelled_part quote) (part-takes quote) (b ∷ text) text tt
        (place.kept b e text))
        ∙ s.leaves;
    denotes = decoded-plain (is_string quote) b s.own (place.plain b e)
        ∙ ap (λ l. b ∷ l) s.denotes;
  }

  -- an escape before what spells a value
  spells_escape : (b : ℕ) (own text value rest : List ℕ) → Escaped b own
      → Spells quote text value rest → Spells quote (own ++ text) (b ∷ value) rest
  spells_escape b own text value rest e s =
      subst (λ l. Spells quote (l ++ text) (b ∷ value) rest) (sym e.is) (record {
        own = backslash ∷ (e.others ++ s.own);
        is = ap (λ l. backslash ∷ (e.others ++ l)) s.is
            ∙ ap (λ l. backslash ∷ l) (sym (append_assoc e.others s.own rest));
        leaves = sym (each-goes (spelled_part quote) (part-takes quote)
            (backslash ∷ (e.others ++ text)) (past_escape (e.others ++ text)) tt
            (place.begins (e.others ++ text) (e.calm text)))
            ∙ ap (λ l. (each (spelled_part quote) l).1) (e.leaves text) ∙ s.leaves;
        denotes = decoded-escape (is_string quote) (e.others ++ s.own)
            (escape_begins (e.others ++ s.own) (e.calm s.own))
            ∙ ap (λ l. l ++ unescaped_in (is_string quote) (past_escape (e.others ++ s.own)))
            (e.denotes (is_string quote) s.own)
            ∙ ap (λ l. b ∷ unescaped_in (is_string quote) l) (e.leaves s.own)
            ∙ ap (λ l. b ∷ l) s.denotes;
      })
    where
      escape_begins : (l : List ℕ) → starts_by is_newline l ≡ false
          → begins_escape (backslash ∷ l) ≡ true
      escape_begins l calm = rw calm refl

  -- U+FFFD, which is written in place of U+0000
  spells_replaced : (text value rest : List ℕ) → Spells quote text value rest
      → Spells quote (byte_text quote 0 ++ text) (without_nul_byte 0 ++ value) rest
  unfolding lib.Utf8.encode
  spells_replaced text value rest s =
      let nul = place.nul in
      let kept = place.replaced in
      rw nul
      (spells_bare 239 (191 ∷ 189 ∷ text) (191 ∷ 189 ∷ value) rest kept.0
      (spells_bare 191 (189 ∷ text) (189 ∷ value) rest kept.1
      (spells_bare 189 text value rest kept.2 s)))

  spells_byte : (b : ℕ) (text value rest : List ℕ) → Spells quote text value rest
      → Spells quote (byte_text quote b ++ text) (without_nul_byte b ++ value) rest
  spells_byte b text value rest s = by (b == 0) refl
    where
      other : (b == 0) ≡ false → (t : Bool) → is_kept quote b ≡ t
          → Spells quote ((if t then b ∷ [] else escape_text b) ++ text) (b ∷ value) rest
      other z true e = spells_bare b text value rest e s
      other z false e = spells_escape b (escape_text b) text value rest (place.escaped b z e) s

      by : (z : Bool) → (b == 0) ≡ z → Spells quote (byte_text quote b ++ text)
          ((if z then encode_utf8 65533 else b ∷ []) ++ value) rest
      by true z =
          subst (λ (k : ℕ). Spells quote (byte_text quote k ++ text) (encode_utf8 65533 ++ value) rest)
          (sym (eqb-true b 0 z)) (spells_replaced text value rest s)
      by false z = other z (is_kept quote b) refl

  spells_bytes : (value rest : List ℕ) → spelled_part quote rest ≡ None
      → Spells quote (flat_map (byte_text quote) value ++ rest) (without_nul value) rest
  spells_bytes [] rest none = spells_nothing quote rest none
  spells_bytes (b ∷ value) rest none =
      subst (λ l. Spells quote l (without_nul (b ∷ value)) rest)
      (sym (append_assoc (byte_text quote b) (flat_map (byte_text quote) value) rest))
      (spells_byte b (flat_map (byte_text quote) value ++ rest) (without_nul value) rest
      (spells_bytes value rest none))

-- ---- strings

newline_control : (b : ℕ) → is_newline b ≡ true → is_control b ≡ true
newline_control b h = by (b == newline) (b == carriage_return) (b == form_feed) refl refl refl h
  where
    by : (n c f : Bool) → (b == newline) ≡ n → (b == carriage_return) ≡ c → (b == form_feed) ≡ f
        → (n || c || f) ≡ true → is_control b ≡ true
    by true c f en ec ef k = rw (eqb-true b newline en) refl
    by false true f en ec ef k = rw (eqb-true b carriage_return ec) refl
    by false false true en ec ef k = rw (eqb-true b form_feed ef) refl
    by false false false en ec ef k = absurd (cc)

calm_if : (n c : Bool) → (n ≡ true → c ≡ true) → c ≡ false → n ≡ false
calm_if true c h e = absurd (let k = h refl in cc)
calm_if false c h e = refl

small : (q : ℕ) → Some double_quote ≡ Some q → q < 128
small q e = let same : double_quote ≡ q = cc in omega arith

string_place : IsPlace (Some double_quote)
unfolding string_part
string_place = record {
  kept = λ b e text. let p = parts b e in
      let q = p.0 in let s = p.1.0 in let n = p.1.1 in rw (q, n, s) refl;
  plain = λ b e. (parts b e).1.0;
  escaped = escaped;
  nul = refl;
  replaced = (refl, refl, refl);
  begins = λ text e. refl;
}
  where
    parts : (b : ℕ) → is_kept (Some double_quote) b ≡ true
        → (b == double_quote) ≡ false × ((b == backslash) ≡ false × (is_newline b ≡ false))
    parts b h =
        by (b == double_quote) (b == backslash) (is_control b) (b == 0) (is_newline b)
        (newline_control b) h
      where
        by : (q s c z n : Bool) → (n ≡ true → c ≡ true) → not (q || s || c || z) ≡ true
            → (q ≡ false) × ((s ≡ false) × (n ≡ false))
        by true s c z n i k = absurd (cc)
        by false true c z n i k = absurd (cc)
        by false false true z n i k = absurd (cc)
        by false false false z n i k = (refl, (refl, calm_if n false i refl))

    low : (b : ℕ) → is_kept (Some double_quote) b ≡ false → b < 128
    low b h = kept_low (Some double_quote) small b h

    escaped : (b : ℕ) → (b == 0) ≡ false → is_kept (Some double_quote) b ≡ false
        → Escaped b (escape_text b)
    escaped b some h =
        escape_escaped b some (low b h)
        (λ plain. (
          calm_if (is_newline b) (is_control b) (newline_control b) plain,
          none_passes (is_hex_digit b)
              (either_passes (is_kept (Some double_quote) b || is_control b) (not (is_hex_digit b))
              (passes (λ k. is_kept (Some double_quote) k || is_control k || not
              (is_hex_digit k)) 128
              b refl (low b h)) (rw (h, plain) refl)),
        ))

pub string-again : (opened value rest : List ℕ)
    → string opened double_quote
    (flat_map (byte_text (Some double_quote)) value ++ (double_quote ∷ rest))
    ≡ got (without_nul value) rest
unfolding string string_part
string-again opened value rest =
    let text : List ℕ =
    flat_map (byte_text (Some double_quote)) value ++ (double_quote ∷ rest) in
    let s = spells_bytes (Some double_quote) string_place value (double_quote ∷ rest) refl in
    ap (λ r. closed_string opened double_quote (decoded_in true (before text r)) r) s.leaves
    ∙ ap (λ v. closed_string opened double_quote v (double_quote ∷ rest))
    (whole (Some double_quote) text value (double_quote ∷ rest) s)

-- a string is a value
pub value-denotes : (v rest : List ℕ) → value (string_text v ++ rest) ≡ got (without_nul v) rest
unfolding value
value-denotes v rest =
    ap (λ l. value (double_quote ∷ l))
    (append_assoc (flat_map (byte_text (Some double_quote)) v) (codes "\"") rest)
    ∙ string-again
    (double_quote ∷ flat_map (byte_text (Some double_quote)) v ++ (double_quote ∷ rest)) v rest

pub value-again : (v rest : List ℕ) → IsDenoted v → value (string_text v ++ rest) ≡ got v rest
value-again v rest denoted = value-denotes v rest ∙ ap (λ l. got l rest) denoted

-- ---- names

name_plain : (b : ℕ) → is_name_byte b ≡ true → (b == backslash) ≡ false
name_plain b h = by (b == backslash) refl
  where
    by : (t : Bool) → (b == backslash) ≡ t → t ≡ false
    by true e =
        absurd (let wrong = subst (λ d. is_name_byte d ≡ true) (eqb-true b backslash e) h in cc)
    by false e = refl

name_place : IsPlace None
unfolding name_part
name_place = record {
  kept = λ b e text. let name = and_first (is_name_byte b) (not (b == 0)) e in rw name refl;
  plain = λ b e. name_plain b (and_first (is_name_byte b) (not (b == 0)) e);
  escaped = escaped;
  nul = refl;
  replaced = (refl, refl, refl);
  begins = λ text e. rw e refl;
}
  where
    escaped : (b : ℕ) → (b == 0) ≡ false → is_kept None b ≡ false → Escaped b (escape_text b)
    escaped b some h =
        escape_escaped b some low
        (λ plain.
        let is = either_passes (is_control b) (not (is_newline b || is_hex_digit b))
        (either_passes (is_name_byte b) (is_control b || not (is_newline b || is_hex_digit b))
        (passes (λ k. is_name_byte k || (is_control k || not
        (is_newline k || is_hex_digit k))) 128 b
        refl low) (other (is_name_byte b) (b == 0) some h)) plain in
        neither (is_newline b) (is_hex_digit b) is)
      where
        other : (n z : Bool) → z ≡ false → (n && not z) ≡ false → n ≡ false
        other n true e k = absurd (cc)
        other true false e k = absurd (cc)
        other false false e k = refl

        low : b < 128
        low = name_low b (other (is_name_byte b) (b == 0) some h)

        neither : (n x : Bool) → not (n || x) ≡ true → (n ≡ false) × (x ≡ false)
        neither true x k = absurd (cc)
        neither false true k = absurd (cc)
        neither false false k = (refl, refl)

-- no name continues there, and none before it is a part of `-->`
pub record EndsName (rest : List ℕ) : Type 0 where
  pub bare : starts_by is_name_byte rest ≡ false
  pub calm : begins_escape rest ≡ false
  pub apart : starts 62 rest ≡ false

digit_low : (b : ℕ) → is_digit b ≡ true → (b == 0) ≡ false × b < 128
digit_low b h = by (nat_le 48 b) (nat_le b 57) refl refl h
  where
    by : (l k : Bool) → nat_le 48 b ≡ l → nat_le b 57 ≡ k → (l && k) ≡ true
        → (b == 0) ≡ false × b < 128
    by true true el ek e =
        let low : 48 ≤ b = grind (arith, nat_tests, el) in
        let high : b ≤ 57 = grind (arith, nat_tests, ek) in
        (grind (arith, nat_tests, low), omega arith)
    by true false el ek e = absurd (cc)
    by false k el ek e = absurd (cc)

first_text : ℕ → List ℕ
first_text b = if is_digit b then code_point_text b else byte_text None b

spells_first : (b : ℕ) (text value rest : List ℕ) → Spells None text value rest
    → Spells None ((if is_digit b then code_point_text b else byte_text None b) ++ text)
    (without_nul_byte b ++ value) rest
spells_first b text value rest s = by (is_digit b) refl
  where
    by : (t : Bool) → is_digit b ≡ t
        → Spells None ((if t then code_point_text b else byte_text None b) ++ text)
        (without_nul_byte b ++ value) rest
    by true e =
        let low = digit_low b e in
        let some = low.0 in
        rw some (spells_escape None name_place b (code_point_text b) text value rest
        (code_point_escaped b low.0 low.1) s)
    by false e = spells_byte None name_place b text value rest s

spells_start : (b : ℕ) (name rest : List ℕ) → EndsName rest
    → Spells None (start_text (b ∷ name) ++ rest) (without_nul (b ∷ name)) rest
spells_start b name rest ends =
    subst (λ l. Spells None l (without_nul (b ∷ name)) rest)
    (sym (append_assoc (if is_digit b then code_point_text b else byte_text None b)
    (flat_map (byte_text None) name) rest))
    (spells_first b (flat_map (byte_text None) name ++ rest) (without_nul name) rest
    (spells_bytes None name_place name rest (no_name_part rest ends.calm ends.bare)))

-- what begins with an escape begins a name
begins_escaped : (b : ℕ) (own text : List ℕ) → Escaped b own
    → begins_plain_name (own ++ text) ≡ true
begins_escaped b own text e =
    let calm = e.calm text in
    ap (λ l. begins_plain_name (l ++ text)) e.is ∙ rw calm refl

begins_first : (b : ℕ) (text : List ℕ) → (b == hyphen) ≡ false
    → begins_plain_name ((if is_digit b then code_point_text b else byte_text None b) ++ text)
    ≡ true
unfolding lib.Utf8.encode
begins_first b text other = by (is_digit b) (is_kept None b) refl refl
  where
    word : (l d u h w : Bool) → (l || d || u || h || w) ≡ true → d ≡ false → h ≡ false
        → (l || u || w) ≡ true
    word true d u h w e ed eh = refl
    word false true u h w e ed eh = absurd (cc)
    word false false true h w e ed eh = refl
    word false false false true w e ed eh = absurd (cc)
    word false false false false w e ed eh = e

    replaced : begins_plain_name (escape_text 0 ++ text) ≡ true
    replaced = refl

    escaped : is_kept None b ≡ false → (z : Bool) → (b == 0) ≡ z
        → begins_plain_name (escape_text b ++ text) ≡ true
    escaped en true z =
        subst (λ (k : ℕ). begins_plain_name (escape_text k ++ text) ≡ true) (sym (eqb-true b 0 z))
        replaced
    escaped en false z = begins_escaped b (escape_text b) text (name_place.escaped b z en)

    by : (d n : Bool) → is_digit b ≡ d → is_kept None b ≡ n
        → begins_plain_name ((if d then code_point_text b
        else (if n then b ∷ [] else escape_text b)) ++ text) ≡ true
    by true n ed en =
        let low = digit_low b ed in
        begins_escaped b (code_point_text b) text (code_point_escaped b low.0 low.1)
    by false true ed en =
        let is = word (is_letter b) (is_digit b) (b == underscore) (b == hyphen)
        (is_wide_byte b) (and_first (is_name_byte b) (not (b == 0)) en) ed
        other in
        rw is refl
    by false false ed en = escaped en (b == 0) refl

begins_start : (b : ℕ) (name rest : List ℕ) → (b == hyphen) ≡ false
    → begins_plain_name (start_text (b ∷ name) ++ rest) ≡ true
begins_start b name rest other =
    ap begins_plain_name
    (append_assoc (if is_digit b then code_point_text b else byte_text None b)
    (flat_map (byte_text None) name) rest)
    ∙ begins_first b (flat_map (byte_text None) name ++ rest) other

-- a text that begins a name and spells it
record Named (text n rest : List ℕ) : Type 0 where
  pub begins : begins_name text ≡ true
  pub spells : Spells None text (without_nul n) rest

named_start : (b : ℕ) (n rest : List ℕ) → (b == hyphen) ≡ false → EndsName rest
    → Named (start_text (b ∷ n) ++ rest) (b ∷ n) rest
named_start b n rest other ends =
    let begins = begins_start b n rest other in
    record { begins = rw begins refl; spells = spells_start b n rest ends }

named_hyphen : (n rest : List ℕ) → EndsName rest
    → Named (after_hyphen n ++ rest) (hyphen ∷ n) rest
named_hyphen [] rest ends = record {
  begins = refl;
  spells = spells_escape None name_place hyphen (codes "\\-") rest [] rest
      (sign_escaped hyphen refl refl)
      (spells_nothing None rest (no_name_part rest ends.calm ends.bare));
}
named_hyphen (c ∷ n) rest ends = record {
  begins = by (c == hyphen) refl;
  spells = spells_bare None name_place hyphen (start_text (c ∷ n) ++ rest) (without_nul (c ∷ n)) rest
      refl
      (spells_start c n rest ends);
}
  where
    by : (t : Bool) → (c == hyphen) ≡ t
        → begins_name (hyphen ∷ (start_text (c ∷ n) ++ rest)) ≡ true
    by true e =
        let is : c ≡ hyphen = eqb-true c hyphen e in
        ap (λ d. begins_name (hyphen ∷ (start_text (d ∷ n) ++ rest))) is
    by false e = let begins = begins_start c n rest e in rw begins refl

named : (n rest : List ℕ) → 0 < length n → EndsName rest → Named (identifier_text n ++ rest) n rest
named [] rest some ends = absurd (omega arith)
named (b ∷ n) rest some ends = by (b == hyphen) refl
  where
    by : (t : Bool) → (b == hyphen) ≡ t
        → Named ((if t then after_hyphen n else start_text (b ∷ n)) ++ rest) (b ∷ n) rest
    by true e =
        subst (λ h. Named (after_hyphen n ++ rest) (h ∷ n) rest) (sym (eqb-true b hyphen e))
        (named_hyphen n rest ends)
    by false e = named_start b n rest e ends

-- no byte that is written of an identifier but a hyphen or a backslash at its start is one of `-->`
written_other : (b : ℕ) (text : List ℕ) → starts 62 (byte_text None b ++ text) ≡ false
unfolding lib.Utf8.encode
written_other b text = by (is_kept None b) refl (b == 0) refl
  where
    kept : is_name_byte b ≡ true → (b == 62) ≡ false
    kept h = by_byte (b == 62) refl
      where
        by_byte : (t : Bool) → (b == 62) ≡ t → t ≡ false
        by_byte true e =
            absurd (let wrong = subst (λ d. is_name_byte d ≡ true) (eqb-true b 62 e) h in cc)
        by_byte false e = refl

    replaced : starts 62 (escape_text 0 ++ text) ≡ false
    replaced = refl

    by : (t : Bool) → is_kept None b ≡ t → (z : Bool) → (b == 0) ≡ z
        → starts 62 ((if t then b ∷ [] else escape_text b) ++ text) ≡ false
    by true e z h = kept (and_first (is_name_byte b) (not (b == 0)) e)
    by false e true h =
        subst (λ (k : ℕ). starts 62 (escape_text k ++ text) ≡ false) (sym (eqb-true b 0 h)) replaced
    by false e false h = ap (λ l. starts 62 (l ++ text)) (name_place.escaped b h e).is

all_other : (n rest : List ℕ) → starts 62 rest ≡ false
    → starts 62 (flat_map (byte_text None) n ++ rest) ≡ false
all_other [] rest h = h
all_other (b ∷ n) rest h =
    ap (starts 62) (append_assoc (byte_text None b) (flat_map (byte_text None) n) rest)
    ∙ written_other b (flat_map (byte_text None) n ++ rest)

-- no hyphen is first where a name begins that has none at its start, and so no `-->`
plain_first : (text : List ℕ) → begins_plain_name text ≡ true → starts hyphen text ≡ false
plain_first [] h = refl
plain_first (b ∷ text) h = by (b == hyphen) refl
  where
    by : (t : Bool) → (b == hyphen) ≡ t → t ≡ false
    by true e =
        absurd (let wrong = subst (λ d. begins_plain_name (d ∷ text) ≡ true) (eqb-true b hyphen e) h
        in cc)
    by false e = refl

plain_no_cdc : (text : List ℕ) → begins_plain_name text ≡ true → begins_cdc text ≡ false
plain_no_cdc [] h = refl
plain_no_cdc (b ∷ text) h = let other = plain_first (b ∷ text) h in rw other refl

no_cdc : (n rest : List ℕ) → 0 < length n → EndsName rest
    → begins_cdc (identifier_text n ++ rest) ≡ false
no_cdc [] rest some ends = absurd (omega arith)
no_cdc (b ∷ n) rest some ends = by (b == hyphen) refl
  where
    after : (n : List ℕ) → begins_cdc (after_hyphen n ++ rest) ≡ false
    after [] = refl
    after (c ∷ m) = second (c == hyphen) refl
      where
        second : (t : Bool) → (c == hyphen) ≡ t
            → begins_cdc (hyphen ∷ (start_text (c ∷ m) ++ rest)) ≡ false
        second true e =
            let is : c ≡ hyphen = eqb-true c hyphen e in
            ap (λ d. begins_cdc (hyphen ∷ (start_text (d ∷ m) ++ rest))) is
            ∙ all_other m rest ends.apart
        second false e =
            let other = plain_first (start_text (c ∷ m) ++ rest) (begins_start c m rest e) in
            rw other refl

    by : (t : Bool) → (b == hyphen) ≡ t
        → begins_cdc ((if t then after_hyphen n else start_text (b ∷ n)) ++ rest) ≡ false
    by true e = after n
    by false e = plain_no_cdc (start_text (b ∷ n) ++ rest) (begins_start b n rest e)

pub ident-denotes : (n rest : List ℕ) → 0 < length n → EndsName rest
    → ident_sequence (identifier_text n ++ rest) ≡ got (without_nul n) rest
unfolding ident_sequence
ident-denotes n rest some ends =
    let w = named n rest some ends in
    let text : List ℕ = identifier_text n ++ rest in
    ap (λ (t : Bool). if t then got (decoded_in false (before text (past_word text))) (past_word text)
    else refused NoName text) w.begins
    ∙ ap (λ r. got (decoded_in false (before text r)) r) w.spells.leaves
    ∙ ap (λ v. got v rest) (whole None text n rest w.spells)

pub ident-again : (n rest : List ℕ) → IsName n → EndsName rest
    → ident_sequence (identifier_text n ++ rest) ≡ got n rest
ident-again n rest w ends = ident-denotes n rest w.0 ends ∙ ap (λ l. got l rest) w.1

pub name-again : (n rest : List ℕ) → IsName n → EndsName rest
    → name (identifier_text n ++ rest) ≡ got n rest
unfolding name
name-again n rest w ends =
    let other = no_cdc n rest w.0 ends in
    rw other (ident-again n rest w ends)

pub begins-again : (n rest : List ℕ) → IsName n → EndsName rest
    → begins_name (identifier_text n ++ rest) ≡ true
begins-again n rest w ends = (named n rest w.0 ends).begins

-- the name ends where what follows it begins
pub word-again : (n rest : List ℕ) → IsName n → EndsName rest
    → past_word (identifier_text n ++ rest) ≡ rest
word-again n rest w ends = (named n rest w.0 ends).spells.leaves

-- and what is before that denotes it
pub decoded-again : (n rest : List ℕ) → IsName n → EndsName rest
    → decoded_in false (before (identifier_text n ++ rest) (past_word (identifier_text n ++ rest)))
    ≡ n
decoded-again n rest w ends =
    let s = (named n rest w.0 ends).spells in
    ap (λ r. decoded_in false (before (identifier_text n ++ rest) r)) s.leaves
    ∙ whole None (identifier_text n ++ rest) n rest s ∙ w.1
