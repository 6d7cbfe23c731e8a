-- Printed names read back, and the byte that begins a name.
-- Serves `Selector::{parse, parse_front}` and `StyleSheet::parse` (a selector printed and read
-- again).
use Rattle.std.proofs.Common.{◌≡◌, ℕ, ◌<◌, ◌≤◌, ◌⊎◌, inl, inr, List, [], ◌∷◌, ◌++◌, Bool, true, false, ◌||◌, ◌&&◌, ◌==◌, nat_lt, length, length-append, drop, arith, refl, sym, ap, ◌∙◌, encode_utf8, encode_utf8_all, eqb-true, IsUtf8}
use Rattle.std.proofs.lemmas.Bool.{and_parts, or_left}
use Rattle.std.specs.Str.{chars, all_scalars}
use lib.Utf8.{encode}
use Rattle.std.specs.List.{list_all}
use Rattle.std.proofs.lemmas.Str.{chars-append, chars-nil, chars-encodes, char_from_byte, length-encode, len_utf8_bounds}
use Rattle.std.proofs.Math.Seq.{drop-append_seam}
use Rattle.css_text.proofs.bytes.RunLemmas.{take_while-append}
use Rattle.css_text.proofs.bytes.Utf8Lemmas.{chars-byte}
use Rattle.simplecss_grammar.proofs.reading.EditionLaws.{in_either}
use Rattle.css_text.proofs.reading.EndsLemmas.{before-append}
use Rattle.css_text.specs.AsciiBytes.{hyphen}
use Rattle.css_text.specs.Reading.{got}
use Rattle.css_text.specs.Bytes.{starts_by}
use Rattle.css_text.specs.Characters.{Edition, first_edition, second_edition, is_name_start, is_name_char}
use Rattle.css_text.specs.Names.{begins_name, past_name_chars, name}

-- the characters begin a name, whatever follows them
abbrev pub begins_any_name : Edition → List ℕ → Bool
begins_any_name edition [] = false
begins_any_name edition (c ∷ []) = is_name_start edition c
begins_any_name edition (c ∷ d ∷ cs) = is_name_start edition c ||
    (c == hyphen && is_name_start edition d)

-- A name that is no lone hyphen, by its characters.
pub record IsName (edition : Edition) (n : List ℕ) : Type 0 where
  pub letters : List ℕ
  pub scalars : all_scalars letters ≡ true
  pub spell : encode_utf8_all letters ≡ n
  pub pass : list_all (is_name_char edition) letters ≡ true
  pub begins : begins_any_name edition letters ≡ true

-- no name continues there
abbrev pub ends_names : Edition → List ℕ → Bool
ends_names edition text = starts_by (is_name_char edition) (chars text)

module _ (edition : Edition) where
  -- what begins a name begins one with more after it
  begins_name-append : (cs ds : List ℕ) → begins_any_name edition cs ≡ true
      → begins_name edition (cs ++ ds) ≡ true
  begins_name-append [] ds h = absurd (cc)
  begins_name-append (c ∷ []) [] h = or_left (is_name_start edition c) (c == hyphen) h
  begins_name-append (c ∷ []) (d ∷ ds) h = or_left (is_name_start edition c)
      (c == hyphen && is_name_start edition d) h
  begins_name-append (c ∷ d ∷ cs) ds h = h

  -- the characters of a name and of what follows it
  name-chars : (n tail : List ℕ) → (w : IsName edition n)
      → chars (n ++ tail) ≡ w.letters ++ chars tail
  name-chars n tail w =
      let u : IsUtf8 n = (w.letters, (w.scalars, w.spell)) in
      chars-append n tail u ∙ ap (λ l. l ++ chars tail) (ap chars (sym w.spell)
      ∙ chars-encodes w.letters w.scalars)

  -- a name is read back, where no name character follows
  pub name-reads : (n tail : List ℕ) → IsName edition n → ends_names edition tail ≡ false
      → name edition (n ++ tail) ≡ got n tail
  unfolding name past_name_chars
  name-reads n tail w s =
      let cs = name-chars n tail w in
      let whole = take_while-append (is_name_char edition) w.letters (chars tail) w.pass s in
      let begins = begins_name-append w.letters (chars tail) w.begins in
      let left : drop (length n) (n ++ tail) ≡ tail = drop-append_seam n tail in
      let value = before-append n tail in
      rw (cs, whole, begins, w.spell, left, value) refl

  -- no name continues at an ASCII byte that is no name character
  pub ends_names-byte : (b : ℕ) (text : List ℕ) → b < 128 → is_name_char first_edition b ≡ false
      → is_name_char second_edition b ≡ false → ends_names edition (b ∷ text) ≡ false
  ends_names-byte b text h e f =
      rw (chars-byte b text h) (in_either (λ edition. is_name_char edition b ≡ false) e f edition)

  -- nor where the text ends
  pub ends_names-nil : ends_names edition [] ≡ false
  ends_names-nil = rw chars-nil refl

-- ---- the byte that begins a name

-- A byte that may begin a name: a name character, or one past ASCII.
abbrev pub IsNameByte : Edition → ℕ → Type 0
IsNameByte edition b = (128 ≤ b) ⊎ (is_name_char edition b ≡ true)

name_byte : (edition : Edition) (b : ℕ) (text rest : List ℕ) (c : ℕ)
    → b ∷ text ≡ encode_utf8 c ++ rest → is_name_char edition c ≡ true → IsNameByte edition b
name_byte edition b text rest c e h = by (nat_lt b 128) refl
  where
    by : (t : Bool) → nat_lt b 128 ≡ t → IsNameByte edition b
    by true p =
        let less : b < 128 = grind arith in
        let same : c ≡ b = char_from_byte (b ∷ text) rest c e less (omega arith) in
        inr (ap (is_name_char edition) (sym same) ∙ h)
    by false p = inl (grind arith)

-- the first byte of a name
pub record FirstByte (edition : Edition) (n : List ℕ) : Type 0 where
  pub first : ℕ
  pub others : List ℕ
  pub is : n ≡ first ∷ others
  pub fit : IsNameByte edition first

-- the byte that begins a name
pub name-first : (edition : Edition) (n : List ℕ) → IsName edition n → FirstByte edition n
name-first edition n w = by n w.letters w.spell w.begins w.pass
  where
    by : (n cs : List ℕ) → encode_utf8_all cs ≡ n → begins_any_name edition cs ≡ true
        → list_all (is_name_char edition) cs ≡ true → FirstByte edition n
    by n [] e b p = absurd (cc)
    by [] (c ∷ cs) e b p =
        absurd (omega (
          arith,
          ap length e,
          length-append (encode_utf8 c) (encode_utf8_all cs),
          length-encode c,
          len_utf8_bounds c,
        ))
    by (x ∷ n) (c ∷ cs) e b p =
        record {
          first = x;
          others = n;
          is = refl;
          fit = name_byte edition x n (encode_utf8_all cs) c (sym e)
              (and_parts (is_name_char edition c) (list_all (is_name_char edition) cs) p).0;
        }

-- a byte of a name is no other ASCII byte
pub other_byte : (edition : Edition) (k b : ℕ) → k < 128
    → is_name_char first_edition k ≡ false → is_name_char second_edition k ≡ false
    → IsNameByte edition b → (b == k) ≡ false
other_byte edition k b less e0 f0 h = by (b == k) refl h
  where
    by : (t : Bool) → (b == k) ≡ t → IsNameByte edition b → t ≡ false
    by false e w = refl
    by true e (inl w) = absurd (omega (arith, eqb-true b k e))
    by true e (inr w) =
        let same : b ≡ k = eqb-true b k e in
        let yes : is_name_char edition k ≡ true = ap (is_name_char edition) (sym same) ∙ w in
        let no = in_either (λ edition. is_name_char edition k ≡ false) e0 f0 edition in
        absurd (cc)
