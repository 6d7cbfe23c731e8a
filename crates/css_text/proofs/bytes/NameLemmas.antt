-- Names, a character at a time.
-- Serves `scan::{begins_by_characters, wide_name_chars_len, name_len}` (where a name begins and
-- ends) and `readers::take_name` (a name).
use Rattle.std.proofs.Common.{◌≡◌, ℕ, suc, ◌+◌, ◌-◌, ◌≤◌, List, [], ◌∷◌, ◌++◌, Bool, true, false, length, drop, refl, ap, sym, ◌∙◌, arith, length-append, length-drop, encode_utf8, encode_utf8_all, take, slice_range, drop-drop, ◌&&◌, subst, one-add, get_or, ◌<◌, inl, inr, drop-cons, lt-ltb, ltb-true}
use Rattle.std.proofs.lemmas.Bool.{and_parts}
use Rattle.std.specs.Str.{chars, IsUtf8, IsCharBoundary}
use Rattle.std.specs.List.{take_while, prefix_len}
use Rattle.std.specs.Char.{len_utf8}
use Rattle.std.proofs.lemmas.Str.{chars_past_char, length-encode, chars-nil, IsUtf8-past_char, drop_past_char, len_utf8_bounds}
use lib.Utf8.{encode}
use Rattle.std.proofs.Math.Nat.{eq-or-lt_of_le}
use Rattle.std.proofs.lemmas.List.Sums.{prefix_len-le-length, prefix_len_stops}
use Rattle.css_text.specs.AsciiBytes.{hyphen}
use Rattle.css_text.specs.Reading.{no_name, got, fails, before}
use Rattle.css_text.specs.Bytes.{is_ascii, starts_by, past_byte}
use Rattle.css_text.specs.Characters.{Edition, is_name_start, is_name_char}
use Rattle.css_text.specs.Names.{begins_name, past_name_chars, name}
use Rattle.css_text.proofs.bytes.CutLemmas.{IsCharBoundary-prefix_len}
use Rattle.css_text.proofs.bytes.StringLemmas.{before-drop}

-- the bytes of the characters at the front that pass
front_len : (p : ℕ → Bool) → List ℕ → ℕ
front_len p cs = length (encode_utf8_all (take_while p cs))

front_len-passes : (p : ℕ → Bool) (c : ℕ) (cs : List ℕ) → p c ≡ true
    → front_len p (c ∷ cs) ≡ len_utf8 c + front_len p cs
unfolding front_len
front_len-passes p c cs h =
    let more : 1 + prefix_len p cs ≡ suc (prefix_len p cs) = omega arith in
    rw (h, more) (length-append (encode_utf8 c) (encode_utf8_all (take_while p cs))
    ∙ ap (λ n. n + length (encode_utf8_all (take_while p cs))) (length-encode c))

front_len-fails : (p : ℕ → Bool) (c : ℕ) (cs : List ℕ) → p c ≡ false → front_len p (c ∷ cs) ≡ 0
unfolding front_len
front_len-fails p c cs h = rw h refl

-- the characters of a text, where its first one or two are known
pub chars-one : (text rest : List ℕ) (c : ℕ) → IsUtf8 text → text ≡ encode_utf8 c ++ rest
    → length rest ≡ 0 → chars text ≡ c ∷ []
chars-one text [] c u e n = chars_past_char text [] c u e ∙ ap (λ cs. c ∷ cs) chars-nil
chars-one text (b ∷ rest) c u e n = absurd (omega arith)

pub chars-two : (text rest more : List ℕ) (c d : ℕ) → IsUtf8 text → text ≡ encode_utf8 c ++ rest
    → rest ≡ encode_utf8 d ++ more → chars text ≡ c ∷ d ∷ chars more
chars-two text rest more c d u e f = chars_past_char text rest c u e
    ∙ ap (λ cs. c ∷ cs) (chars_past_char rest more d (IsUtf8-past_char text rest c u e) f)

-- A step over one character at the offset i, which takes w bytes.
pub record Step (text rest : List ℕ) (i w : ℕ) : Type 0 where
  pub within : i + w ≤ length text
  pub rest_is : drop (i + w) text ≡ rest
  pub utf8 : IsUtf8 (drop (i + w) text)

pub step_over : (text rest : List ℕ) (i c w : ℕ) → i ≤ length text → IsUtf8 (drop i text)
    → drop i text ≡ encode_utf8 c ++ rest → w ≡ len_utf8 c → Step text rest i w
step_over text rest i c w l u e is =
    let after : drop (i + w) text ≡ rest = ap (λ n. drop (i + n) text) is
    ∙ drop_past_char text rest i c e in
    let lengths : length text - i ≡ len_utf8 c + length rest = sym (length-drop i text)
    ∙ ap (λ (xs : List ℕ). length xs) e ∙ length-append (encode_utf8 c) rest
    ∙ ap (λ n. n + length rest) (length-encode c) in
    record {
      within = omega (arith, lengths, is, len_utf8_bounds c);
      rest_is = after;
      utf8 =
          rw after (IsUtf8-past_char (drop i text) rest c u e);
    }

-- an ASCII byte that continues a name
abbrev pub is_ascii_name_char : Edition → ℕ → Bool
is_ascii_name_char edition b = is_ascii b && is_name_char edition b

encode-ascii : (b : ℕ) → is_ascii b ≡ true → encode_utf8 b ≡ b ∷ []
unfolding encode
encode-ascii b e = rw e refl

-- what an ASCII byte at the front says of the text
ascii-front : (b : ℕ) (rest : List ℕ) → is_ascii b ≡ true → b ∷ rest ≡ encode_utf8 b ++ rest
ascii-front b rest e = ap (λ (bs : List ℕ). bs ++ rest) (sym (encode-ascii b e))

-- A run of ASCII name characters is consumed at once, and what is left after it is UTF-8.
record Passed (edition : Edition) (text : List ℕ) : Type 0 where
  pub same : past_name_chars edition text
      ≡ past_name_chars edition (drop (prefix_len (is_ascii_name_char edition) text) text)
  pub utf8 : IsUtf8 (drop (prefix_len (is_ascii_name_char edition) text) text)

module _ (edition : Edition) where
  -- after a name character the run continues
  pub past_name_chars-passes : (text rest : List ℕ) (c : ℕ) → IsUtf8 text
      → text ≡ encode_utf8 c ++ rest → is_name_char edition c ≡ true
      → past_name_chars edition text ≡ past_name_chars edition rest
  unfolding past_name_chars front_len
  past_name_chars-passes text rest c u e h =
      let run : front_len (is_name_char edition) (chars text) ≡ len_utf8 c + front_len
      (is_name_char edition) (chars rest)
      = ap (front_len (is_name_char edition)) (chars_past_char text rest c u e) ∙ front_len-passes
      (is_name_char edition) c (chars rest) h in
      let following : drop (len_utf8 c) text ≡ rest = ap (λ n. drop n text) (omega arith)
      ∙ drop_past_char text rest 0 c e in
      ap (λ n. drop n text) run ∙ sym (drop-drop (front_len (is_name_char edition) (chars rest))
      (len_utf8 c) text) ∙ ap (drop (front_len (is_name_char edition) (chars rest))) following

  -- before any other character it ends
  pub past_name_chars-fails : (text rest : List ℕ) (c : ℕ) → IsUtf8 text
      → text ≡ encode_utf8 c ++ rest → is_name_char edition c ≡ false
      → past_name_chars edition text ≡ text
  unfolding past_name_chars front_len
  past_name_chars-fails text rest c u e h =
      let run : front_len (is_name_char edition) (chars text) ≡ 0
      = ap (front_len (is_name_char edition)) (chars_past_char text rest c u e) ∙ front_len-fails
      (is_name_char edition) c (chars rest) h in
      ap (λ n. drop n text) run

  pub past_name_chars-none : (text : List ℕ) → length text ≡ 0 → past_name_chars edition text ≡ text
  unfolding past_name_chars
  past_name_chars-none [] e = rw chars-nil refl
  past_name_chars-none (b ∷ text) e = absurd (omega arith)

  passed-ascii : (text : List ℕ) → IsUtf8 text → Passed edition text
  passed-ascii [] u = record { same = refl; utf8 = u }
  passed-ascii (b ∷ rest) u = by (is_ascii_name_char edition b) refl (passed-ascii rest)
    where
      by : (t : Bool) → is_ascii_name_char edition b ≡ t → (IsUtf8 rest → Passed edition rest)
          → Passed edition (b ∷ rest)
      by false e more =
          let none : prefix_len (is_ascii_name_char edition) (b ∷ rest) ≡ 0 = rw e refl in
          record {
            same = ap (λ n. past_name_chars edition (drop n (b ∷ rest))) (sym none);
            utf8 = subst (λ (n : ℕ). IsUtf8 (drop n (b ∷ rest))) (sym none) u;
          }
      by true e more =
          let parts = and_parts (is_ascii b) (is_name_char edition b) e in
          let front = ascii-front b rest parts.0 in
          let tail = more (IsUtf8-past_char (b ∷ rest) rest b u front) in
          let some : prefix_len (is_ascii_name_char edition) (b ∷ rest) ≡ suc (prefix_len
          (is_ascii_name_char edition) rest) = rw (e, one-add) refl in
          let step = past_name_chars-passes (b ∷ rest) rest b u front parts.1 in
          record {
            same = step ∙ tail.same ∙ ap (λ n. past_name_chars edition (drop n (b ∷ rest)))
                (sym some);
            utf8 = subst (λ (n : ℕ). IsUtf8 (drop n (b ∷ rest))) (sym some) tail.utf8;
          }

  -- no further name character follows the run, unless one past ASCII does
  passed-stops : (text : List ℕ) → IsUtf8 text
      → (prefix_len (is_ascii_name_char edition) text < length text
      → get_or text (prefix_len (is_ascii_name_char edition) text) 0 < 128)
      → past_name_chars edition text ≡ drop (prefix_len (is_ascii_name_char edition) text) text
  passed-stops text u ascii =
      let p = passed-ascii text u in
      let n = prefix_len (is_ascii_name_char edition) text in
      p.same
      ∙ elim (eq-or-lt_of_le (prefix_len-le-length (is_ascii_name_char edition) text)) [
        | inl e ↦ past_name_chars-none (drop n text) (length-drop n text ∙ omega arith)
        | inr l ↦ stops n l (ascii l) (prefix_len_stops (is_ascii_name_char edition) text 0 l)
            p.utf8
      ]
    where
      and_first : (x y : Bool) → x ≡ true → (x && y) ≡ false → y ≡ false
      and_first true y e h = h
      and_first false y e h = cc

      stops : (n : ℕ) → n < length text → get_or text n 0 < 128 → is_ascii_name_char edition
          (get_or text n 0) ≡ false → IsUtf8 (drop n text) → past_name_chars edition (drop n text)
          ≡ drop n text
      stops n l small other v =
          let b = get_or text n 0 in
          let shape : drop n text ≡ b ∷ drop (suc n) text = drop-cons text n 0 l in
          let low : is_ascii b ≡ true = lt-ltb b 128 small in
          let fails : is_name_char edition b ≡ false = and_first (is_ascii b)
          (is_name_char edition b) low other in
          past_name_chars-fails (drop n text) (drop (suc n) text) b v (shape ∙ ascii-front b (drop
          (suc n) text) low) fails

  -- The run of name characters ends after ASCII ones, at the end of the text or before another
  -- ASCII byte.
  pub past_name_chars-at : (text : List ℕ) (n : ℕ) → IsUtf8 text
      → n ≡ prefix_len (is_ascii_name_char edition) text → (n < length text → get_or text n 0 < 128)
      → past_name_chars edition text ≡ drop n text
  past_name_chars-at text n u is small =
      passed-stops text u (subst (λ (i : ℕ). i < length text → get_or text i 0 < 128) is small) ∙ ap
      (λ i. drop i text) (sym is)

  -- a text may be cut after ASCII name characters
  pub boundary_past_ascii_name : (text : List ℕ) (n : ℕ) → IsUtf8 text
      → n ≡ prefix_len (is_ascii_name_char edition) text → IsCharBoundary text n
  boundary_past_ascii_name text n u is =
      let ascii : (b : ℕ) → is_ascii_name_char edition b ≡ true → b < 128 = λ b e. ltb-true b 128
      (and_parts (is_ascii b) (is_name_char edition b) e).0 in
      subst (λ (i : ℕ). IsCharBoundary text i) (sym is) (IsCharBoundary-prefix_len
      (is_ascii_name_char edition) ascii text u)

  -- a name begins with an ASCII name start
  pub begins_name-ascii : (text : List ℕ) → IsUtf8 text
      → starts_by (λ b. is_ascii b && is_name_start edition b) text ≡ true
      → begins_name edition (chars text) ≡ true
  begins_name-ascii [] u e = absurd (cc)
  begins_name-ascii (b ∷ rest) u e =
      let parts = and_parts (is_ascii b) (is_name_start edition b) e in
      let front = ascii-front b rest parts.0 in
      rw (chars_past_char (b ∷ rest) rest b u front) (begins (chars rest) parts.1)
    where
      begins : (cs : List ℕ) → is_name_start edition b ≡ true → begins_name edition (b ∷ cs) ≡ true
      begins [] s = rw s refl
      begins (c ∷ cs) s = rw s refl

  -- a name that has n bytes
  pub name-got : (tail text value rest : List ℕ) (n : ℕ) → tail ≡ text → n ≤ length tail
      → begins_name edition (chars tail) ≡ true → past_name_chars edition tail ≡ drop n tail
      → value ≡ slice_range tail 0 n → rest ≡ drop n text → name edition text ≡ got value rest
  unfolding name
  name-got tail text value rest n e within begins run is left =
      let shown : slice_range tail 0 n ≡ take n tail = ap (λ k. take k tail) (omega arith) in
      let found : name edition tail ≡ got (before tail (past_name_chars edition tail))
      (past_name_chars edition tail) = rw begins refl in
      ap (name edition) (sym e) ∙ found ∙ ap (λ k. got (before tail k) k) run
      ∙ ap (λ v. got v (drop n tail)) (before-drop tail n within ∙ sym (is ∙ shown)) ∙ ap
      (got value) (ap (drop n) e ∙ sym left)

  -- no name begins there
  pub name-none : (tail text rest : List ℕ) → tail ≡ text → begins_name edition (chars tail) ≡ false
      → rest ≡ past_byte hyphen text → name edition text ≡ fails (no_name text) rest
  unfolding name
  name-none tail text rest e begins left =
      let none : begins_name edition (chars text) ≡ false = ap (λ t. begins_name edition (chars t))
      (sym e) ∙ begins in
      rw none (ap (fails (no_name text)) (sym left))
