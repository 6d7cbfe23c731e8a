-- A text that neither begins nor ends with white space is left by a trim as it is.
-- Serves `prints_back` of `StyleSheet::{parse, parse_more, read}` (a sheet printed and read
-- again).
use Rattle.std.proofs.Common.{◌≡◌, ℕ, ◌<◌, ◌≤◌, ◌⊎◌, inl, inr, List, [], ◌∷◌, ◌++◌, Bool, true, false, cond, ◌&&◌, ◌==◌, nat_le, length, arith, refl, sym, ap, ◌∙◌, subst, length-append, encode_utf8, encode_utf8_all, IsUtf8}
use Rattle.std.specs.Char.{is_whitespace}
use Rattle.std.specs.List.{list_any}
use Rattle.std.specs.Str.{chars, all_scalars, trim, drop_trailing_whitespace}
use Rattle.std.proofs.lemmas.Str.{encode_ascii, length-encode, len_utf8_bounds, chars-encodes}
use Rattle.std.proofs.lemmas.Bool.{cases_lt, or_parts}
use Rattle.std.proofs.lemmas.Bool.Decides.{nat_tests}
use Rattle.simplecss_grammar.specs.PrintingLaws.{is_wide_space, has_wide_space}
use Rattle.simplecss_grammar.proofs.reading.PrintedPieces.{last_after}
use Rattle.css_text.proofs.reading.EachLemmas.{not_empty}
use Rattle.simplecss_grammar.proofs.bytes.TrimLemmas.{BeginsBare, bare-skip, scalars-skip, trim-encodes}
use Rattle.simplecss_grammar.proofs.round_trip.TermEnds.{is_bare, FirstBare}

bare_low : (c : ℕ) → c < 128 → is_bare c ≡ true → is_whitespace c ≡ false
bare_low c low e = grind (arith, nat_tests)

bare_high : (c : ℕ) → 128 ≤ c → is_wide_space c ≡ false → is_whitespace c ≡ false
bare_high c high e = by (nat_le 128 c) (is_whitespace c) refl e
  where
    by : (t w : Bool) → nat_le 128 c ≡ t → (t && w) ≡ false → w ≡ false
    by true w h k = k
    by false w h k = absurd (let there : nat_le 128 c ≡ true = grind (arith, nat_tests) in cc)

bare_char : (c : ℕ) → (c < 128 → is_bare c ≡ true) → is_wide_space c ≡ false
    → is_whitespace c ≡ false
bare_char c bare wide = by (cases_lt c 128)
  where
    by : (c < 128) ⊎ (128 ≤ c) → is_whitespace c ≡ false
    by (inl low) = bare_low c low (bare low)
    by (inr high) = bare_high c high wide

begins-bare : (cs text : List ℕ) → encode_utf8_all cs ≡ text → FirstBare text
    → list_any is_wide_space cs ≡ false → BeginsBare cs
begins-bare [] text e b w = tt
begins-bare (c ∷ cs) text e b w =
    bare_char c
    (λ low. subst FirstBare (sym e ∙ ap (λ l. l ++ encode_utf8_all cs) (encode_ascii c low)) b)
    (or_parts (is_wide_space c) (list_any is_wide_space cs) w).0

-- the last byte is in the last part that is not empty
pub last-append : (previous : ℕ) (front : List ℕ) (b : ℕ) (text : List ℕ)
    → last_after previous (front ++ (b ∷ text)) ≡ last_after b text
last-append previous [] b text = refl
last-append previous (c ∷ front) b text = last-append c front b text

-- some bytes more in front
last-front : (previous other : ℕ) (front text : List ℕ) → 0 < length text
    → last_after previous (front ++ text) ≡ last_after other text
last-front previous other front [] h = absurd (omega arith)
last-front previous other front (b ∷ text) h = last-append previous front b text

some_bytes : (c : ℕ) (cs : List ℕ) → 0 < length (encode_utf8_all (c ∷ cs))
some_bytes c cs =
    omega (
      arith,
      length-append (encode_utf8 c) (encode_utf8_all cs),
      length-encode c,
      len_utf8_bounds c,
    )

kept_end : (t : Bool) (c d : ℕ) (cs : List ℕ)
    → cond (t && (length (d ∷ cs) == 0)) [] (c ∷ d ∷ cs) ≡ c ∷ d ∷ cs
kept_end true c d cs = rw (not_empty d cs) refl
kept_end false c d cs = refl

ends-bare : (cs : List ℕ) → is_bare (last_after 0 (encode_utf8_all cs)) ≡ true
    → list_any is_wide_space cs ≡ false → drop_trailing_whitespace cs ≡ cs
ends-bare [] b w = refl
ends-bare (c ∷ []) b w =
    let last : c < 128 → is_bare c ≡ true =
    λ low. sym (ap (λ l. is_bare (last_after 0 (l ++ []))) (encode_ascii c low)) ∙ b in
    let space = bare_char c last (or_parts (is_wide_space c) false w).0 in
    rw space refl
ends-bare (c ∷ d ∷ cs) b w =
    let more =
    ends-bare (d ∷ cs)
    (ap is_bare
    (sym (last-front 0 0 (encode_utf8 c) (encode_utf8_all (d ∷ cs)) (some_bytes d cs))) ∙ b)
    (or_parts (is_wide_space c) (list_any is_wide_space (d ∷ cs)) w).1 in
    ap (λ (l : List ℕ). cond (is_whitespace c && (length l == 0)) [] (c ∷ l)) more
    ∙ kept_end (is_whitespace c) c d cs

trim-encoded : (cs : List ℕ) → all_scalars cs ≡ true → BeginsBare cs
    → drop_trailing_whitespace cs ≡ cs → trim (encode_utf8_all cs) ≡ encode_utf8_all cs
trim-encoded cs s begins ends =
    trim-encodes cs s (scalars-skip cs s)
    ∙ ap encode_utf8_all (ap drop_trailing_whitespace (bare-skip cs begins) ∙ ends)

-- without white space past ASCII, and with none of ASCII at its ends
pub trim-bare : (text : List ℕ) → IsUtf8 text → has_wide_space text ≡ false → FirstBare text
    → is_bare (last_after 0 text) ≡ true → trim text ≡ text
trim-bare text u w first last =
    let cs = u.0 in
    let wide : list_any is_wide_space cs ≡ false =
    ap (list_any is_wide_space) (sym (chars-encodes cs u.1.0) ∙ ap chars u.1.1) ∙ w in
    ap trim (sym u.1.1)
    ∙ trim-encoded cs u.1.0 (begins-bare cs text u.1.1 first wide)
    (ends-bare cs (ap (λ t. is_bare (last_after 0 t)) u.1.1 ∙ last) wide)
    ∙ u.1.1
