-- Where a text may be cut.
-- Serves `spelling` and `refusal_words`.
use Rattle.std.proofs.Common.{◌≡◌, ℕ, ◌<◌, ◌⊎◌, inl, inr, ◌==◌, ◌||◌, ◌&&◌, not, nat_le, nat_lt, Bool, true, false, List, length, get_or, arith, refl, sym, ap, ◌∙◌, subst, eqb-true}
use Rattle.std.specs.List.{prefix_len}
use Rattle.std.specs.Str.{IsCharBoundary}
use Rattle.std.proofs.lemmas.Bool.Decides.{nat_tests}
use Rattle.std.proofs.lemmas.List.Sums.{prefix_len_stops, prefix_len-le-length}
use Rattle.std.proofs.lemmas.Str.{IsCharBoundary-before_ascii, IsCharBoundary-end}
use Rattle.std.proofs.Math.Nat.{eq-or-lt_of_le}
use Rattle.css_text.specs.AsciiBytes.{backslash, colon, newline, carriage_return, form_feed, underscore, hyphen}
use Rattle.css_text.specs.Bytes.{is_digit}
use Rattle.css_text.specs.Characters.{is_letter}
use Rattle.css_syntax.specs.Tokens.{is_name_byte, is_newline, is_wide_byte}
use Rattle.css_selector_text.specs.declared.refusal.Quoted.{Quoted}
use Rattle.css_selector_text.specs.declared.refusal.Quoted.TheVariants.{Line, Word, Signs}
use Rattle.css_selector_text.specs.RefusalWords.{is_word_byte, is_quoted}

or_first : (a b : Bool) → (a || b) ≡ false → a ≡ false
or_first true b h = absurd (cc)
or_first false b h = refl

or_second : (a b : Bool) → (a || b) ≡ false → b ≡ false
or_second true b h = absurd (cc)
or_second false b h = h

pub name_low : (b : ℕ) → is_name_byte b ≡ false → b < 128
name_low b h =
    let wide =
    or_second (is_letter b || is_digit b || b == underscore || b == hyphen) (is_wide_byte b) h in
    grind (arith, nat_tests, or_first (nat_le 128 b) (b == 0) wide)

newline_low : (b : ℕ) → is_newline b ≡ true → b < 128
newline_low b h =
    by (b == newline) (b == carriage_return) (b == form_feed) refl refl refl h
  where
    by : (n c f : Bool) → (b == newline) ≡ n → (b == carriage_return) ≡ c
        → (b == form_feed) ≡ f → (n || c || f) ≡ true → b < 128
    by true c f en ec ef k = omega (arith, eqb-true b newline en)
    by false true f en ec ef k = omega (arith, eqb-true b carriage_return ec)
    by false false true en ec ef k = omega (arith, eqb-true b form_feed ef)
    by false false false en ec ef k = absurd (cc)

not_false : (t : Bool) → not t ≡ false → t ≡ true
not_false true h = refl
not_false false h = absurd (cc)

word_low : (b : ℕ) → is_word_byte b ≡ false → b < 128
word_low b h =
    name_low b
    (or_first (is_name_byte b) (b == colon)
    (or_first (is_name_byte b || b == colon) (b == backslash) h))

signs_low : (b : ℕ) → is_quoted Signs b ≡ false → b < 128
signs_low b h = by (nat_lt 127 b) (nat_lt 32 b) refl refl h
  where
    by : (wide some : Bool) → nat_lt 127 b ≡ wide → nat_lt 32 b ≡ some
        → (some && (wide || not (is_word_byte b))) ≡ false → b < 128
    by wide false ew es k = grind (arith, nat_tests, es)
    by true true ew es k = absurd (cc)
    by false true ew es k = grind (arith, nat_tests, ew)

pub quoted_low : (quoted : Quoted) (b : ℕ) → is_quoted quoted b ≡ false → b < 128
quoted_low Line b h = newline_low b (not_false (is_newline b) h)
quoted_low Word b h = word_low b h
quoted_low Signs b h = signs_low b h

-- after a run of bytes that every byte past ASCII continues
pub run_boundary : (test : ℕ → Bool) → ((b : ℕ) → test b ≡ false → b < 128) → (text bytes : List ℕ)
    (n : ℕ) → bytes ≡ text → n ≡ prefix_len test bytes → IsCharBoundary text n
run_boundary test low text bytes n same is =
    subst (IsCharBoundary text) (sym (is ∙ ap (prefix_len test) same))
    (by (eq-or-lt_of_le (prefix_len-le-length test text)))
  where
    k : ℕ
    k = prefix_len test text

    by : (k ≡ length text) ⊎ (k < length text) → IsCharBoundary text k
    by (inl all) = subst (IsCharBoundary text) (sym all) (IsCharBoundary-end text)
    by (inr some) =
        IsCharBoundary-before_ascii text k some
        (low (get_or text k 0) (prefix_len_stops test text 0 some))
