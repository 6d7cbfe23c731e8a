-- A text without the white space at its ends.
-- Serves `Selector::{parse, parse_front}` and `StyleSheet::parse` (a selector printed and read
-- again).
use Rattle.std.proofs.Common.{◌≡◌, ℕ, List, [], ◌∷◌, ◌++◌, Bool, true, false, cond, ◌&&◌, ◌==◌, length, refl, ap, ◌∙◌, subst, encode_utf8_all, IsUtf8}
use Rattle.std.proofs.lemmas.Bool.{and_parts}
use Rattle.std.specs.Char.{is_whitespace}
use Rattle.std.specs.Str.{all_scalars, trim_start, trim_end, trim, skip_leading_whitespace, drop_trailing_whitespace}
use Rattle.std.proofs.lemmas.Str.{chars-encodes}
use lib.Utf8.{scalar}
use Rattle.simplecss_grammar.proofs.reading.OccurrenceLemmas.{trim-parts}

-- the characters without the white space at both ends
abbrev pub inner : List ℕ → List ℕ
inner cs = drop_trailing_whitespace (skip_leading_whitespace cs)

-- no white space is at the front
abbrev pub BeginsBare : List ℕ → Type 0
BeginsBare [] = Unit {0}
BeginsBare (c ∷ cs) = is_whitespace c ≡ false

skip-bare : (cs : List ℕ) → BeginsBare (skip_leading_whitespace cs)
skip-bare [] = tt
skip-bare (c ∷ cs) = by (is_whitespace c) refl (skip-bare cs)
  where
    by : (t : Bool) → is_whitespace c ≡ t → BeginsBare (skip_leading_whitespace cs)
        → BeginsBare (cond t (skip_leading_whitespace cs) (c ∷ cs))
    by true e more = more
    by false e more = e

-- where no white space is at the front, none is skipped
pub bare-skip : (cs : List ℕ) → BeginsBare cs → skip_leading_whitespace cs ≡ cs
bare-skip [] h = refl
bare-skip (c ∷ cs) h = rw h refl

drop-bare : (cs : List ℕ) → BeginsBare cs → BeginsBare (drop_trailing_whitespace cs)
drop-bare [] h = tt
drop-bare (c ∷ cs) h = rw h h

drop-again : (cs : List ℕ) → drop_trailing_whitespace (drop_trailing_whitespace cs)
    ≡ drop_trailing_whitespace cs
drop-again [] = refl
drop-again (c ∷ cs) = by (is_whitespace c && length (drop_trailing_whitespace cs) == 0) refl
    (drop-again cs)
  where
    by : (t : Bool) → (is_whitespace c && length (drop_trailing_whitespace cs) == 0) ≡ t
        → drop_trailing_whitespace (drop_trailing_whitespace cs) ≡ drop_trailing_whitespace cs
        → drop_trailing_whitespace (cond t [] (c ∷ drop_trailing_whitespace cs))
        ≡ cond t [] (c ∷ drop_trailing_whitespace cs)
    by true e more = refl
    by false e more = rw (more, e) refl

inner-again : (cs : List ℕ) → inner (inner cs) ≡ inner cs
inner-again cs =
    ap drop_trailing_whitespace (bare-skip (drop_trailing_whitespace (skip_leading_whitespace cs))
    (drop-bare (skip_leading_whitespace cs) (skip-bare cs)))
    ∙ drop-again (skip_leading_whitespace cs)

-- what is left of characters are characters
pub scalars-skip : (cs : List ℕ) → all_scalars cs ≡ true
    → all_scalars (skip_leading_whitespace cs) ≡ true
scalars-skip [] h = refl
scalars-skip (c ∷ cs) h = by (is_whitespace c)
    (scalars-skip cs (and_parts (scalar c) (all_scalars cs) h).1)
  where
    by : (t : Bool) → all_scalars (skip_leading_whitespace cs) ≡ true
        → all_scalars (cond t (skip_leading_whitespace cs) (c ∷ cs)) ≡ true
    by true more = more
    by false more = h

scalars-drop : (cs : List ℕ) → all_scalars cs ≡ true
    → all_scalars (drop_trailing_whitespace cs) ≡ true
scalars-drop [] h = refl
scalars-drop (c ∷ cs) h = by (is_whitespace c && length (drop_trailing_whitespace cs) == 0)
    (scalars-drop cs (and_parts (scalar c) (all_scalars cs) h).1)
  where
    by : (t : Bool) → all_scalars (drop_trailing_whitespace cs) ≡ true
        → all_scalars (cond t [] (c ∷ drop_trailing_whitespace cs)) ≡ true
    by true more = refl
    by false more = rw ((and_parts (scalar c) (all_scalars cs) h).0, more) refl

-- What is between the white space at the ends of a text: it is a text, and trimmed again it is
-- the same.
pub record Trimmed (text inside : List ℕ) : Type 0 where
  pub front : List ℕ
  pub following : List ℕ
  pub is : text ≡ front ++ (inside ++ following)
  pub text_is : IsUtf8 inside
  pub again : trim inside ≡ inside

-- what a trim leaves, by the characters
pub trim-encodes : (cs : List ℕ) → all_scalars cs ≡ true
    → all_scalars (skip_leading_whitespace cs) ≡ true
    → trim (encode_utf8_all cs) ≡ encode_utf8_all (inner cs)
unfolding trim_start trim_end
trim-encodes cs s t =
    let first = chars-encodes cs s in
    let second = chars-encodes (skip_leading_whitespace cs) t in
    rw (first, second) refl

-- of the characters of a text
trim-of : (cs : List ℕ) → all_scalars cs ≡ true
    → IsUtf8 (trim (encode_utf8_all cs)) ×
    (trim (trim (encode_utf8_all cs)) ≡ trim (encode_utf8_all cs))
trim-of cs s =
    let skipped = scalars-skip cs s in
    let left = scalars-drop (skip_leading_whitespace cs) skipped in
    let value = trim-encodes cs s skipped in
    rw value (
      (inner cs, (left, refl)),
      trim-encodes (inner cs) left (scalars-skip (inner cs) left)
          ∙ ap encode_utf8_all (inner-again cs),
    )

-- what a trim leaves of a text
pub trim-is : (text : List ℕ) → IsUtf8 text → Trimmed text (trim text)
trim-is text u =
    let parts = trim-parts text u in
    let inside = subst (λ (t : List ℕ). IsUtf8 (trim t) × (trim (trim t) ≡ trim t)) u.1.1
    (trim-of u.0 u.1.0) in
    record {
      front = parts.0;
      following = parts.1;
      is = parts.2;
      text_is = inside.0;
      again =
          inside.1;
    }
