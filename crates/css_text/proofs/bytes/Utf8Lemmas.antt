-- A text may be cut at its ASCII bytes. Its characters are those of its parts.
-- Serves `scan::long_gap`, `Selector::parse_front` and `StyleSheet::parse` (texts printed and read
-- again).
use Rattle.std.proofs.Common.{not, drop, ◌⊎◌, inl, inr, length, [], Bool, true, false, if◌then◌else◌, ◌==◌, refl, ◌≡◌, ℕ, ◌+◌, ◌<◌, List, ◌∷◌, ◌++◌, get_or, arith, sym, ap, ◌∙◌, subst, length-append, IsUtf8, eqb-true}
use Rattle.std.specs.Str.{IsCharBoundary, all_scalars, chars}
use lib.Utf8.{scalar}
use Rattle.std.proofs.lemmas.Str.{IsUtf8-take, IsCharBoundary-after_ascii, IsCharBoundary-at_seam, IsCharBoundary-before_ascii, IsCharBoundary-end, IsUtf8-drop, IsUtf8-from_ascii, IsCharBoundary-from_take, chars-append, chars-IsAscii}
use Rattle.std.proofs.lemmas.Bool.{not-false, and_parts}
use Rattle.std.proofs.lemmas.List.Sums.{prefix_len_stops, prefix_len-le-length}
use Rattle.std.proofs.Math.Nat.{eq-or-lt_of_le}
use Rattle.std.proofs.Math.Seq.{get_or-append_seam, drop-append-add, take-append_seam, get_or-append-add, drop-append_seam}
use Rattle.css_text.proofs.reading.EndsLemmas.{ends-append}
use Rattle.css_text.proofs.bytes.RunLemmas.{past-yes, past-no}
use Rattle.std.specs.List.{prefix_len}
use Rattle.std.proofs.lemmas.Str.Ascii.{IsAscii-cons, IsAscii-nil}
use Rattle.css_text.specs.Reading.{Ends, before}
use Rattle.css_text.specs.Bytes.{past, past_byte}

-- after an ASCII character the text is UTF-8
pub utf8-after : (text rest : List ℕ) (b : ℕ) → b < 128 → IsUtf8 text → Ends text (b ∷ rest)
    → IsUtf8 rest
utf8-after text rest b ascii u e =
    let front = before text (b ∷ rest) in
    let at : get_or text (length front) 0 ≡ b =
    ap (λ (t : List ℕ). get_or t (length front) 0) (sym e)
    ∙ get_or-append_seam front b rest 0 in
    let len : length front + length (b ∷ rest) ≡ length text =
    sym (length-append front (b ∷ rest)) ∙ ap length e in
    let left : drop (length front + 1) text ≡ rest =
    ap (drop (length front + 1)) (sym e) ∙ drop-append-add front (b ∷ rest) 1 in
    let cut : IsCharBoundary text (length front + 1) =
    IsCharBoundary-after_ascii text (length front) u (omega arith) (omega arith) in
    subst IsUtf8 left (IsUtf8-drop text (length front + 1) u cut)

-- the first such byte is at the boundary of a character
pub until-boundary : (text : List ℕ) (c : ℕ) → c < 128 → IsUtf8 text
    → IsCharBoundary text (prefix_len (λ b. not (b == c)) text)
until-boundary text c ascii u = by (eq-or-lt_of_le (prefix_len-le-length other text))
  where
    other : ℕ → Bool
    other b = not (b == c)

    k : ℕ
    k = prefix_len other text

    by : (k ≡ length text) ⊎ (k < length text) → IsCharBoundary text k
    by (inl all) = subst (IsCharBoundary text) (sym all) (IsCharBoundary-end text)
    by (inr some) =
        let closing : get_or text k 0 ≡ c =
        eqb-true (get_or text k 0) c
        (not-false (get_or text k 0 == c) (prefix_len_stops other text 0 some)) in
        IsCharBoundary-before_ascii text k some (omega arith)

boundary : (front : List ℕ) (b : ℕ) (text : List ℕ) → b < 128
    → IsCharBoundary (front ++ (b ∷ text)) (length front)
boundary front b text h =
    let at : get_or (front ++ (b ∷ text)) (length front + 0) 0 ≡ b =
    get_or-append-add front (b ∷ text) 0 0 in
    let same : length front + 0 ≡ length front = omega arith in
    let here : get_or (front ++ (b ∷ text)) (length front) 0 ≡ b =
    ap (λ k. get_or (front ++ (b ∷ text)) k 0) (sym same) ∙ at in
    IsCharBoundary-before_ascii (front ++ (b ∷ text)) (length front)
    (omega (arith, length-append front (b ∷ text))) (omega arith)

-- what is before an ASCII byte
pub utf8-before_byte : (front : List ℕ) (b : ℕ) (text : List ℕ) → b < 128
    → IsUtf8 (front ++ (b ∷ text)) → IsUtf8 front
utf8-before_byte front b text h u =
    subst IsUtf8 (take-append_seam front (b ∷ text))
    (IsUtf8-take (front ++ (b ∷ text)) (length front) u (boundary front b text h))

-- what follows an ASCII byte
pub utf8-after_byte : (front : List ℕ) (b : ℕ) (text : List ℕ) → b < 128
    → IsUtf8 (front ++ (b ∷ text)) → IsUtf8 text
utf8-after_byte front b text h u =
    utf8-after (front ++ (b ∷ text)) text b h u (ends-append front (b ∷ text))

-- after an ASCII byte that begins a text
pub utf8-past_byte : (b : ℕ) (text : List ℕ) → b < 128 → IsUtf8 (b ∷ text) → IsUtf8 text
utf8-past_byte b text h u = utf8-after_byte [] b text h u

-- what follows an ASCII byte, if it is there
pub utf8-past_byte_if : (c : ℕ) (text : List ℕ) → c < 128 → IsUtf8 text → IsUtf8 (past_byte c text)
utf8-past_byte_if c [] low u = u
utf8-past_byte_if c (b ∷ text) low u = by (b == c) refl
  where
    by : (t : Bool) → (b == c) ≡ t → IsUtf8 (if t then text else b ∷ text)
    by true e = utf8-past_byte b text (let same = eqb-true b c e in omega arith) u
    by false e = u

-- after a run of ASCII bytes
pub utf8-past : (test : ℕ → Bool) (text : List ℕ) → ((b : ℕ) → test b ≡ true → b < 128)
    → IsUtf8 text → IsUtf8 (past test text)
utf8-past test [] low u = u
utf8-past test (b ∷ text) low u = by (test b) refl (λ v. utf8-past test text low v)
  where
    by : (t : Bool) → test b ≡ t → (IsUtf8 text → IsUtf8 (past test text))
        → IsUtf8 (past test (b ∷ text))
    by true e more = rw (past-yes test b text e) (more (utf8-past_byte b text (low b e) u))
    by false e more = rw (past-no test b text e) u

-- after a text
pub utf8-second : (a b : List ℕ) → IsUtf8 (a ++ b) → IsUtf8 a → IsUtf8 b
utf8-second a b u v =
    let cut =
    IsCharBoundary-from_take (a ++ b) (length a) u (omega (arith, length-append a b))
    (subst IsUtf8 (sym (take-append_seam a b)) v) in
    subst IsUtf8 (drop-append_seam a b) (IsUtf8-drop (a ++ b) (length a) u cut)

-- before a text
pub utf8-first : (a b : List ℕ) → IsUtf8 (a ++ b) → IsUtf8 b → IsUtf8 a
utf8-first a b u v =
    subst IsUtf8 (take-append_seam a b)
    (IsUtf8-take (a ++ b) (length a) u (IsCharBoundary-at_seam (a ++ b) a b refl v))

-- ---- characters

-- an ASCII byte is a character
pub chars-byte : (b : ℕ) (text : List ℕ) → b < 128 → chars (b ∷ text) ≡ b ∷ chars text
chars-byte b text h =
    let one = IsAscii-cons b [] h IsAscii-nil in
    chars-append (b ∷ []) text (IsUtf8-from_ascii (b ∷ []) one)
    ∙ ap (λ l. l ++ chars text) (chars-IsAscii (b ∷ []) one)

-- both parts of a list of characters
pub all_scalars-append : (a b : List ℕ) → all_scalars (a ++ b) ≡ true
    → (all_scalars a ≡ true) × (all_scalars b ≡ true)
all_scalars-append [] b h = (refl, h)
all_scalars-append (c ∷ a) b h =
    let here = and_parts (scalar c) (all_scalars (a ++ b)) h in
    let more = all_scalars-append a b here.1 in
    (rw (here.0, more.0) refl, more.1)
