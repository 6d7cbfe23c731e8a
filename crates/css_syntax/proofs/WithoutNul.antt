-- Texts in which U+FFFD is in place of U+0000.
-- Serves `escapes::{without_nul, decode_in}`.
use Rattle.std.proofs.Common.{◌≡◌, ◌≢◌, ℕ, suc, ◌+◌, ◌<◌, ◌==◌, encode_utf8, eqb-true, Bool, true, false, List, [], ◌∷◌, ◌++◌, length, refl, sym, ap, ◌∙◌, arith, if◌then◌else◌, append_assoc, ◌||◌, not}
use Rattle.std.proofs.Math.ListN.{get_or}
use Rattle.std.proofs.lemmas.Grind.{flat_map-append}
use Rattle.std.specs.List.{prefix_len}
use Rattle.css_text.specs.AsciiBytes.{backslash}
use Rattle.css_syntax.specs.Escapes.{unescaped_in, is_itself, without_nul_byte, without_nul, decoded_in}
use Rattle.css_syntax.proofs.Decoding.{decoded-nil, decoded-plain}

-- a text without U+0000 is as it is
pub nul-whole : (xs : List ℕ) → ((i : ℕ) → i < length xs → get_or xs i 0 ≢ 0) → without_nul xs ≡ xs
nul-whole [] h = refl
nul-whole (x ∷ xs) h = by (nul-whole xs (λ i l. h (suc i) (omega (arith, l)))) (x == 0) refl
  where
    by : without_nul xs ≡ xs → (t : Bool) → (x == 0) ≡ t → without_nul (x ∷ xs) ≡ x ∷ xs
    by more true e = absurd (h 0 (omega arith) (eqb-true x 0 e))
    by more false e = rw e (ap (λ (l : List ℕ). x ∷ l) more)

-- up to U+0000 and after it
nul-cut : (text plain next : List ℕ) → text ≡ plain ++ 0 ∷ next
    → ((i : ℕ) → i < length plain → get_or plain i 0 ≢ 0)
    → without_nul text ≡ plain ++ (encode_utf8 65533 ++ without_nul next)
nul-cut text plain next e h =
    let left = encode_utf8 65533 ++ without_nul next in
    ap without_nul e ∙ flat_map-append without_nul_byte plain (0 ∷ next)
    ∙ ap (λ (l : List ℕ). l ++ left) (nul-whole plain h)

-- what is written of it, after something
pub nul-step : (out plain next rest : List ℕ) → rest ≡ plain ++ 0 ∷ next
    → ((i : ℕ) → i < length plain → get_or plain i 0 ≢ 0)
    → ((out ++ plain) ++ encode_utf8 65533) ++ without_nul next ≡ out ++ without_nul rest
nul-step out plain next rest e h =
    let mark = encode_utf8 65533 in
    append_assoc (out ++ plain) mark (without_nul next)
    ∙ append_assoc out plain (mark ++ without_nul next)
    ∙ ap (λ (l : List ℕ). out ++ l) (sym (nul-cut rest plain next e h))

-- a text of bytes that denote themselves is as it is
pub plain-whole : (in_string : Bool) (text : List ℕ) → prefix_len is_itself text ≡ length text
    → decoded_in in_string text ≡ text
plain-whole in_string [] h = ap without_nul (decoded-nil in_string)
plain-whole in_string (b ∷ text) h =
    by (b == backslash) (b == 0) refl refl (plain-whole in_string text) h
  where
    by : (s z : Bool) → (b == backslash) ≡ s → (b == 0) ≡ z
        → (prefix_len is_itself text ≡ length text → decoded_in in_string text ≡ text)
        → (if not (s || z) then 1 + prefix_len is_itself text else 0) ≡ suc (length text)
        → decoded_in in_string (b ∷ text) ≡ b ∷ text
    by true z es ez more k = absurd (omega (arith, k))
    by false true es ez more k = absurd (omega (arith, k))
    by false false es ez more k =
        let own : without_nul (b ∷ unescaped_in in_string text) ≡ b ∷ decoded_in in_string text =
        rw ez refl in
        ap without_nul (decoded-plain in_string b text es) ∙ own
        ∙ ap (λ (l : List ℕ). b ∷ l) (more (omega (arith, k)))

-- something is left of something
pub nul-some : (text : List ℕ) → 0 < length text → 0 < length (without_nul text)
unfolding lib.Utf8.encode
nul-some [] h = absurd (omega (arith, h))
nul-some (b ∷ text) h = by (b == 0)
  where
    by : (t : Bool) → 0 < length ((if t then encode_utf8 65533 else b ∷ []) ++ without_nul text)
    by true = omega arith
    by false = omega arith

-- there is no U+0000 in it any more: without it the text stays
pub nul-once : (text : List ℕ) → without_nul (without_nul text) ≡ without_nul text
unfolding lib.Utf8.encode
nul-once [] = refl
nul-once (b ∷ text) = by (nul-once text) (b == 0) refl
  where
    by : without_nul (without_nul text) ≡ without_nul text → (t : Bool) → (b == 0) ≡ t
        → without_nul ((if t then encode_utf8 65533 else b ∷ []) ++ without_nul text)
        ≡ (if t then encode_utf8 65533 else b ∷ []) ++ without_nul text
    by more true e = ap (λ (l : List ℕ). encode_utf8 65533 ++ l) more
    by more false e = rw e (ap (λ (l : List ℕ). b ∷ l) more)
