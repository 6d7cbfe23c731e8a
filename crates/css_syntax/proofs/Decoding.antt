-- Texts whose escapes are decoded, up to a backslash and after it.
-- Serves `escapes`.
use Rattle.std.proofs.Common.{◌≡◌, ℕ, ◌<◌, ◌≤◌, ◌∙◌, Bool, true, false, List, [], ◌∷◌, ◌++◌, length, length-append, get_or, Some, arith, refl, ap, sym, ◌≢◌, suc, ◌==◌, ◌&&◌, if◌then◌else◌, append-nil, append_assoc, encode_utf8, flat_map}
use Rattle.std.proofs.lemmas.Bool.Decides.{nat_tests}
use Rattle.std.proofs.lemmas.Str.{encode_ascii, length-encode, len_utf8_bounds}
use Rattle.css_text.specs.AsciiBytes.{backslash}
use Rattle.css_text.specs.Reading.{each}
use Rattle.css_text.specs.Bytes.{past_one, is_hex_digit}
use Rattle.css_text.proofs.reading.EachLemmas.{Shrinks, Takes, each-some}
use Rattle.css_syntax.specs.Tokens.{begins_escape, past_escape, hex_number, is_newline}
use Rattle.css_syntax.specs.Escapes.{replacement, character_of, escaped_text, decoded_part, unescaped_in}
use Rattle.css_syntax.proofs.Shorter.{past_escape-within}

-- a run without a backslash
abbrev pub NoBackslash : List ℕ → Type 0
NoBackslash run = (i : ℕ) → i < length run → get_or run i 0 ≢ backslash

newline-is_none : (b : ℕ) (text : List ℕ) → is_newline b ≡ true
    → begins_escape (backslash ∷ b ∷ text) ≡ false
newline-is_none b text e = rw e refl

pub escape-begins : (b : ℕ) (text : List ℕ) → is_newline b ≡ false
    → begins_escape (backslash ∷ b ∷ text) ≡ true
escape-begins b text e = rw e refl

pub past_one-within : (text : List ℕ) → length (past_one text) ≤ length text
past_one-within [] = omega arith
past_one-within (b ∷ text) = omega arith

encoded-some : (c : ℕ) → 0 < length (encode_utf8 c)
encoded-some c = let b = len_utf8_bounds c in omega (arith, length-encode c)

escaped-some : (in_string : Bool) → in_string ≡ false → (text : List ℕ)
    → 0 < length (escaped_text in_string text)
escaped-some true e text = absurd (cc)
escaped-some false e [] = encoded-some replacement
escaped-some false e (b ∷ text) = by (is_hex_digit b)
  where
    character : ℕ
    character = character_of (hex_number 6 0 (b ∷ text))

    by : (t : Bool) → 0 < length (if t then encode_utf8 character else b ∷ [])
    by true = encoded-some character
    by false = omega arith

-- what is appended for a backslash at the end of the text
pub nothing-pushed : (in_string : Bool) (old : List ℕ) → in_string ≡ true
    → old ≡ old ++ escaped_text in_string []
nothing-pushed true old e = sym (append-nil old)
nothing-pushed false old e = absurd (cc)

pub replacement-pushed : (in_string : Bool) (old new : List ℕ) → in_string ≡ false
    → new ≡ old ++ encode_utf8 replacement → new ≡ old ++ escaped_text in_string []
replacement-pushed true old new e h = absurd (cc)
replacement-pushed false old new e h = h

module _ (in_string : Bool) where
  part-takes : Takes (decoded_part in_string)
  unfolding decoded_part
  part-takes [] = tt
  part-takes (b ∷ text) = by (begins_escape (b ∷ text)) (in_string && b == backslash)
    where
      by : (t s : Bool) → Shrinks (b ∷ text) (if t then Some (escaped_text in_string text, past_escape text)
          else (if s then Some ([], past_escape text) else Some (b ∷ [], text)))
      by true s = omega (arith, past_escape-within text)
      by false true = omega (arith, past_escape-within text)
      by false false = omega arith

  decoded-some : (text rest part : List ℕ) → decoded_part in_string text ≡ Some (part, rest)
      → unescaped_in in_string text ≡ part ++ unescaped_in in_string rest
  unfolding unescaped_in
  decoded-some text rest part e =
      ap (λ r. flat_map (λ p. p) r.0)
      (each-some (decoded_part in_string) part-takes text rest part e)

  pub decoded-nil : unescaped_in in_string [] ≡ []
  unfolding unescaped_in decoded_part each
  decoded-nil = refl

  -- an escape
  pub decoded-escape : (text : List ℕ) → begins_escape (backslash ∷ text) ≡ true
      → unescaped_in in_string (backslash ∷ text)
      ≡ escaped_text in_string text ++ unescaped_in in_string (past_escape text)
  unfolding decoded_part
  decoded-escape text e =
      let found : decoded_part in_string (backslash ∷ text)
      ≡ Some (escaped_text in_string text, past_escape text) =
      rw e refl in
      decoded-some (backslash ∷ text) (past_escape text) (escaped_text in_string text) found

  -- a byte that is no backslash
  pub decoded-plain : (b : ℕ) (text : List ℕ) → (b == backslash) ≡ false
      → unescaped_in in_string (b ∷ text) ≡ b ∷ unescaped_in in_string text
  unfolding decoded_part
  decoded-plain b text e = decoded-some (b ∷ text) text (b ∷ []) (by in_string)
    where
      by : (s : Bool) → decoded_part s (b ∷ text) ≡ Some (b ∷ [], text)
      by true = rw e refl
      by false = rw e refl

  -- a text with a byte denotes one or more
  pub decoded-some_bytes : in_string ≡ false → (text : List ℕ) → 0 < length text
      → 0 < length (unescaped_in in_string text)
  unfolding decoded_part
  decoded-some_bytes elsewhere [] h = absurd (omega arith)
  decoded-some_bytes elsewhere (b ∷ text) h =
      by (begins_escape (b ∷ text)) (in_string && b == backslash) refl (none in_string elsewhere)
    where
      none : (s : Bool) → s ≡ false → (s && b == backslash) ≡ false
      none true e = absurd (cc)
      none false e = refl

      found : (part rest : List ℕ) → decoded_part in_string (b ∷ text) ≡ Some (part, rest)
          → 0 < length part → 0 < length (unescaped_in in_string (b ∷ text))
      found part rest e some =
          omega (
            arith,
            ap length (decoded-some (b ∷ text) rest part e),
            length-append part (unescaped_in in_string rest),
            some,
          )

      by : (t s : Bool) → begins_escape (b ∷ text) ≡ t → (in_string && b == backslash) ≡ false
          → 0 < length (unescaped_in in_string (b ∷ text))
      by true s e f =
          found (escaped_text in_string text) (past_escape text) (rw e refl)
          (escaped-some in_string elsewhere text)
      by false s e f = found (b ∷ []) text (rw (e, f) refl) (omega arith)

  pub decoded-run : (run rest : List ℕ) → NoBackslash run
      → unescaped_in in_string (run ++ rest) ≡ run ++ unescaped_in in_string rest
  decoded-run [] rest h = refl
  decoded-run (b ∷ run) rest h =
      let plain : (b == backslash) ≡ false = grind (arith, h 0) in
      decoded-plain b (run ++ rest) plain
      ∙ ap (λ (l : List ℕ). b ∷ l) (decoded-run run rest (λ i k. h (suc i) (omega arith)))

  -- ---- what follows a backslash

  escape-at_end : unescaped_in in_string (backslash ∷ []) ≡ escaped_text in_string []
  unfolding past_escape
  escape-at_end =
      decoded-escape [] refl
      ∙ ap (λ (l : List ℕ). escaped_text in_string [] ++ l) decoded-nil
      ∙ append-nil (escaped_text in_string [])

  -- hexadecimal digits
  escape-digits : (b : ℕ) (text : List ℕ) → is_newline b ≡ false → is_hex_digit b ≡ true
      → unescaped_in in_string (backslash ∷ b ∷ text)
      ≡ encode_utf8 (character_of (hex_number 6 0 (b ∷ text)))
      ++ unescaped_in in_string (past_escape (b ∷ text))
  escape-digits b text n h =
      let here : escaped_text in_string (b ∷ text)
      ≡ encode_utf8 (character_of (hex_number 6 0 (b ∷ text))) = rw h refl in
      decoded-escape (b ∷ text) (escape-begins b text n)
      ∙ ap (λ (l : List ℕ). l ++ unescaped_in in_string (past_escape (b ∷ text))) here

  -- another byte stands for itself
  escape-byte : (b : ℕ) (text : List ℕ) → is_newline b ≡ false → is_hex_digit b ≡ false
      → unescaped_in in_string (backslash ∷ b ∷ text) ≡ b ∷ unescaped_in in_string text
  unfolding past_escape
  escape-byte b text n h =
      let here : escaped_text in_string (b ∷ text) ≡ b ∷ [] = rw h refl in
      let after : past_escape (b ∷ text) ≡ text = rw (h, n) refl in
      decoded-escape (b ∷ text) (escape-begins b text n)
      ∙ ap (λ (l : List ℕ). l ++ unescaped_in in_string (past_escape (b ∷ text))) here
      ∙ ap (λ (l : List ℕ). b ∷ unescaped_in in_string l) after

  -- one past ASCII is no backslash, so it is the next byte of the text, too
  escape-wide : (b : ℕ) (text : List ℕ) → is_newline b ≡ false → is_hex_digit b ≡ false
      → (b == backslash) ≡ false
      → unescaped_in in_string (backslash ∷ b ∷ text) ≡ unescaped_in in_string (b ∷ text)
  escape-wide b text n h w = escape-byte b text n h ∙ sym (decoded-plain b text w)

  -- ---- what is appended for an escape, and the rest

  pub pushed-end : (old new after : List ℕ) → after ≡ [] → new ≡ old ++ escaped_text in_string []
      → new ++ unescaped_in in_string after ≡ old ++ unescaped_in in_string (backslash ∷ after)
  pushed-end old new after e h =
      ap (λ (l : List ℕ). new ++ unescaped_in in_string l) e
      ∙ ap (λ (l : List ℕ). new ++ l) decoded-nil ∙ append-nil new ∙ h
      ∙ sym (ap (λ (l : List ℕ). old ++ unescaped_in in_string (backslash ∷ l)) e
      ∙ ap (λ (l : List ℕ). old ++ l) escape-at_end)

  pub pushed-digits : (old new after text rest : List ℕ) (b : ℕ) → after ≡ b ∷ text
      → is_newline b ≡ false → is_hex_digit b ≡ true
      → new ≡ old ++ encode_utf8 (character_of (hex_number 6 0 after)) → rest ≡ past_escape after
      → new ++ unescaped_in in_string rest ≡ old ++ unescaped_in in_string (backslash ∷ after)
  pushed-digits old new after text rest b e n x h r =
      ap (λ (l : List ℕ). l ++ unescaped_in in_string rest) h
      ∙ append_assoc old (encode_utf8 (character_of (hex_number 6 0 after)))
      (unescaped_in in_string rest)
      ∙ ap (λ (l : List ℕ).
      old ++ (encode_utf8 (character_of (hex_number 6 0 after)) ++ unescaped_in in_string l)) r
      ∙ ap (λ (l : List ℕ). old
      ++ (encode_utf8 (character_of (hex_number 6 0 l)) ++ unescaped_in in_string (past_escape l))) e
      ∙ sym (ap (λ (l : List ℕ). old ++ unescaped_in in_string (backslash ∷ l)) e
      ∙ ap (λ (l : List ℕ). old ++ l) (escape-digits b text n x))

  pub pushed-byte : (old new after text rest : List ℕ) (b : ℕ) → after ≡ b ∷ text → b < 128
      → is_newline b ≡ false → is_hex_digit b ≡ false → new ≡ old ++ encode_utf8 b
      → rest ≡ past_one after
      → new ++ unescaped_in in_string rest ≡ old ++ unescaped_in in_string (backslash ∷ after)
  pushed-byte old new after text rest b e low n x h r =
      ap (λ (l : List ℕ). l ++ unescaped_in in_string rest)
      (h ∙ ap (λ (l : List ℕ). old ++ l) (encode_ascii b low))
      ∙ append_assoc old (b ∷ []) (unescaped_in in_string rest)
      ∙ ap (λ (l : List ℕ). old ++ b ∷ unescaped_in in_string l) (r ∙ ap past_one e)
      ∙ sym (ap (λ (l : List ℕ). old ++ unescaped_in in_string (backslash ∷ l)) e
      ∙ ap (λ (l : List ℕ). old ++ l) (escape-byte b text n x))

  pub pushed-wide : (old after text : List ℕ) (b : ℕ) → after ≡ b ∷ text → 128 ≤ b
      → is_newline b ≡ false → is_hex_digit b ≡ false
      → old ++ unescaped_in in_string after ≡ old ++ unescaped_in in_string (backslash ∷ after)
  pushed-wide old after text b e wide n x =
      let other : (b == backslash) ≡ false = grind (arith, nat_tests) in
      ap (λ (l : List ℕ). old ++ unescaped_in in_string l) e
      ∙ sym (ap (λ (l : List ℕ). old ++ unescaped_in in_string (backslash ∷ l)) e
      ∙ ap (λ (l : List ℕ). old ++ l) (escape-wide b text n x other))

  -- ---- a run and what follows it

  -- up to a backslash
  pub ran : (out new run after : List ℕ) → NoBackslash run → new ≡ out ++ run
      → new ++ unescaped_in in_string (backslash ∷ after)
      ≡ out ++ unescaped_in in_string (run ++ backslash ∷ after)
  ran out new run after h e =
      ap (λ (l : List ℕ). l ++ unescaped_in in_string (backslash ∷ after)) e
      ∙ append_assoc out run (unescaped_in in_string (backslash ∷ after))
      ∙ ap (λ (l : List ℕ). out ++ l) (sym (decoded-run run (backslash ∷ after) h))

  -- a text without a backslash
  pub decoded-whole : (text : List ℕ) → NoBackslash text → unescaped_in in_string text ≡ text
  decoded-whole text h =
      ap (unescaped_in in_string) (sym (append-nil text)) ∙ decoded-run text [] h
      ∙ ap (λ (l : List ℕ). text ++ l) decoded-nil ∙ append-nil text

-- ---- a backslash before a newline

escape-newline : (b : ℕ) (text : List ℕ) → is_newline b ≡ true
    → unescaped_in false (backslash ∷ b ∷ text) ≡ backslash ∷ unescaped_in false (b ∷ text)
unfolding decoded_part
escape-newline b text e =
    let none = newline-is_none b text e in
    let found : decoded_part false (backslash ∷ b ∷ text) ≡ Some (backslash ∷ [], b ∷ text) =
    rw none refl in
    decoded-some false (backslash ∷ b ∷ text) (b ∷ text) (backslash ∷ []) found

-- it denotes itself
pub pushed-newline : (in_string : Bool) (old new after text : List ℕ) (b : ℕ) → in_string ≡ false
    → after ≡ b ∷ text → is_newline b ≡ true → new ≡ old ++ encode_utf8 backslash
    → new ++ unescaped_in in_string after ≡ old ++ unescaped_in in_string (backslash ∷ after)
pushed-newline true old new after text b f e n h = absurd (cc)
pushed-newline false old new after text b f e n h =
    ap (λ (l : List ℕ). l ++ unescaped_in false after) (h ∙ ap (λ (l : List ℕ). old ++ l)
    (encode_ascii backslash (omega arith)))
    ∙ append_assoc old (backslash ∷ []) (unescaped_in false after)
    ∙ ap (λ (l : List ℕ). old ++ backslash ∷ unescaped_in false l) e
    ∙ sym (ap (λ (l : List ℕ). old ++ unescaped_in false (backslash ∷ l)) e
    ∙ ap (λ (l : List ℕ). old ++ l) (escape-newline b text n))

-- in a string it denotes nothing, with the newline
pub pushed-joined : (in_string : Bool) (old after text rest : List ℕ) (b : ℕ) → in_string ≡ true
    → after ≡ b ∷ text → is_newline b ≡ true → rest ≡ past_escape after
    → old ++ unescaped_in in_string rest ≡ old ++ unescaped_in in_string (backslash ∷ after)
unfolding decoded_part
pushed-joined false old after text rest b f e n r = absurd (cc)
pushed-joined true old after text rest b f e n r =
    let none = newline-is_none b text n in
    let found : decoded_part true (backslash ∷ b ∷ text) ≡ Some ([], past_escape (b ∷ text)) =
    rw none refl in
    ap (λ (l : List ℕ). old ++ unescaped_in true l) (r ∙ ap past_escape e)
    ∙ sym (ap (λ (l : List ℕ). old ++ unescaped_in true (backslash ∷ l)) e
    ∙ ap (λ (l : List ℕ). old ++ l)
    (decoded-some true (backslash ∷ b ∷ text) (past_escape (b ∷ text)) [] found))
