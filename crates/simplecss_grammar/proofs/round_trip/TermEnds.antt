-- A term neither begins nor ends with white space of ASCII.
-- Serves `selectors` and `prints_back` of `StyleSheet::{parse, parse_more, read}` (a sheet
-- printed and read again).
use Rattle.std.proofs.Common.{◌≡◌, ℕ, suc, ◌<◌, ◌≤◌, ◌⊎◌, inl, inr, List, [], ◌∷◌, ◌++◌, Bool, true, false, if◌then◌else◌, ◌||◌, ◌&&◌, not, ◌==◌, nat_lt, length, get_or, Option, Some, None, arith, refl, sym, ap, ◌∙◌, subst, length-append, append_assoc, append-nil, encode_utf8, encode_utf8_all, IsUtf8, eqb-true}
use Rattle.std.specs.List.{list_all}
use Rattle.std.proofs.lemmas.Str.{inside_one, encode_ascii, length-encode, len_utf8_bounds}
use Rattle.std.proofs.lemmas.Bool.{cases_lt, and_parts}
use Rattle.std.proofs.lemmas.Bool.Decides.{nat_tests}
use Rattle.std.proofs.lemmas.List.Folds.{list_all-append}
use Rattle.css_text.specs.AsciiBytes.{asterisk, close_parenthesis, comma, full_stop, hyphen, number_sign, open_parenthesis, percent_sign, slash, space}
use Rattle.css_text.specs.Reading.{Fault, ended, Reading, got, fails, follow, left_after}
use Rattle.css_text.specs.Bytes.{past, past_byte, starts, is_digit, after_byte, closed_or, is_hex_digit}
use Rattle.css_text.specs.Characters.{Edition, first_edition, second_edition, is_name_char}
use Rattle.css_text.specs.Names.{name}
use Rattle.css_text.specs.Strings.{is_quote, from_quote, string_up_to}
use Rattle.simplecss_grammar.specs.Terms.{past_hash, past_decimals, past_unit, past_number, arguments, word, quoted, is_slash_term, begins_number, term}
use Rattle.simplecss_grammar.proofs.reading.DeclarationsLawful.{digit_low, number_low, past_decimals-lawful, term-cuts}
use Rattle.simplecss_grammar.proofs.reading.PrintedNames.{begins_any_name}
use Rattle.css_text.proofs.reading.TakesLemmas.{Cuts}
use Rattle.simplecss_grammar.proofs.reading.ReadStrings.{IfCloses, from_quote-closes}
use Rattle.simplecss_grammar.proofs.reading.ReadNames.{ReadName, name-is, name-fails}
use Rattle.css_text.proofs.reading.GotLemmas.{IfGot, if_got, if_got-if, if_got-follow, if_got-weaker, got-holds, IfAfter, after_byte-after}
use Rattle.css_text.proofs.bytes.Utf8Lemmas.{utf8-past_byte, utf8-past}
use Rattle.css_text.proofs.bytes.RunLemmas.{past-yes, past-no}

-- a byte that is no white space of ASCII
abbrev pub is_bare : ℕ → Bool
is_bare b = not ((nat_lt 8 b && nat_lt b 14) || b == space)

-- Nothing was consumed, or what was consumed ends with such a byte.
data EndsBare (text rest : List ℕ) : Type 0 where
  nothing : text ≡ rest → EndsBare text rest
  some : (passed : List ℕ) (b : ℕ) → text ≡ passed ++ (b ∷ rest) → is_bare b ≡ true
      → EndsBare text rest

bare-cons : (b : ℕ) (text rest : List ℕ) → is_bare b ≡ true → EndsBare text rest
    → EndsBare (b ∷ text) rest
bare-cons b text rest e (nothing same) = some [] b (ap (λ l. b ∷ l) same) e
bare-cons b text rest e (some passed c is bare) = some (b ∷ passed) c (ap (λ l. b ∷ l) is) bare

bare-then : (text middle rest : List ℕ) → EndsBare text middle → EndsBare middle rest
    → EndsBare text rest
bare-then text middle rest w (nothing same) = subst (λ (t : List ℕ). EndsBare text t) same w
bare-then text middle rest (nothing same) (some passed b is bare) = some passed b (same ∙ is) bare
bare-then text middle rest (some front c there ok) (some passed b is bare) =
    some ((front ++ (c ∷ [])) ++ passed) b (there ∙ ap (λ l. front ++ (c ∷ l)) is
    ∙ sym (append_assoc front (c ∷ []) (passed ++ (b ∷ rest)))
    ∙ sym (append_assoc (front ++ (c ∷ [])) passed (b ∷ rest))) bare

bare-all : (front rest : List ℕ) → list_all is_bare front ≡ true → EndsBare (front ++ rest) rest
bare-all [] rest h = nothing refl
bare-all (b ∷ front) rest h =
    let parts = and_parts (is_bare b) (list_all is_bare front) h in bare-cons b (front ++ rest) rest
    parts.0 (bare-all front rest parts.1)

bare-past : (test : ℕ → Bool) (text : List ℕ) → ((b : ℕ) → test b ≡ true → is_bare b ≡ true)
    → EndsBare text (past test text)
bare-past test [] bare = nothing refl
bare-past test (b ∷ text) bare = by (test b) refl (bare-past test text bare)
  where
    by : (t : Bool) → test b ≡ t → EndsBare text (past test text)
        → EndsBare (b ∷ text) (past test (b ∷ text))
    by true e more = rw (past-yes test b text e) (bare-cons b text (past test text) (bare b e) more)
    by false e more = nothing (sym (past-no test b text e))

bare-past_byte : (c : ℕ) (text : List ℕ) → is_bare c ≡ true → EndsBare text (past_byte c text)
bare-past_byte c [] e = nothing refl
bare-past_byte c (b ∷ text) e = by (b == c) refl
  where
    by : (t : Bool) → (b == c) ≡ t → EndsBare (b ∷ text) (if t then text else b ∷ text)
    by true h = bare-cons b text text (ap is_bare (eqb-true b c h) ∙ e) (nothing refl)
    by false h = nothing refl

-- the bytes of a name

high_bare : (b : ℕ) → 128 ≤ b → is_bare b ≡ true
high_bare b h = grind (arith, nat_tests)

char_bare : (edition : Edition) (b : ℕ) → is_name_char edition b ≡ true → b < 128 → is_bare b ≡ true
char_bare first_edition b e h = grind (arith, nat_tests)
char_bare second_edition b e h = grind (arith, nat_tests)

all_high : (bytes : List ℕ) → ((k : ℕ) → k < length bytes → 128 ≤ get_or bytes k 0)
    → list_all is_bare bytes ≡ true
all_high [] h = refl
all_high (b ∷ bytes) h =
    let first = high_bare b (h 0 (omega arith)) in
    let others = all_high bytes (λ k less. h (suc k) (omega arith)) in
    rw (first, others) refl

-- terms

digit_bare : (b : ℕ) → is_digit b ≡ true → is_bare b ≡ true
digit_bare b e = grind (arith, nat_tests)

hex_bare : (b : ℕ) → is_hex_digit b ≡ true → is_bare b ≡ true
hex_bare b e = grind (arith, nat_tests)

number_bare : (b : ℕ) → begins_number b ≡ true → is_bare b ≡ true
number_bare b e = grind (arith, nat_tests)

quote_bare : (b : ℕ) → is_quote b ≡ true → is_bare b ≡ true
quote_bare b e = grind (arith, nat_tests)

bare-decimals : (text : List ℕ) → EndsBare text (past_decimals text)
bare-decimals [] = nothing refl
bare-decimals (b ∷ text) = by (b == full_stop) refl
  where
    by : (t : Bool) → (b == full_stop) ≡ t
        → EndsBare (b ∷ text) (if t then past is_digit text else b ∷ text)
    by true e =
        bare-cons b text (past is_digit text) (ap is_bare (eqb-true b full_stop e))
        (bare-past is_digit text digit_bare)
    by false e = nothing refl

bare-closed : (c : ℕ) (text : List ℕ) (fault : Fault) (o : Option (List ℕ)) → is_bare c ≡ true
    → IfAfter c text o → IfGot (λ x rest. EndsBare text rest) (closed_or fault o)
bare-closed c text fault None e h = tt
bare-closed c text fault (Some rest) e h = some h.0 c h.1 e

bare-arguments : (text : List ℕ) → IfGot (λ x rest. EndsBare text rest) (arguments text)
bare-arguments text =
    if_got-if (λ x rest. EndsBare text rest) (starts open_parenthesis text) _ _
    (λ e. bare-closed close_parenthesis text ended (after_byte close_parenthesis text) refl
    (after_byte-after close_parenthesis text))
    (λ e. nothing refl)

bare-quoted : (quote : ℕ) (text : List ℕ) → is_bare quote ≡ true
    → IfGot (λ x rest. EndsBare text rest) (quoted quote text)
bare-quoted quote text e = by (from_quote quote quote text) (from_quote-closes quote quote text)
  where
    by : (o : Option (List ℕ)) → IfCloses quote quote text o
        → IfGot (λ x rest. EndsBare text rest)
        (follow (string_up_to text o) (λ inside. got (tt {0})))
    by None c = tt
    by (Some closing) c = rw c.closing_is (some c.front quote c.is e)

single_bare : (edition : Edition) (b : ℕ) (text : List ℕ)
    → (b == comma || is_slash_term edition b text) ≡ true → is_bare b ≡ true
single_bare first_edition b text e = grind (arith, nat_tests)
single_bare second_edition b text e = by (b == comma) (b == slash) refl refl e
  where
    by : (x y : Bool) → (b == comma) ≡ x → (b == slash) ≡ y
        → (x || (y && not (starts asterisk text))) ≡ true
        → is_bare b ≡ true
    by true y h k e = ap is_bare (eqb-true b comma h)
    by false true h k e = ap is_bare (eqb-true b slash k)
    by false false h k e = absurd (cc)

-- the byte that begins one

-- the text begins with a byte that is no white space of ASCII
abbrev pub FirstBare : List ℕ → Type 0
FirstBare [] = ⊥
FirstBare (b ∷ text) = is_bare b ≡ true

module _ (edition : Edition) where
  encoded_bare : (c : ℕ) → is_name_char edition c ≡ true → list_all is_bare (encode_utf8 c) ≡ true
  encoded_bare c e = by (cases_lt c 128)
    where
      high : 128 ≤ c → (k : ℕ) → k < length (encode_utf8 c)
          → (get_or (encode_utf8 c) k 0 < 128) ⊎ (128 ≤ get_or (encode_utf8 c) k 0)
          → 128 ≤ get_or (encode_utf8 c) k 0
      high h k less (inr ok) = ok
      high h k less (inl low) =
          absurd (omega
          (arith, inside_one c [] (encode_utf8 c) k (sym (append-nil (encode_utf8 c))) less low))

      by : (c < 128) ⊎ (128 ≤ c) → list_all is_bare (encode_utf8 c) ≡ true
      by (inl low) =
          let one = char_bare edition c e low in ap (list_all is_bare) (encode_ascii c low)
          ∙ rw one refl
      by (inr h) =
          all_high (encode_utf8 c)
          (λ k less. high h k less (cases_lt (get_or (encode_utf8 c) k 0) 128))

  letters_bare : (letters : List ℕ) → list_all (is_name_char edition) letters ≡ true
      → list_all is_bare (encode_utf8_all letters) ≡ true
  letters_bare [] h = refl
  letters_bare (c ∷ letters) h =
      let parts = and_parts (is_name_char edition c) (list_all (is_name_char edition) letters) h in
      let first = encoded_bare c parts.0 in
      let others = letters_bare letters parts.1 in
      list_all-append is_bare (encode_utf8 c) (encode_utf8_all letters) ∙ rw (first, others) refl

  -- no byte of a name is white space of ASCII
  name-bare : (text n rest : List ℕ) → ReadName edition text n rest → list_all is_bare n ≡ true
  name-bare text n rest w =
      elim (w.is) [
        | inl i ↦ ap (list_all is_bare) (sym i.spell) ∙ letters_bare i.letters i.pass
        | inr h ↦ ap (list_all is_bare) h.0
      ]

  bare-name : (text : List ℕ) → IsUtf8 text → (r : Reading (List ℕ)) → name edition text ≡ r
      → EndsBare text (left_after r)
  bare-name text u (got n rest) e =
      let read = name-is edition text n rest u e in
      subst (λ (t : List ℕ). EndsBare t rest) (sym read.joined)
      (bare-all n rest (name-bare text n rest read))
  bare-name text u (fails fault rest) e =
      subst (EndsBare text) (sym (name-fails edition text rest fault e).1)
      (bare-past_byte hyphen text refl)

  bare-unit : (text : List ℕ) → IsUtf8 text → EndsBare text (past_unit edition text)
  bare-unit [] u = bare-name [] u (name edition []) refl
  bare-unit (b ∷ text) u = by (b == percent_sign) refl
    where
      by : (t : Bool) → (b == percent_sign) ≡ t
          → EndsBare (b ∷ text) (if t then text else left_after (name edition (b ∷ text)))
      by true e = bare-cons b text text (ap is_bare (eqb-true b percent_sign e)) (nothing refl)
      by false e = bare-name (b ∷ text) u (name edition (b ∷ text)) refl

  bare-number : (text : List ℕ) → IsUtf8 text → EndsBare text (past_number edition text)
  unfolding past_number
  bare-number text u =
      let digits = past is_digit text in
      let v = utf8-past is_digit text digit_low u in
      bare-then text digits (past_number edition text) (bare-past is_digit text digit_bare)
      (bare-then digits (past_decimals digits) (past_number edition text) (bare-decimals digits)
      (bare-unit (past_decimals digits)
      (((past_decimals-lawful true digits digits).left edition).1 v)))

  bare-hash : (text : List ℕ) → IsUtf8 text → (r : Reading (List ℕ)) → name edition text ≡ r
      → EndsBare text (past_hash r)
  bare-hash text u (got n rest) e = bare-name text u (got n rest) e
  bare-hash text u (fails fault rest) e =
      bare-then text rest (past is_hex_digit rest) (bare-name text u (fails fault rest) e)
      (bare-past is_hex_digit rest hex_bare)

  bare-word : (text : List ℕ) → IsUtf8 text
      → IfGot (λ x rest. EndsBare text rest) (word edition text)
  unfolding word
  bare-word text u =
      if_got-follow (λ n rest. EndsBare text rest) (λ x rest. EndsBare text rest) _ _
      (if_got (λ n rest. EndsBare text rest) (name edition text)
      (λ n rest e. bare-name text u (got n rest) e))
      (λ n rest h. if_got-weaker (λ x last. EndsBare rest last) (λ x last. EndsBare text last)
      _ (λ x last k. bare-then text rest last h k) (bare-arguments rest))

  bare-term : (text : List ℕ) → IsUtf8 text
      → IfGot (λ x rest. EndsBare text rest) (term edition text)
  unfolding term
  bare-term [] u = tt
  bare-term (b ∷ text) u =
      let P : Unit {0} → List ℕ → Type 0 = λ x rest. EndsBare (b ∷ text) rest in
      if_got-if P (b == number_sign) _ _
      (λ e. bare-cons b text _ (ap is_bare (eqb-true b number_sign e)) (bare-hash text
      (utf8-past_byte b text (let hash = eqb-true b number_sign e in omega arith) u)
      (name edition text)
      refl))
      (λ e0. if_got-if P (begins_number b) _ _
      (λ e. bare-cons b text _ (number_bare b e)
      (bare-number text (utf8-past_byte b text (number_low b e) u)))
      (λ e1. if_got-if P (is_quote b) _ _
      (λ e. if_got-weaker (λ x rest. EndsBare text rest) P _
      (λ x rest h. bare-cons b text rest (quote_bare b e) h) (bare-quoted b text (quote_bare b e)))
      (λ e2. if_got-if P (b == comma || is_slash_term edition b text) _ _
      (λ e. bare-cons b text text (single_bare edition b text e) (nothing refl))
      (λ e3. bare-word (b ∷ text) u))))

  -- the byte that ends a term
  pub term-ends_bare : (text rest : List ℕ) (x : Unit {0}) → IsUtf8 text
      → term edition text ≡ got x rest → (passed : List ℕ) × (b : ℕ) × (text ≡ passed ++ (b ∷ rest))
      × (is_bare b ≡ true)
  term-ends_bare text rest x u e =
      by (got-holds (λ x rest. EndsBare text rest) _ _ _ (bare-term text u) e)
    where
      by : EndsBare text rest → (passed : List ℕ) × (b : ℕ) × (text ≡ passed ++ (b ∷ rest))
          × (is_bare b ≡ true)
      by (nothing same) =
          absurd (let cuts = subst (λ (y : Reading (Unit {0})). Cuts text y) e
          (term-cuts edition text) in omega (arith, cuts, ap length same))
      by (some passed b is bare) = (passed, b, is, bare)

  some_name : (text n rest : List ℕ) → ReadName edition text n rest → n ≡ [] → ⊥
  some_name text n rest w e =
      elim (w.is) [
        | inl i ↦ no_letters i.letters (i.spell ∙ e) i.begins
        | inr h ↦ (let both = sym h.0
            ∙ e in cc)
      ]
    where
      no_letters : (letters : List ℕ) → encode_utf8_all letters ≡ []
          → begins_any_name edition letters ≡ true → ⊥
      no_letters [] e h = cc
      no_letters (c ∷ letters) e h =
          omega (
            arith,
            ap length e,
            length-append (encode_utf8 c) (encode_utf8_all letters),
            length-encode c,
            len_utf8_bounds c,
          )

  name-begins_bare : (text n rest : List ℕ) → ReadName edition text n rest → FirstBare text
  name-begins_bare text n rest w =
      subst FirstBare (sym w.joined) (by n (some_name text n rest w) (name-bare text n rest w))
    where
      by : (n : List ℕ) → (n ≡ [] → ⊥) → list_all is_bare n ≡ true → FirstBare (n ++ rest)
      by [] some_there h = absurd (some_there refl)
      by (b ∷ n) some_there h = (and_parts (is_bare b) (list_all is_bare n) h).0

  word-begins_bare : (text : List ℕ) → IsUtf8 text
      → IfGot (λ x rest. FirstBare text) (word edition text)
  unfolding word
  word-begins_bare text u =
      if_got-follow (λ n rest. FirstBare text) (λ x rest. FirstBare text) _ _
      (if_got (λ n rest. FirstBare text) (name edition text)
      (λ n rest e. name-begins_bare text n rest (name-is edition text n rest u e)))
      (λ n rest h. if_got (λ x last. FirstBare text) (arguments rest) (λ x last e. h))

  -- the text that a term was read from begins with such a byte
  pub term-begins_bare : (text : List ℕ) → IsUtf8 text
      → IfGot (λ x rest. FirstBare text) (term edition text)
  unfolding term
  term-begins_bare [] u = tt
  term-begins_bare (b ∷ text) u =
      let P : Unit {0} → List ℕ → Type 0 = λ x rest. is_bare b ≡ true in
      if_got-if P (b == number_sign) _ _ (λ e. ap is_bare (eqb-true b number_sign e))
      (λ e0. if_got-if P (begins_number b) _ _ (λ e. number_bare b e)
      (λ e1. if_got-if P (is_quote b) _ _
      (λ e. if_got P (quoted b text) (λ x rest f. quote_bare b e))
      (λ e2. if_got-if P (b == comma || is_slash_term edition b text) _ _
      (λ e. single_bare edition b text e)
      (λ e3. word-begins_bare (b ∷ text) u))))
