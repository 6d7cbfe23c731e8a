-- What each reader of tokens consumes.
-- Serves the loops of `tokens`, `component_values` and `values`.
use Rattle.std.proofs.Common.{◌≡◌, ℕ, zero, suc, ◌≤◌, ◌==◌, ◌||◌, Bool, true, false, List, [], ◌∷◌, length, Option, Some, None, arith, refl, sym, ap, if◌then◌else◌, length-drop, ◌+◌, ◌*◌, ◌^◌, add-one, ◌&&◌, not, ◌<◌, ◌-◌, ◌∙◌}
use Rattle.std.proofs.Math.Nat.{pow-suc, pow-le-pow_right}
use Rattle.css_text.specs.Reading.{each}
use Rattle.css_text.specs.AsciiBytes.{newline, carriage_return, number_sign, at_sign, close_parenthesis, open_parenthesis, backslash}
use Rattle.css_text.specs.Bytes.{past, starts_by, is_hex_digit}
use Rattle.css_text.specs.Characters.{is_space}
use Rattle.css_text.specs.Comments.{opens_comment, after_comment}
use Rattle.css_text.specs.Strings.{is_quote}
use Rattle.css_text.proofs.reading.EachLemmas.{Shrinks, Takes, each-none, each-some}
use Rattle.css_text.proofs.reading.TakesLemmas.{Leaves, after_comment-leaves, length-past_byte, length-past, each-within}
use Rattle.css_syntax.specs.declared.quality.Quality.{Quality}
use Rattle.css_syntax.specs.declared.quality.Quality.TheVariants.{Whole}
use Rattle.css_syntax.specs.Tokens.{is_newline, past_newline, past_one_space, past_hex, past_escape, begins_escape, from_close, past_comment, gap_part, string_part, string_end, past_string, is_name_byte, name_part, past_word, begins_url, is_never_bare, url_part, remnant_part, url_end, past_url, begins_cdo, is_closer, other_token, token, past_letter, then_letter, then_open, after_url, is_either, escaped_char, hex_number, hex_digit}

-- the value that `each` goes on with
pub each-goes : {A : Type 0} (read : List ℕ → Option (A × List ℕ)) → Takes read
    → (text rest : List ℕ) (x : A) → read text ≡ Some (x, rest)
    → (each read rest).1 ≡ (each read text).1
each-goes read takes text rest x e = sym (ap (λ r. r.1) (each-some read takes text rest x e))

-- and stops at
pub each-rests : {A : Type 0} (read : List ℕ → Option (A × List ℕ)) (text : List ℕ)
    → read text ≡ None → (each read text).1 ≡ text
each-rests read text e = ap (λ r. r.1) (each-none read text e)

-- ---- escapes

if-le : (n : ℕ) (t : Bool) (x y : List ℕ) → length x ≤ n → length y ≤ n
    → length (if t then x else y) ≤ n
if-le n true x y a b = a
if-le n false x y a b = b

pub past_one_space-within : (text : List ℕ) → length (past_one_space text) ≤ length text
past_one_space-within [] = omega arith
past_one_space-within (b ∷ text) =
    if-le (length (b ∷ text)) (b == carriage_return) _ _
    (omega (arith, length-past_byte newline text))
    (if-le (length (b ∷ text)) (is_space b) text (b ∷ text) (omega arith) (omega arith))

pub past_hex-within : (n : ℕ) (text : List ℕ) → length (past_hex n text) ≤ length text
past_hex-within zero text = omega arith
past_hex-within (suc n) [] = omega arith
past_hex-within (suc n) (b ∷ text) =
    if-le (length (b ∷ text)) (is_hex_digit b) _ _ (omega (arith, past_hex-within n text))
    (omega arith)

pub past_escape-within : (text : List ℕ) → length (past_escape text) ≤ length text
unfolding past_escape
past_escape-within [] = omega arith
past_escape-within (b ∷ text) =
    if-le (length (b ∷ text)) (is_hex_digit b) _ _
    (omega (arith, past_one_space-within (past_hex 5 text), past_hex-within 5 text))
    (if-le (length (b ∷ text)) (is_newline b) _ _ (past_one_space-within (b ∷ text)) (omega arith))

pub past_comment-within : (b : ℕ) (text : List ℕ) → length (past_comment (b ∷ text)) ≤ length text
unfolding past_comment
past_comment-within b text = by (after_comment (b ∷ text)) (after_comment-leaves b text)
  where
    by : (o : Option (List ℕ)) → Leaves text o → length (from_close o) ≤ length text
    by None h = omega arith
    by (Some rest) h = h

-- ---- parts

if-shrinks : (text : List ℕ) (t : Bool) (x y : Option (Unit {0} × List ℕ)) → Shrinks text x
    → Shrinks text y → Shrinks text (if t then x else y)
if-shrinks text true x y a b = a
if-shrinks text false x y a b = b

pub gap_part-takes : Takes gap_part
unfolding gap_part
gap_part-takes [] = tt
gap_part-takes (b ∷ text) =
    if-shrinks (b ∷ text) (is_space b) _ _ (omega arith)
    (if-shrinks (b ∷ text) (opens_comment (b ∷ text)) _ _
    (omega (arith, past_comment-within b text)) tt)

pub string_part-takes : (quote : ℕ) → Takes (string_part quote)
unfolding string_part
string_part-takes quote [] = tt
string_part-takes quote (b ∷ text) =
    if-shrinks (b ∷ text) (b == quote || is_newline b) _ _ tt
    (if-shrinks (b ∷ text) (b == backslash) _ _ (omega (arith, past_escape-within text))
    (omega arith))

pub name_part-takes : Takes name_part
unfolding name_part
name_part-takes [] = tt
name_part-takes (b ∷ text) =
    if-shrinks (b ∷ text) (is_name_byte b) _ _ (omega arith)
    (if-shrinks (b ∷ text) (begins_escape (b ∷ text)) _ _ (omega
    (arith, past_escape-within text)) tt)

pub url_part-takes : Takes url_part
unfolding url_part
url_part-takes [] = tt
url_part-takes (b ∷ text) =
    if-shrinks (b ∷ text) (begins_escape (b ∷ text)) _ _ (omega (arith, past_escape-within text))
    (if-shrinks (b ∷ text) (b == close_parenthesis || is_space b || is_never_bare b) _ _ tt
    (omega arith))

pub remnant_part-takes : Takes remnant_part
unfolding remnant_part
remnant_part-takes [] = tt
remnant_part-takes (b ∷ text) =
    if-shrinks (b ∷ text) (begins_escape (b ∷ text)) _ _ (omega (arith, past_escape-within text))
    (if-shrinks (b ∷ text) (b == close_parenthesis) _ _ tt (omega arith))

-- ---- tokens

if-within : (n : ℕ) (t : Bool) (x y : Quality × List ℕ) → length x.1 ≤ n → length y.1 ≤ n
    → length (if t then x else y).1 ≤ n
if-within n true x y a b = a
if-within n false x y a b = b

past_newline-within : (text : List ℕ) → length (past_newline text) ≤ length text
past_newline-within [] = omega arith
past_newline-within (b ∷ text) = by (is_newline b)
  where
    by : (t : Bool) → length (if t then text else b ∷ text) ≤ length (b ∷ text)
    by true = omega arith
    by false = omega arith

past_string-within : (quote : ℕ) (text : List ℕ) → length (past_string quote text).1 ≤ length text
unfolding past_string
past_string-within quote text =
    by (each (string_part quote) text).1
    (each-within (string_part quote) (string_part-takes quote) text)
  where
    by : (rest : List ℕ) → length rest ≤ length text
        → length (string_end quote rest).1 ≤ length text
    by [] h = h
    by (b ∷ rest) h =
        if-within (length text) (b == quote) _ _ (omega arith)
        (omega (arith, h, past_newline-within (b ∷ rest)))

pub url_end-within : (text : List ℕ) → length (url_end text).1 ≤ length text
url_end-within [] = omega arith
url_end-within (b ∷ text) =
    if-within (length (b ∷ text)) (b == close_parenthesis) _ _ (omega arith)
    (omega (
      arith,
      length-past_byte close_parenthesis (each remnant_part (b ∷ text)).1,
      each-within remnant_part remnant_part-takes (b ∷ text),
    ))

pub past_url-within : (text : List ℕ) → length (past_url text).1 ≤ length text
unfolding past_url
past_url-within text =
    let bare = (each url_part (past is_space text)).1 in
    omega (
      arith,
      url_end-within (past is_space bare),
      length-past is_space bare,
      each-within url_part url_part-takes (past is_space text),
      length-past is_space text,
    )

pub word-less : (b : ℕ) (text : List ℕ) → (is_name_byte b || begins_escape (b ∷ text)) ≡ true
    → length (past_word (b ∷ text)) ≤ length text
unfolding name_part
word-less b text e = by (is_name_byte b) (begins_escape (b ∷ text)) refl refl e
  where
    by : (s t : Bool) → is_name_byte b ≡ s → begins_escape (b ∷ text) ≡ t → (s || t) ≡ true
        → length (past_word (b ∷ text)) ≤ length text
    by true t f g h =
        let part : name_part (b ∷ text) ≡ Some (tt, text) = rw f refl in
        rw (← each-goes name_part name_part-takes (b ∷ text) text tt part)
        (each-within name_part name_part-takes text)
    by false true f g h =
        let part : name_part (b ∷ text) ≡ Some (tt, past_escape text) = rw (f, g) refl in
        rw (← each-goes name_part name_part-takes (b ∷ text) (past_escape text) tt part)
        (omega (
          arith,
          each-within name_part name_part-takes (past_escape text),
          past_escape-within text,
        ))
    by false false f g h = absurd (cc)

-- ---- `url(`

-- what is left after an option is no more than the text
letter-leaves : (low up b : ℕ) (text : List ℕ) → Leaves text (past_letter low up (b ∷ text))
unfolding past_letter
letter-leaves low up b text =
    by (is_either low up b) (begins_escape (b ∷ text) && is_either low up (escaped_char text))
  where
    by : (s t : Bool) → Leaves text (if s then Some text
        else (if t then Some (past_escape text) else None))
    by true t = omega arith
    by false true = past_escape-within text
    by false false = tt

then_letter-leaves : (low up : ℕ) (text : List ℕ) (o : Option (List ℕ)) → Leaves text o
    → Leaves text (then_letter low up o)
unfolding past_letter
then_letter-leaves low up text None h = tt
then_letter-leaves low up text (Some []) h = tt
then_letter-leaves low up text (Some (b ∷ rest)) h =
    by (past_letter low up (b ∷ rest)) (letter-leaves low up b rest)
  where
    by : (o : Option (List ℕ)) → Leaves rest o → Leaves text o
    by None k = tt
    by (Some r) k = omega arith

then_open-leaves : (text : List ℕ) (o : Option (List ℕ)) → Leaves text o → Leaves text (then_open o)
then_open-leaves text None h = tt
then_open-leaves text (Some []) h = tt
then_open-leaves text (Some (b ∷ rest)) h =
    by (b == open_parenthesis && not (starts_by is_quote (past is_space rest)))
  where
    by : (t : Bool) → Leaves text (if t then Some rest else None)
    by true = omega arith
    by false = tt

pub after_url-within : (b : ℕ) (text : List ℕ)
    → length (from_close (after_url (b ∷ text))) ≤ length text
after_url-within b text =
    by (after_url (b ∷ text)) (then_open-leaves text _ (then_letter-leaves 108 76 text _
    (then_letter-leaves 114 82 text _ (letter-leaves 117 85 b text))))
  where
    by : (o : Option (List ℕ)) → Leaves text o → length (from_close o) ≤ length text
    by None h = omega arith
    by (Some rest) h = h

-- the token at the start, if it is none of the others: a word, or not
abbrev word_or : ℕ → List ℕ → Bool → Quality × List ℕ
word_or b text word =
    if word then (Whole, past_word (b ∷ text)) else other_token b text

word_or-within : (b : ℕ) (text : List ℕ) (t : Bool)
    → (is_name_byte b || begins_escape (b ∷ text)) ≡ t
    → length (word_or b text t).1 ≤ length text
word_or-within b text true e = word-less b text e
word_or-within b text false e =
    if-within (length text) (b == number_sign || b == at_sign) _ _
    (each-within name_part name_part-takes text)
    (if-within (length text) (is_closer b) _ _ (omega arith)
    (if-within (length text) (b == backslash) _ _ (past_newline-within text) (omega arith)))

pub token-takes : (b : ℕ) (text : List ℕ) → length (token (b ∷ text)).1 ≤ length text
unfolding token
token-takes b text =
    let n = length text in
    if-within n (opens_comment (b ∷ text)) _ _ (past_comment-within b text)
    (if-within n (is_quote b) _ _ (past_string-within b text)
    (if-within n (begins_url (b ∷ text)) _ _
    (omega (arith, past_url-within (from_close (after_url (b ∷ text))), after_url-within b text))
    (if-within n (begins_cdo (b ∷ text)) _ _ (omega (arith, length-drop 3 text))
    (word_or-within b text (is_name_byte b || begins_escape (b ∷ text)) refl))))

pub past_word_within : (text : List ℕ) → length (past_word text) ≤ length text
past_word_within text = each-within name_part name_part-takes text

-- a further hexadecimal digit
pub hex_digits : (so_far digit k : ℕ) → digit < 16 → so_far < 16 ^ k
    → 16 * so_far + digit < 16 ^ (k + 1)
hex_digits so_far digit k d h = rw (add-one, pow-suc 16 k) (omega arith)

pub hex_fits : (so_far k : ℕ) → k < 6 → so_far < 16 ^ k → so_far < 16 ^ 5
hex_fits so_far k l h =
    omega (arith, pow-le-pow_right {n = 16} (omega arith) {i = k} {j = 5} (omega arith))

pub hex-step : (left so_far b : ℕ) (rest after : List ℕ) → 0 < left → rest ≡ b ∷ after
    → is_hex_digit b ≡ true
    → hex_number left so_far rest ≡ hex_number (left - 1) (16 * so_far + hex_digit b) after
hex-step zero so_far b rest after h e d = absurd (omega arith)
hex-step (suc n) so_far b rest after h e d =
    let less : n ≡ suc n - 1 = omega arith in
    ap (hex_number (suc n) so_far) e
    ∙ rw d (ap (λ (k : ℕ). hex_number k (16 * so_far + hex_digit b) after) less)
