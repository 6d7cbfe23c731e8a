-- The tokens of a text, one at a time: each leaves an end of what follows its first byte.
-- Serves `next` of the iterator, its constructor, and `laws::tokens_are_the_text`.
use Rattle.std.proofs.Common.{◌≡◌, ◌≤◌, ◌<◌, ◌+◌, ◌-◌, ℕ, zero, suc, Bool, true, false, not, ◌||◌, ◌&&◌, ◌==◌, List, [], ◌∷◌, ◌++◌, length, drop, take, Option, Some, None, refl, sym, ap, ◌∙◌, subst, arith, if◌then◌else◌, inl, inr}
use Rattle.std.proofs.lemmas.Bool.Decides.{nat_tests}
use Rattle.std.proofs.iter.runs.Sources.{from_front}
use Rattle.css_text.specs.AsciiBytes.{hyphen, full_stop, number_sign, at_sign, open_parenthesis}
use Rattle.css_text.specs.Reading.{Ends, before, each}
use Rattle.css_text.specs.Bytes.{past, past_byte, past_one, starts, starts_by, is_digit}
use Rattle.css_text.specs.Characters.{is_space}
use Rattle.css_text.specs.Comments.{opens_comment}
use Rattle.css_text.specs.Strings.{is_quote}
use Rattle.css_text.proofs.bytes.RunLemmas.{past-yes, past-no}
use Rattle.css_text.proofs.reading.EachLemmas.{Shrinks, Takes, each-none, each-some, option_cases}
use Rattle.css_text.proofs.reading.EndsLemmas.{ends-same, ends-nil, ends-drop, ends-ends, ends-tail, ends-cons, ends-past, ends-past_one, ends-past_byte, length-ends}
use Rattle.css_text.proofs.reading.LengthLemmas.{length-each}
use Rattle.css_syntax.specs.Statements.{begins_cdc, begins_name_byte, begins_plain_ident, starts_ident}
use Rattle.css_syntax.specs.Tokens.{after_url, begins_cdo, begins_escape, begins_url, from_close, is_name_byte, past_comment, past_string_parts, past_url, past_word, url_part}
use Rattle.css_syntax.specs.TokenLists.{PlacedToken, is_sign, past_sign, begins_unsigned, begins_number, past_fraction, is_exponent_mark, past_exponent, past_number, plain, led, after_number, string_from, url_from, name_from, hash_kind, begins_name_part, marked_from, worded_from, token_from, next_token, tokens, with_rest}
use Rattle.css_syntax.specs.declared.tokenizer.TokenKind.TheVariants as kinds
use Rattle.css_syntax.specs.TokenViews.{token_of, GivesToken, GivesTokensInTurn, tokens_to_come, text_of, AreTokensOf}
use Rattle.css_syntax.specs.TokenViews.AreTokensOf.{no_token, token_then}
use Rattle.css_syntax.proofs.PartTexts.{word_ends}
use Rattle.css_syntax.proofs.Shorter.{after_url-within, past_comment-within, past_url-within, word-less}
use Rattle.css_syntax.proofs.Utf8Ends.{after_url-ends, comment-well, string_parts_ends, url-well}

-- an end of a text that is shorter than it is an end of what follows its first byte
ends-shorter : (b : ℕ) (text rest : List ℕ) → Ends (b ∷ text) rest → length rest ≤ length text
    → Ends text rest
ends-shorter b text rest e h =
    let more : length (b ∷ text) - length rest ≡ suc (length text - length rest) = omega (arith, h) in
    ap past_one (ap (λ (n : ℕ). take n (b ∷ text) ++ rest) (sym more) ∙ e)

-- ---- numbers

if-ends : (text : List ℕ) (t : Bool) (x y : List ℕ) → Ends text x → Ends text y
    → Ends text (if t then x else y)
if-ends text true x y a b = a
if-ends text false x y a b = b

sign-ends : (text : List ℕ) → Ends text (past_sign text)
sign-ends text = if-ends text (starts_by is_sign text) _ _ (ends-past_one text) (ends-same text)

-- digits after a byte
digits_after-ends : (text : List ℕ) → Ends text (past is_digit (past_one text))
digits_after-ends text =
    ends-ends text (past_one text) _ (ends-past_one text) (ends-past is_digit (past_one text))

fraction-ends : (text : List ℕ) → Ends text (past_fraction text)
fraction-ends text =
    if-ends text (starts full_stop text && starts_by is_digit (past_one text)) _ _
    (digits_after-ends text) (ends-same text)

exponent-ends : (text : List ℕ) → Ends text (past_exponent text)
exponent-ends text =
    let signed = past_sign (past_one text) in
    if-ends text (starts_by is_exponent_mark text && starts_by is_digit signed) _ _
    (ends-ends text signed _
    (ends-ends text (past_one text) signed (ends-past_one text) (sign-ends (past_one text)))
    (ends-past is_digit signed)) (ends-same text)

-- what is left of a number after its digits
digits-then : (text digits : List ℕ) → Ends text digits
    → Ends text (past_exponent (past_fraction digits))
digits-then text digits e =
    ends-ends text (past_fraction digits) _
    (ends-ends text digits _ e (fraction-ends digits)) (exponent-ends (past_fraction digits))

-- a number that begins with a digit or a full stop
unsigned-ends : (b : ℕ) (text : List ℕ) → begins_unsigned (b ∷ text) ≡ true
    → Ends text (past_exponent (past_fraction (past is_digit (b ∷ text))))
unsigned-ends b text h =
    by (is_digit b) (b == full_stop) (starts_by is_digit text) refl refl refl h
  where
    by : (d s m : Bool) → is_digit b ≡ d → (b == full_stop) ≡ s → starts_by is_digit text ≡ m
        → (d || s && m) ≡ true
        → Ends text (past_exponent (past_fraction (past is_digit (b ∷ text))))
    by true s m e f g k =
        rw (past-yes is_digit b text e)
        (digits-then text (past is_digit text) (ends-past is_digit text))
    by false true true e f g k =
        rw (past-no is_digit b text e, f, g) (ends-ends text (past is_digit text) _
        (ends-past is_digit text) (exponent-ends (past is_digit text)))
    by false true false e f g k = absurd (cc)
    by false false m e f g k = absurd (cc)

number-ends : (b : ℕ) (text : List ℕ) → begins_number (b ∷ text) ≡ true
    → Ends text (past_number (b ∷ text))
number-ends b text h = by (is_sign b) refl
  where
    by : (t : Bool) → is_sign b ≡ t → Ends text (past_number (b ∷ text))
    by true e = rw e (digits-then text (past is_digit text) (ends-past is_digit text))
    by false e = rw e (unsigned-ends b text (rw e at h))

-- ---- names

-- what begins a name consumes its first byte
ident-ends : (b : ℕ) (text : List ℕ) → starts_ident (b ∷ text) ≡ true
    → Ends text (past_word (b ∷ text))
ident-ends b text h =
    ends-shorter b text (past_word (b ∷ text)) (word_ends (b ∷ text))
    (word-less b text (ident_part b text h))
  where
    ident_part : (b : ℕ) (text : List ℕ) → starts_ident (b ∷ text) ≡ true
        → (is_name_byte b || begins_escape (b ∷ text)) ≡ true
    ident_part b text h = by (b == hyphen) refl
      where
        by : (t : Bool) → (b == hyphen) ≡ t → (is_name_byte b || begins_escape (b ∷ text)) ≡ true
        by true e = grind (arith, nat_tests, e)
        by false e = grind (arith, nat_tests, e, h)

-- ---- tokens

-- of two tokens
either-ends : (text : List ℕ) (t : Bool) (x y : PlacedToken) → Ends text x.rest → Ends text y.rest
    → Ends text (if t then x else y).rest
either-ends text true x y a b = a
either-ends text false x y a b = b

after_number-ends : (text from rest : List ℕ) → Ends text rest
    → Ends text (after_number from rest).rest
after_number-ends text from rest e =
    either-ends text (starts_ident rest) _ _ (ends-ends text rest _ e (word_ends rest))
    (either-ends text (starts 37 rest) _ _ (ends-ends text rest _ e (ends-past_one rest)) e)

name_from-ends : (text from rest : List ℕ) → Ends text rest → Ends text (name_from from rest).rest
name_from-ends text from rest e =
    either-ends text (starts open_parenthesis rest) _ _
    (ends-ends text rest _ e (ends-past_byte open_parenthesis rest)) e

string_from-ends : (quote : ℕ) (text from inside rest : List ℕ) → Ends text rest
    → Ends text (string_from quote from inside rest).rest
string_from-ends quote text from inside [] e = ends-nil text
string_from-ends quote text from inside (b ∷ rest) e =
    either-ends text (b == quote) _ _ (ends-ends text (b ∷ rest) rest e (ends-tail b rest)) e

url_from-ends : (b : ℕ) (text : List ℕ)
    → Ends text (url_from (b ∷ text) (from_close (after_url (b ∷ text)))).rest
url_from-ends b text =
    let inside = from_close (after_url (b ∷ text)) in
    ends-shorter b text (past_url inside).1
    (url-well (b ∷ text) inside (after_url-ends (b ∷ text))).0
    (omega (arith, past_url-within inside, after_url-within b text))

marked_from-ends : (b : ℕ) (from text : List ℕ) → Ends text (marked_from b from text).rest
marked_from-ends b from text =
    either-ends text (b == number_sign && begins_name_part text) _ _ (word_ends text)
    (either-ends text (b == at_sign && starts_ident text) _ _ (word_ends text) (ends-same text))

worded_from-ends : (b : ℕ) (text : List ℕ) → Ends text (worded_from b text).rest
worded_from-ends b text = by (begins_number (b ∷ text)) (starts_ident (b ∷ text)) refl refl
  where
    by : (n i : Bool) → begins_number (b ∷ text) ≡ n → starts_ident (b ∷ text) ≡ i
        → Ends text (worded_from b text).rest
    by true i e f =
        rw e (after_number-ends text (b ∷ text) (past_number (b ∷ text)) (number-ends b text e))
    by false true e f =
        rw (e, f) (either-ends text (begins_cdc (b ∷ text)) _ _ (ends-drop 2 text)
        (either-ends text (begins_cdo (b ∷ text)) _ _ (ends-drop 3 text)
        (either-ends text (begins_url (b ∷ text)) _ _ (url_from-ends b text)
        (name_from-ends text (b ∷ text) (past_word (b ∷ text)) (ident-ends b text f)))))
    by false false e f =
        rw (e, f) (either-ends text (begins_cdc (b ∷ text)) _ _ (ends-drop 2 text)
        (either-ends text (begins_cdo (b ∷ text)) _ _ (ends-drop 3 text)
        (either-ends text (begins_url (b ∷ text)) _ _ (url_from-ends b text)
        (marked_from-ends b (b ∷ text) text))))

pub token_from-ends : (b : ℕ) (text : List ℕ) → Ends text (token_from b text).rest
unfolding token_from
token_from-ends b text =
    either-ends text (opens_comment (b ∷ text)) _ _
    (ends-shorter b text (past_comment (b ∷ text)) (comment-well (b ∷ text)).0
    (past_comment-within b text))
    (space (is_space b) refl)
  where
    other : Ends text (if is_quote b
        then string_from b (b ∷ text) text (past_string_parts b text)
        else worded_from b text).rest
    other =
        either-ends text (is_quote b) _ _
        (string_from-ends b text (b ∷ text) text (past_string_parts b text) (string_parts_ends b text))
        (worded_from-ends b text)

    space : (t : Bool) → is_space b ≡ t → Ends text (if t
        then plain kinds.Whitespace (b ∷ text) (past is_space (b ∷ text))
        else (if is_quote b
        then string_from b (b ∷ text) text (past_string_parts b text)
        else worded_from b text)).rest
    space true e = subst (Ends text) (sym (past-yes is_space b text e)) (ends-past is_space text)
    space false e = other

pub next_token-takes : Takes next_token
unfolding next_token
next_token-takes [] = tt
next_token-takes (b ∷ text) =
    omega (arith, length-ends text (token_from b text).rest (token_from-ends b text))

-- ---- the iterator

pub tokens-some : (text rest : List ℕ) (t : PlacedToken) → next_token text ≡ Some (t, rest)
    → tokens text ≡ t ∷ tokens rest
unfolding tokens
tokens-some text rest t e =
    ap (λ r. r.0) (each-some next_token next_token-takes text rest t e)

pub tokens-none : (text : List ℕ) → next_token text ≡ None → tokens text ≡ []
unfolding tokens
tokens-none text e = ap (λ r. r.0) (each-none next_token text e)

pub tokens-few : (text : List ℕ) → length (tokens text) ≤ length text
unfolding tokens each
tokens-few text = length-each next_token text

pub tokens-in_turn : GivesTokensInTurn
tokens-in_turn =
    from_front GivesToken token_of tokens_to_come (λ s t g. ap length g.items.0) (λ s x t g. g.items)

-- ---- the law

no_token-next : next_token [] ≡ None
unfolding next_token
no_token-next = refl

token_from-next : (b : ℕ) (text : List ℕ)
    → next_token (b ∷ text) ≡ Some (token_from b text, (token_from b text).rest)
unfolding next_token
token_from-next b text = refl

either-begins : (all : List ℕ) (t : Bool) (x y : PlacedToken) → x.from ≡ all → y.from ≡ all
    → (if t then x else y).from ≡ all
either-begins all true x y a b = a
either-begins all false x y a b = b

string-begins : (quote : ℕ) (from inside rest : List ℕ)
    → (string_from quote from inside rest).from ≡ from
string-begins quote from inside [] = refl
string-begins quote from inside (c ∷ rest) = either-begins from (c == quote) _ _ refl refl

-- a token begins where it is read
token_from-begins : (b : ℕ) (text : List ℕ) → (token_from b text).from ≡ b ∷ text
unfolding token_from
token_from-begins b text =
    let all = b ∷ text in
    either-begins all (opens_comment all) _ _ refl
    (either-begins all (is_space b) _ _ refl
    (either-begins all (is_quote b) _ _ (string-begins b all text (past_string_parts b text))
    (either-begins all (begins_number all) _ _
    (either-begins all (starts_ident (past_number all)) _ _ refl
    (either-begins all (starts 37 (past_number all)) _ _ refl refl))
    (either-begins all (begins_cdc all) _ _ refl
    (either-begins all (begins_cdo all) _ _ refl
    (either-begins all (begins_url all) _ _ refl
    (either-begins all (starts_ident all) _ _
    (either-begins all (starts open_parenthesis (past_word all)) _ _ refl refl)
    (either-begins all (b == number_sign && begins_name_part text) _ _ refl
    (either-begins all (b == at_sign && starts_ident text) _ _ refl refl)))))))))

pub tokens-are : (n : ℕ) (text : List ℕ) → length text ≤ n → AreTokensOf text (tokens text)
tokens-are n [] h = subst (AreTokensOf []) (sym (tokens-none [] no_token-next)) no_token
tokens-are zero (b ∷ text) h = absurd (omega (arith, h))
tokens-are (suc n) (b ∷ text) h =
    let t = token_from b text in
    let ends = token_from-ends b text in
    let first = token_from-begins b text in
    subst (AreTokensOf (b ∷ text))
    (sym (tokens-some (b ∷ text) t.rest t (token_from-next b text)))
    (subst (λ (from : List ℕ). AreTokensOf from (t ∷ tokens t.rest)) first
    (token_then t (tokens t.rest)
    (subst (λ (from : List ℕ). Ends from t.rest) (sym first) (ends-cons b text t.rest ends))
    (tokens-are n t.rest (omega (arith, h, length-ends text t.rest ends)))))
