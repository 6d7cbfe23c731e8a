-- The tokens of a text (CSS Syntax 3, section 4.3), each with its kind and its place. They end where
-- the readers of `Tokens` end, which read a number with its unit, a name and its parenthesis as what
-- follows one another.
use Rattle.std.specs.Prelude.{ℕ, Bool, true, false, ◌||◌, ◌&&◌, ◌==◌, if◌then◌else◌, List, [], ◌∷◌, drop, Option, Some, None}
use Rattle.css_text.specs.AsciiBytes.{number_sign, hyphen, plus_sign, full_stop, at_sign, open_parenthesis}
use Rattle.css_text.specs.Reading.{each}
use Rattle.css_text.specs.Bytes.{past, past_byte, past_one, starts, starts_by, is_digit}
use Rattle.css_text.specs.Characters.{is_space}
use Rattle.css_text.specs.Comments.{opens_comment}
use Rattle.css_text.specs.Strings.{is_quote}
use Rattle.css_syntax.specs.declared.quality.Quality.{Quality}
use Rattle.css_syntax.specs.Qualities.{is_good}
use Rattle.css_syntax.specs.Statements.{begins_cdc, starts_ident}
use Rattle.css_syntax.specs.Tokens.{after_url, begins_cdo, begins_escape, begins_url, from_close, is_name_byte, past_comment, past_string_parts, past_url, past_word, url_part}
use Rattle.css_syntax.specs.declared.tokenizer.TokenKind.{TokenKind}
use Rattle.css_syntax.specs.declared.tokenizer.TokenKind.TheVariants as kinds

-- A token: its kind, what is left from it on, from what is in it on, from the end of that on, and
-- after the token. What is in a string is between its quotes, in a url between its parentheses,
-- without blanks; in a function, a name after `@` or a hash it is the name, and in a dimension the unit.
-- In any other token it is all of it.
pub record PlacedToken : Type 0 where
  pub kind : TokenKind
  pub from : List ℕ
  pub inside : List ℕ
  pub inside_end : List ℕ
  pub rest : List ℕ

-- ---- numbers (sections 4.3.10 and 4.3.12)

abbrev pub is_sign : ℕ → Bool
is_sign b = b == plus_sign || b == hyphen

-- the rest after a sign, if one is next
abbrev pub past_sign : List ℕ → List ℕ
past_sign text = if starts_by is_sign text then past_one text else text

-- a digit, or one after a full stop
abbrev pub begins_unsigned : List ℕ → Bool
begins_unsigned text =
    starts_by is_digit text || starts full_stop text && starts_by is_digit (past_one text)

-- a number begins here
abbrev pub begins_number : List ℕ → Bool
begins_number text = begins_unsigned (past_sign text)

-- the rest after a full stop and digits, if they are next
abbrev pub past_fraction : List ℕ → List ℕ
past_fraction text =
    if starts full_stop text && starts_by is_digit (past_one text)
    then past is_digit (past_one text) else text

-- an `e`
abbrev pub is_exponent_mark : ℕ → Bool
is_exponent_mark b = b == 101 || b == 69

-- the rest after an `e`, perhaps a sign, and digits, if they are next
abbrev pub past_exponent : List ℕ → List ℕ
past_exponent text =
    if starts_by is_exponent_mark text && starts_by is_digit (past_sign (past_one text))
    then past is_digit (past_sign (past_one text)) else text

-- the rest after a number
abbrev pub past_number : List ℕ → List ℕ
past_number text = past_exponent (past_fraction (past is_digit (past_sign text)))

-- ---- tokens by how they begin (section 4.3.1)

-- a token, all of which is in it
abbrev pub plain : TokenKind → (from rest : List ℕ) → PlacedToken
plain kind from rest = record {
  kind = kind;
  from = from;
  inside = from;
  inside_end = rest;
  rest = rest;
}

-- a token that ends with what is in it
abbrev pub led : TokenKind → (from inside rest : List ℕ) → PlacedToken
led kind from inside rest = record {
  kind = kind;
  from = from;
  inside = inside;
  inside_end = rest;
  rest = rest;
}

-- a number, with its unit or its percent sign (section 4.3.3)
abbrev pub after_number : (from rest : List ℕ) → PlacedToken
after_number from rest =
    if starts_ident rest then led kinds.Dimension from rest (past_word rest)
    else (if starts 37 rest then led kinds.Percentage from rest (past_one rest)
    else plain kinds.Number from rest)

-- A string, from its quote on. At a newline it is bad, and the newline is no part of it
-- (section 4.3.5).
abbrev pub string_from : ℕ → (from inside rest : List ℕ) → PlacedToken
string_from quote from inside [] = led kinds.String from inside []
string_from quote from inside (b ∷ text) =
    if b == quote
    then record {
      kind = kinds.String;
      from = from;
      inside = inside;
      inside_end = b ∷ text;
      rest = text;
    }
    else led kinds.BadString from inside (b ∷ text)

-- the kind of a url of this quality
abbrev pub url_kind : Quality → TokenKind
url_kind quality = if is_good quality then kinds.Url else kinds.BadUrl

-- a url without quotes, from what follows its parenthesis on (section 4.3.6)
abbrev pub url_from : (from inside : List ℕ) → PlacedToken
url_from from inside = record {
  kind = url_kind (past_url inside).0;
  from = from;
  inside = past is_space inside;
  inside_end = (each url_part (past is_space inside)).1;
  rest = (past_url inside).1;
}

-- a name, and a parenthesis that follows it (section 4.3.4)
abbrev pub name_from : (from rest : List ℕ) → PlacedToken
name_from from rest =
    if starts open_parenthesis rest
    then record {
      kind = kinds.Function;
      from = from;
      inside = from;
      inside_end = rest;
      rest = past_byte open_parenthesis rest;
    }
    else plain kinds.Ident from rest

-- a byte of a name or an escape is next
abbrev pub begins_name_part : List ℕ → Bool
begins_name_part text = starts_by is_name_byte text || begins_escape text

-- a hash whose name may be that of an id or may not
abbrev pub hash_kind : List ℕ → TokenKind
hash_kind text = if starts_ident text then kinds.IdHash else kinds.Hash

-- a hash or a name after `@`, or another byte
abbrev pub marked_from : ℕ → (from text : List ℕ) → PlacedToken
marked_from b from text =
    if b == number_sign && begins_name_part text then led (hash_kind text) from text (past_word text)
    else (if b == at_sign && starts_ident text then led kinds.AtKeyword from text (past_word text)
    else plain kinds.Delim from text)

-- a number, `-->`, `<!--`, a url, a name, or what follows from its first byte
abbrev pub worded_from : ℕ → List ℕ → PlacedToken
worded_from b text =
    if begins_number (b ∷ text) then after_number (b ∷ text) (past_number (b ∷ text))
    else (if begins_cdc (b ∷ text) then plain kinds.Cdc (b ∷ text) (drop 2 text)
    else (if begins_cdo (b ∷ text) then plain kinds.Cdo (b ∷ text) (drop 3 text)
    else (if begins_url (b ∷ text) then url_from (b ∷ text) (from_close (after_url (b ∷ text)))
    else (if starts_ident (b ∷ text) then name_from (b ∷ text) (past_word (b ∷ text))
    else marked_from b (b ∷ text) text))))

-- the token that begins with this byte
unfoldable pub token_from : ℕ → List ℕ → PlacedToken
token_from b text =
    if opens_comment (b ∷ text) then plain kinds.Comment (b ∷ text) (past_comment (b ∷ text))
    else (if is_space b then plain kinds.Whitespace (b ∷ text) (past is_space (b ∷ text))
    else (if is_quote b then string_from b (b ∷ text) text (past_string_parts b text)
    else worded_from b text))

abbrev pub with_rest : PlacedToken → PlacedToken × List ℕ
with_rest token = (token, token.rest)

-- the next token, and the rest
unfoldable pub next_token : List ℕ → Option (PlacedToken × List ℕ)
next_token [] = None
next_token (b ∷ text) = Some (with_rest (token_from b text))

-- the tokens of a text
unfoldable pub tokens : List ℕ → List PlacedToken
tokens text = (each next_token text).0
