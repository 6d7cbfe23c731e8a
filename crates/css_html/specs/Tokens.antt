-- The tokens of a page (HTML Standard, section 13.2.5), by their places.
use Rattle.std.specs.Prelude.{ℕ, zero, suc, Bool, true, false, not, ◌&&◌, ◌==◌, if◌then◌else◌, List, [], ◌∷◌, ◌++◌, drop, length, codes, Option, Some, None}
use Rattle.std.specs.Option.{is_some}
use Rattle.css_text.specs.AsciiBytes.{exclamation_mark, hyphen, slash, greater_than_sign, open_bracket}
use Rattle.css_text.specs.Reading.{before}
use Rattle.css_text.specs.Bytes.{past, starts, starts_by, starts_two}
use Rattle.css_text.specs.Characters.{is_letter}
use Rattle.css_html.specs.declared.modes.Mode.{Mode}
use Rattle.css_html.specs.declared.modes.Mode.TheVariants.{Data, Foreign, Raw, Script, Plaintext}
use Rattle.css_html.specs.declared.tokenizer.TokenKind.{TokenKind}
use Rattle.css_html.specs.declared.tokenizer.TokenKind.TheVariants as kinds
use Rattle.css_html.specs.Modes.{letters_of}
use Rattle.css_html.specs.Marks.{is_in_name, past_letters, begins_markup, past_text, begins_close, from_comment_close, from_cdata_close, from_end_tag, from_script_end}
use Rattle.css_html.specs.declared.marks.ScriptState.TheVariants.{Plain}
use Rattle.css_html.specs.Attributes.{past_attributes}

-- A token by its places: what is in it is the name of a tag, what a comment says, or all of a text.
pub record PlacedToken : Type 0 where
  pub kind : TokenKind
  pub from : List ℕ
  pub inside : List ℕ
  pub inside_end : List ℕ
  pub rest : List ℕ

-- a token, all of which is in it
abbrev pub whole : TokenKind → (from rest : List ℕ) → PlacedToken
whole kind from rest = record {
  kind = kind;
  from = from;
  inside = from;
  inside_end = rest;
  rest = rest;
}

-- a token with what is in it, and `n` bytes after that
abbrev pub framed : TokenKind → (from inside end : List ℕ) → ℕ → PlacedToken
framed kind from inside end n = record {
  kind = kind;
  from = from;
  inside = inside;
  inside_end = end;
  rest = drop n end;
}

-- A tag, by what follows its attributes: `>`, or the end of the text, which makes it no tag (13.2.5.32).
abbrev pub tag_end : TokenKind → (from name name_end end : List ℕ) → PlacedToken
tag_end kind from name name_end [] = record {
  kind = kinds.Cut;
  from = from;
  inside = name;
  inside_end = name_end;
  rest = [];
}
tag_end kind from name name_end (b ∷ rest) = record {
  kind = kind;
  from = from;
  inside = name;
  inside_end = name_end;
  rest = rest;
}

-- a tag whose name begins here (13.2.5.8)
unfoldable pub tag_from : TokenKind → (from name : List ℕ) → PlacedToken
tag_from kind from name =
    tag_end kind from name (past is_in_name name) (past_attributes (past is_in_name name))

-- the number of bytes of what closes a comment, at most
abbrev pub close_len : List ℕ → ℕ
close_len text = if begins_close text then 3 else 4

-- a comment from after its `<!--` on: `>` and `->` close an empty one (13.2.5.43 to 13.2.5.52)
abbrev pub comment_from : (from inside : List ℕ) → PlacedToken
comment_from from inside =
    if starts greater_than_sign inside then framed kinds.Comment from inside inside 1
    else (if starts_two hyphen greater_than_sign inside
    then framed kinds.Comment from inside inside 2
    else framed kinds.Comment from inside (from_comment_close inside)
    (close_len (from_comment_close inside)))

-- not `>`
abbrev pub is_not_close : ℕ → Bool
is_not_close b = not (b == greater_than_sign)

-- up to the first `>` (13.2.5.41)
abbrev pub up_to_close : TokenKind → (from inside : List ℕ) → PlacedToken
up_to_close kind from inside = framed kind from inside (past is_not_close inside) 1

-- the text begins with these letters, in any case
abbrev pub begins_letters : (letters text : List ℕ) → Bool
begins_letters letters text = is_some (past_letters letters text)

-- the text begins with `[CDATA[`
abbrev pub begins_cdata : List ℕ → Bool
begins_cdata text =
    starts_two open_bracket 67 text && starts_two 68 65 (drop 2 text)
    && starts_two 84 65 (drop 4 text) && starts open_bracket (drop 6 text)

-- what follows `<!` (13.2.5.42)
unfoldable pub declared_from : (foreign : Bool) (from text : List ℕ) → PlacedToken
declared_from foreign from text =
    if starts_two hyphen hyphen text then comment_from from (drop 2 text)
    else (if begins_letters (codes "doctype") text then up_to_close kinds.Doctype from text
    else (if foreign && begins_cdata text
    then framed kinds.Cdata from (drop 7 text) (from_cdata_close (drop 7 text)) 3
    else up_to_close kinds.Comment from text))

-- what follows `</`: an end tag, nothing at all, or a comment (13.2.5.7)
unfoldable pub closed_from : (from text : List ℕ) → PlacedToken
closed_from from text =
    if starts_by is_letter text then tag_from kinds.EndTag from text
    else up_to_close (if starts greater_than_sign text then kinds.Nothing else kinds.Comment) from text

-- what follows a `<` that begins markup (13.2.5.6)
abbrev pub markup_from : (foreign : Bool) (from text : List ℕ) → PlacedToken
markup_from foreign from text =
    if starts_by is_letter text then tag_from kinds.StartTag from text
    else (if starts slash text then closed_from from (drop 1 text)
    else (if starts exclamation_mark text then declared_from foreign from (drop 1 text)
    else up_to_close kinds.Comment from text))

-- the token that begins with this byte, where text is markup (13.2.5.1)
abbrev pub marked_token : (foreign : Bool) → ℕ → List ℕ → PlacedToken
marked_token foreign b text =
    if begins_markup (b ∷ text) then markup_from foreign (b ∷ text) text
    else whole kinds.Text (b ∷ text) (past_text text)

-- a text up to an end tag, or that end tag if it is next
abbrev pub raw_token : (from end : List ℕ) → PlacedToken
raw_token from end =
    if length end == length from then tag_from kinds.EndTag from (drop 2 from)
    else whole kinds.Text from end

-- the token that begins with this byte (13.2.5.1 to 13.2.5.5)
unfoldable pub token_from : Mode → ℕ → List ℕ → PlacedToken
token_from Data b text = marked_token false b text
token_from Foreign b text = marked_token true b text
token_from (Raw name) b text = raw_token (b ∷ text) (from_end_tag (letters_of name) (b ∷ text))
token_from Script b text = raw_token (b ∷ text) (from_script_end Plain (b ∷ text))
token_from Plaintext b text = whole kinds.Text (b ∷ text) []

-- with the rest
abbrev pub with_rest : PlacedToken → PlacedToken × List ℕ
with_rest token = (token, token.rest)

-- the next token, and the rest
unfoldable pub next_token : Mode → List ℕ → Option (PlacedToken × List ℕ)
next_token mode [] = None
next_token mode (b ∷ text) = Some (with_rest (token_from mode b text))

-- A driver says in which mode the next token is read, by the tokens before it: tree construction is one.
abbrev pub Driver : Type 0
Driver = List PlacedToken → Mode

-- the token that was found, and what `more` reads after it
abbrev pub and_more :
    Option (PlacedToken × List ℕ) → (PlacedToken → List ℕ → List PlacedToken) → List PlacedToken
and_more None more = []
and_more (Some x) more = x.0 ∷ more x.0 x.1

-- the tokens of a text under a driver, at most `n`, after those that it has seen
abbrev pub tokens_after : Driver → ℕ → (seen : List PlacedToken) → List ℕ → List PlacedToken
tokens_after drive zero seen text = []
tokens_after drive (suc n) seen text =
    and_more (next_token (drive seen) text)
    (λ t rest. tokens_after drive n (seen ++ t ∷ []) rest)

-- The tokens of a text under a driver. Each takes a byte or more.
unfoldable pub tokens : Driver → List ℕ → List PlacedToken
tokens drive text = tokens_after drive (length text) [] text

-- the text of a token
abbrev pub text_of : PlacedToken → List ℕ
text_of t = before t.from t.rest

-- the texts of tokens, one after another
abbrev pub texts_of : List PlacedToken → List ℕ
texts_of [] = []
texts_of (t ∷ more) = text_of t ++ texts_of more
