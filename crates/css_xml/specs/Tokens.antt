-- The tokens of an XML document, by their places (XML 1.0, Fifth Edition). A place is what is left of the text from there on.
-- A processing instruction is of the kind of comments, and begins with `<?`, as HTML reads it. What has no end is cut off.
use Rattle.std.specs.Prelude.{◌≡◌, ℕ, Bool, not, ◌&&◌, ◌==◌, nat_eq, if◌then◌else◌, List, [], ◌∷◌, ◌++◌, drop, length, codes, Option, Some, None}
use Rattle.std.specs.List.{starts_with, ends_with}
use Rattle.css_text.specs.AsciiBytes.{exclamation_mark, slash, greater_than_sign}
use Rattle.css_text.specs.Reading.{before}
use Rattle.css_text.specs.Bytes.{past, starts}
use Rattle.css_text.specs.Strings.{is_quote}
use Rattle.css_html.specs.Marks.{less_than_sign, question_mark, is_in_name}
use Rattle.css_html.specs.Tokens.{PlacedToken, whole, framed, tag_end, with_rest}
use Rattle.css_html.specs.declared.tokenizer.TokenKind.{TokenKind}
use Rattle.css_html.specs.declared.tokenizer.TokenKind.TheVariants as kinds
use Rattle.css_xml.specs.Doctypes.{from_end}
use Rattle.css_xml.specs.declared.doctypes.Part.TheVariants as parts

-- not `<`
abbrev pub is_in_text : ℕ → Bool
is_in_text b = not (b == less_than_sign)

-- from the first of these bytes on, or nothing
unfoldable pub from_mark : (mark text : List ℕ) → List ℕ
from_mark mark [] = []
from_mark mark (b ∷ text) =
    if starts_with nat_eq (b ∷ text) mark then b ∷ text else from_mark mark text

-- the quote that a place in a tag is in after one more byte, if it is in one
abbrev pub quote_after : Option ℕ → ℕ → Option ℕ
quote_after None b = if is_quote b then Some b else None
quote_after (Some q) b = if b == q then None else Some q

-- the byte is the `>` that ends a tag
abbrev pub ends_tag : (quote : Option ℕ) → ℕ → Bool
ends_tag None b = b == greater_than_sign
ends_tag (Some q) b = Bool.false

-- from the first `>` that is not in quotes on, or nothing (productions 40, 42 and 44)
unfoldable pub from_tag_end : (quote : Option ℕ) → List ℕ → List ℕ
from_tag_end quote [] = []
from_tag_end quote (b ∷ text) =
    if ends_tag quote b then b ∷ text else from_tag_end (quote_after quote b) text

-- a tag whose name begins here
abbrev pub tag_from : TokenKind → (from name : List ℕ) → PlacedToken
tag_from kind from name = tag_end kind from name (past is_in_name name) (from_tag_end None name)

-- a token with what is in it, and its end, of `n` bytes, which nothing is if it is cut off
abbrev pub closed : TokenKind → (from inside end : List ℕ) → ℕ → PlacedToken
closed kind from inside [] n = framed kinds.Cut from inside [] n
closed kind from inside (b ∷ end) n = framed kind from inside (b ∷ end) n

-- what is after the first `--` of a comment, which has to end there (production 15)
abbrev pub comment_end : (end : List ℕ) → List ℕ
comment_end end = if starts_with nat_eq end (codes "-->") then end else []

-- what follows `<!`: a comment, a CDATA section or a document type (productions 15, 18 and 28)
abbrev pub declared_from : (from text : List ℕ) → PlacedToken
declared_from from text =
    if starts_with nat_eq text (codes "--")
    then closed kinds.Comment from (drop 2 text) (comment_end (from_mark (codes "--") (drop 2 text))) 3
    else (if starts_with nat_eq text (codes "[CDATA[")
    then closed kinds.Cdata from (drop 7 text) (from_mark (codes "]]>") (drop 7 text)) 3
    else (if starts_with nat_eq text (codes "DOCTYPE")
    then closed kinds.Doctype from text (from_end parts.Front (drop 7 text)) 1
    else closed kinds.Cut from text [] 0))

-- what follows `<` (productions 16, 40 and 42)
abbrev pub markup_from : (from text : List ℕ) → PlacedToken
markup_from from text =
    if starts slash text then tag_from kinds.EndTag from (drop 1 text)
    else (if starts exclamation_mark text then declared_from from (drop 1 text)
    else (if starts question_mark text
    then closed kinds.Comment from (drop 1 text) (from_mark (codes "?>") (drop 1 text)) 2
    else tag_from kinds.StartTag from text))

-- the token that begins with this byte
unfoldable pub token_from : ℕ → List ℕ → PlacedToken
token_from b text =
    if b == less_than_sign then markup_from (b ∷ text) text
    else whole kinds.Text (b ∷ text) (past is_in_text text)

-- the next token, and the rest
unfoldable pub next_token : List ℕ → Option (PlacedToken × List ℕ)
next_token [] = None
next_token (b ∷ text) = Some (with_rest (token_from b text))

-- the name of a tag, as written
abbrev pub tag_name : PlacedToken → List ℕ
tag_name t = before t.inside t.inside_end

-- the text of a token
abbrev pub text_of : PlacedToken → List ℕ
text_of t = before t.from t.rest

-- the tag is that of an element without content (production 44)
abbrev pub is_empty_tag : PlacedToken → Bool
is_empty_tag t = ends_with nat_eq (text_of t) (codes "/>")

-- the token is a processing instruction, and no comment
abbrev pub is_instruction : PlacedToken → Bool
is_instruction t = starts_with nat_eq t.from (codes "<?")
