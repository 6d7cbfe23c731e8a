-- Values of declarations, written anew: urls are replaced by their answers, and names have a prefix.
use Rattle.std.specs.Prelude.{ℕ, Bool, true, false, not, ◌||◌, ◌&&◌, ◌==◌, if◌then◌else◌, bytes_eq, List, [], ◌∷◌, ◌++◌, codes, option_map, Option, Some, None}
use Rattle.std.specs.Str.{is_utf8}
use Rattle.css_text.specs.AsciiBytes.{hyphen, backslash}
use Rattle.css_text.specs.Reading.{before}
use Rattle.css_text.specs.Bytes.{past_byte, starts_two}
use Rattle.css_syntax.specs.Escapes.{decoded_in}
use Rattle.css_syntax.specs.Tokens.{spells}
use Rattle.css_syntax.specs.TokenLists.{PlacedToken, tokens}
use Rattle.css_syntax.specs.TokenViews.{text_of}
use Rattle.css_syntax.specs.declared.tokenizer.TokenKind.{TokenKind}
use Rattle.css_syntax.specs.declared.tokenizer.TokenKind.TheVariants as kinds

-- What is changed in values: urls, what is written in place of each, a prefix of names, the properties of
-- which the words are names, and the words that are none.
pub record ChangesText : Type 0 where
  pub urls : List (List ℕ)
  pub answers : List (List ℕ)
  pub prefix : List ℕ
  pub named : List (List ℕ)
  pub words : List (List ℕ)

-- a word has a backslash
abbrev pub has_backslash : List ℕ → Bool
has_backslash [] = false
has_backslash (b ∷ word) = b == backslash || has_backslash word

-- the word is one of these names, in any case and with any escapes
abbrev pub is_listed : List (List ℕ) → List ℕ → Bool
is_listed [] word = false
is_listed (name ∷ more) word = spells name word || is_listed more word

-- what is in a token
abbrev pub inside_of : PlacedToken → List ℕ
inside_of token = before token.inside token.inside_end

-- ---- functions of urls

-- the functions whose strings are urls
abbrev pub source_functions : List (List ℕ)
source_functions =
    codes "url" ∷ codes "src" ∷ codes "image" ∷ codes "image-set" ∷ codes "-webkit-image-set" ∷ []

abbrev pub is_function : TokenKind → Bool
is_function kinds.Function = true
is_function _ = false

-- the token begins such a function
abbrev pub is_source : PlacedToken → Bool
is_source token = is_function token.kind && is_listed source_functions (inside_of token)

-- one of the tokens does, so that each string of them is a url
abbrev pub has_source : List PlacedToken → Bool
has_source [] = false
has_source (token ∷ more) = is_source token || has_source more

-- the functions that load a string, which another function in them could bring, as `var()`
abbrev pub loader_functions : List (List ℕ)
loader_functions = codes "src" ∷ codes "image" ∷ codes "image-set" ∷ codes "-webkit-image-set" ∷ []

abbrev pub is_loader : PlacedToken → Bool
is_loader token = is_function token.kind && is_listed loader_functions (inside_of token)

-- one of the tokens begins such a function
abbrev pub has_loader : List PlacedToken → Bool
has_loader [] = false
has_loader (token ∷ more) = is_loader token || has_loader more

-- ---- answers

-- what is written in place of a url, if it is answered
abbrev pub answer_of : (urls answers : List (List ℕ)) → (url : List ℕ) → Option (List ℕ)
answer_of [] answers url = None
answer_of (one ∷ urls) [] url = None
answer_of (one ∷ urls) (answer ∷ answers) url =
    if bytes_eq one url then Some answer else answer_of urls answers url

-- the answer to the url that these bytes spell, as in a string or as elsewhere
abbrev pub answer_to : ChangesText → (in_string : Bool) → List ℕ → Option (List ℕ)
answer_to changes in_string inside =
    if is_utf8 inside then answer_of changes.urls changes.answers (decoded_in in_string inside) else None

-- ---- tokens

-- What is written of a token: what opens it, the prefix of a name, the text, and what closes it.
pub record PieceText : Type 0 where
  pub opened : List ℕ
  pub prefix : List ℕ
  pub text : List ℕ
  pub closed : List ℕ

abbrev pub piece_text : PieceText → List ℕ
piece_text piece = piece.opened ++ (piece.prefix ++ (piece.text ++ piece.closed))

-- a url by its answer
abbrev pub url_piece : List ℕ → PieceText
url_piece answer = record { opened = codes "url(\""; prefix = []; text = answer; closed = codes "\")" }

-- a string by an answer
abbrev pub string_piece : List ℕ → PieceText
string_piece answer = record { opened = codes "\""; prefix = []; text = answer; closed = codes "\"" }

-- a token as it is
abbrev pub same_piece : List ℕ → PieceText
same_piece text = record { opened = []; prefix = []; text = text; closed = [] }

-- a word with the prefix
abbrev pub name_piece : (prefix word : List ℕ) → PieceText
name_piece prefix word = record { opened = []; prefix = prefix; text = word; closed = [] }

-- a name after two hyphens with the prefix
abbrev pub dashed_piece : (prefix word : List ℕ) → PieceText
dashed_piece prefix word = record {
  opened = codes "--";
  prefix = prefix;
  text = past_byte hyphen (past_byte hyphen word);
  closed = [];
}

-- a word begins with two hyphens
abbrev pub is_dashed : List ℕ → Bool
is_dashed word = starts_two hyphen hyphen word

-- a word, which is a name where words are, or where it begins with two hyphens
abbrev pub word_piece : ChangesText → (named : Bool) → List ℕ → PieceText
word_piece changes named word =
    if is_dashed word then dashed_piece changes.prefix word
    else (if named && not (is_listed changes.words word) then name_piece changes.prefix word
    else same_piece word)

-- a piece of bytes that are UTF-8
abbrev pub if_text : (List ℕ → PieceText) → List ℕ → Option PieceText
if_text piece bytes = if is_utf8 bytes then Some (piece bytes) else None

-- a string: the answer to it, where it is a url; nothing, where it would be a name
abbrev pub written_string :
    ChangesText → (sources named : Bool) → (inside text : List ℕ) → Option PieceText
written_string changes sources named inside text =
    if sources then option_map string_piece (answer_to changes true inside)
    else (if named then None else if_text same_piece text)

-- What is written of a token of this kind, in which these bytes are, where strings are urls or are not,
-- and words are names or are not; nothing, if it is a url without an answer, or a string that would be a
-- name. (The bytes of a token of a text are UTF-8.)
abbrev pub written_by :
    ChangesText → (sources named : Bool) → TokenKind → (inside text : List ℕ) → Option PieceText
written_by changes sources named kinds.Url inside text =
    option_map url_piece (answer_to changes false inside)
written_by changes sources named kinds.String inside text =
    written_string changes sources named inside text
written_by changes sources named kinds.Ident inside text = if_text (word_piece changes named) text
written_by changes sources named _ inside text = if_text same_piece text

abbrev pub written_token : ChangesText → (sources named : Bool) → PlacedToken → Option PieceText
written_token changes sources named token =
    written_by changes sources named token.kind (inside_of token) (text_of token)

-- ---- values

abbrev pub then_written : Option PieceText → Option (List ℕ) → Option (List ℕ)
then_written None more = None
then_written (Some piece) more = option_map (λ text. piece_text piece ++ text) more

-- the tokens, one after another, if each is written
abbrev pub written_tokens : ChangesText → (sources named : Bool) → List PlacedToken → Option (List ℕ)
written_tokens changes sources named [] = Some []
written_tokens changes sources named (token ∷ more) =
    then_written (written_token changes sources named token) (written_tokens changes sources named more)

-- A value of a property, written anew, if each of its urls is answered.
abbrev pub written_value : ChangesText → (name value : List ℕ) → Option (List ℕ)
written_value changes name value =
    written_tokens changes (has_source (tokens value)) (is_listed changes.named name) (tokens value)

-- the name of a property: that of a custom one has the prefix
abbrev pub written_name : ChangesText → List ℕ → List ℕ
written_name changes name = piece_text (word_piece changes false name)
