-- Values of declarations and names of properties, with their escapes decoded.
use Rattle.std.specs.Prelude.{ℕ, Bool, true, false, not, ◌||◌, ◌&&◌, ◌==◌, if◌then◌else◌, List, [], ◌∷◌, ◌++◌, codes}
use Rattle.std.specs.List.{flat_map}
use Rattle.std.specs.Str.{is_utf8}
use Rattle.css_text.specs.AsciiBytes.{double_quote, newline, carriage_return}
use Rattle.css_syntax.specs.DeclarationLists.{is_empty}
use Rattle.css_syntax.specs.Escapes.{decoded_in}
use Rattle.css_syntax.specs.Statements.{begins_ident}
use Rattle.css_syntax.specs.Tokens.{past_word}
use Rattle.css_syntax.specs.TokenLists.{PlacedToken, tokens}
use Rattle.css_syntax.specs.TokenViews.{text_of}
use Rattle.css_syntax.specs.declared.tokenizer.TokenKind.{TokenKind}
use Rattle.css_syntax.specs.declared.tokenizer.TokenKind.TheVariants as kinds
use Rattle.clean_values.specs.Values.{has_backslash, inside_of}
use Rattle.clean_values.specs.declared.plain.Spelling.{Spelling}
use Rattle.clean_values.specs.declared.plain.Spelling.TheVariants.{Name, Function, Hash, String, Same}

-- how a token of this kind is spelled
abbrev pub spelling_of : TokenKind → Spelling
spelling_of kinds.Ident = Name
spelling_of kinds.Function = Function
spelling_of kinds.Hash = Hash
spelling_of kinds.IdHash = Hash
spelling_of kinds.String = String
spelling_of _ = Same

-- a byte that may be in a string between double quotes as it is
abbrev pub is_quotable : ℕ → Bool
is_quotable b = not (b == double_quote || b == newline || b == carriage_return || b == 12)

abbrev pub are_quotable : List ℕ → Bool
are_quotable [] = true
are_quotable (b ∷ text) = is_quotable b && are_quotable text

-- the text is one name
abbrev pub is_one_name : List ℕ → Bool
is_one_name text = begins_ident text && is_empty (past_word text)

-- a token that is spelled so may have the text as it is: then it is the same token as with escapes
abbrev pub fits : Spelling → List ℕ → Bool
fits Name text = is_one_name text
fits Function text = is_one_name text
fits Hash text = is_empty (past_word text)
fits String text = are_quotable text
fits Same text = false

-- the token with the text
abbrev pub spelled : Spelling → List ℕ → List ℕ
spelled Name text = text
spelled Function text = text ++ codes "("
spelled Hash text = codes "#" ++ text
spelled String text = codes "\"" ++ (text ++ codes "\"")
spelled Same text = text

-- escapes are decoded as in a string
abbrev pub is_string : Spelling → Bool
is_string Name = false
is_string Function = false
is_string Hash = false
is_string String = true
is_string Same = false

-- the token with this text, if that may be, or as it is
abbrev pub spelled_or : Spelling → (word text : List ℕ) → List ℕ
spelled_or spelling word text = if fits spelling word then spelled spelling word else text

-- a token with this in it, and with escapes
abbrev pub unescaped : Spelling → (inside text : List ℕ) → List ℕ
unescaped spelling inside text =
    if is_utf8 inside then spelled_or spelling (decoded_in (is_string spelling) inside) text else text

-- A token: one with an escape with its text decoded, if it may have that as it is. (The bytes of a token of a text are
-- UTF-8.)
abbrev pub plain_text : Spelling → (inside text : List ℕ) → List ℕ
plain_text spelling inside text =
    if is_utf8 text then (if has_backslash text then unescaped spelling inside text else text) else []

abbrev pub plain_token : PlacedToken → List ℕ
plain_token token = plain_text (spelling_of token.kind) (inside_of token) (text_of token)

-- A value without escapes, but for those that it needs: in urls without quotes, units, and what is no name and no
-- string without them.
abbrev pub plain_value : List ℕ → List ℕ
plain_value value = flat_map plain_token (tokens value)

-- the name of a property, without escapes if it needs none
abbrev pub plain_name : List ℕ → List ℕ
plain_name name = spelled_or Name (decoded_in false name) name
