-- The urls of a text.
use Rattle.std.specs.Prelude.{ℕ, Bool, true, false, not, ◌||◌, ◌&&◌, ◌==◌, if◌then◌else◌, List, [], ◌∷◌, ◌++◌}
use Rattle.std.specs.List.{flat_map}
use Rattle.std.specs.Str.{is_utf8}
use Rattle.css_text.specs.Bytes.{starts_by}
use Rattle.css_syntax.specs.Escapes.{decoded_in}
use Rattle.css_syntax.specs.TokenLists.{PlacedToken, tokens}
use Rattle.css_syntax.specs.declared.tokenizer.TokenKind.{TokenKind}
use Rattle.css_syntax.specs.declared.tokenizer.TokenKind.TheVariants as kinds
use Rattle.clean_values.specs.Values.{inside_of, is_source}

-- a byte that ends a declaration: a semicolon or a brace
abbrev pub is_declaration_end : ℕ → Bool
is_declaration_end b = b == 59 || b == 123 || b == 125

abbrev pub ends_declaration : TokenKind → (from : List ℕ) → Bool
ends_declaration kinds.Delim from = starts_by is_declaration_end from
ends_declaration _ from = false

-- the url that these bytes spell, as in a string or as elsewhere
abbrev pub url_spelled : (in_string : Bool) → List ℕ → List (List ℕ)
url_spelled in_string inside = if is_utf8 inside then decoded_in in_string inside ∷ [] else []

-- the url of a string, where strings are urls
abbrev pub string_url : (strings : Bool) → List ℕ → List (List ℕ)
string_url strings inside = if strings then url_spelled true inside else []

-- the url of a token of this kind, where strings are urls or are not
abbrev pub url_by : (strings : Bool) → TokenKind → (inside : List ℕ) → List (List ℕ)
url_by strings kinds.Url inside = url_spelled false inside
url_by strings kinds.String inside = string_url strings inside
url_by strings _ inside = []

-- strings are urls after a function of which they are, up to the end of the declaration
abbrev pub strings_after : (strings : Bool) → PlacedToken → Bool
strings_after strings token =
    not (ends_declaration token.kind token.from) && (strings || is_source token)

abbrev pub token_urls : (strings : Bool) → List PlacedToken → List (List ℕ)
token_urls strings [] = []
token_urls strings (token ∷ more) =
    url_by strings token.kind (inside_of token) ++ token_urls (strings_after strings token) more

-- The urls of a text, in order: those without quotes, and the strings that follow a function whose strings are
-- urls in the same declaration.
abbrev pub urls_of : List ℕ → List (List ℕ)
urls_of text = token_urls false (tokens text)

-- urls, each with a byte 0 after it, which no url has
abbrev pub urls_text : List (List ℕ) → List ℕ
urls_text urls = flat_map (λ url. url ++ 0 ∷ []) urls
