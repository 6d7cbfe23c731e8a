-- Selectors whose escapes are written anew.
use Rattle.std.specs.Prelude.{ℕ, ◌+◌, ◌/◌, ◌%◌, ◌||◌, ◌==◌, if◌then◌else◌, nat_lt, List, [], ◌∷◌, ◌++◌}
use Rattle.css_text.specs.AsciiBytes.{backslash, space}
use Rattle.css_syntax.specs.Tokens.{is_newline}
use Rattle.css_clean.specs.Selectors.{is_escapable}

-- the last hexadecimal digit of a number
abbrev pub hex_digit : ℕ → ℕ
hex_digit n = if nat_lt (n % 16) 10 then 48 + n % 16 else 87 + n % 16

-- an escape of a byte by its number, which a space ends
abbrev pub numbered_escape : ℕ → List ℕ
numbered_escape b = backslash ∷ hex_digit (b / 16) ∷ hex_digit b ∷ space ∷ []

-- What a backslash and a byte after it are written as: as they are, where a selector may have them so, or where they
-- are no escape; a byte past ASCII alone, which needs no backslash; any other byte by its number.
abbrev pub escape_anew : ℕ → List ℕ
escape_anew b =
    if is_escapable b || is_newline b then backslash ∷ b ∷ []
    else (if nat_lt b 128 then numbered_escape b else b ∷ [])

-- a selector with each escape so
abbrev pub escaped_anew : List ℕ → List ℕ
escaped_anew [] = []
escaped_anew (b ∷ []) = b ∷ []
escaped_anew (b ∷ c ∷ text) =
    if b == backslash then escape_anew c ++ escaped_anew text else b ∷ escaped_anew (c ∷ text)
