-- The text that a name, a value or a string denotes: its escapes are decoded (CSS Syntax 3, sections
-- 4.3.5 and 4.3.7), and U+0000 is U+FFFD (section 3.3).
use Rattle.std.specs.Prelude.{ℕ, Bool, true, false, not, ◌||◌, ◌&&◌, ◌==◌, nat_lt, if◌then◌else◌, List, [], ◌∷◌, Option, Some, None, encode_utf8}
use Rattle.std.specs.List.{flat_map}
use Rattle.css_text.specs.AsciiBytes.{backslash}
use Rattle.css_text.specs.Reading.{each}
use Rattle.css_text.specs.Bytes.{is_within, is_hex_digit}
use Rattle.css_syntax.specs.Tokens.{begins_escape, past_escape, hex_number}

-- the replacement character, U+FFFD
abbrev pub replacement : ℕ
replacement = 65533

-- The character of a number. Zero, a surrogate and what is more than any character are the
-- replacement character.
abbrev pub character_of : ℕ → ℕ
character_of n =
    if n == 0 || is_within 55296 57343 n || nat_lt 1114111 n then replacement else n

-- What an escape denotes in a string or elsewhere, from after its backslash: the character of up to six
-- hexadecimal digits, which one space byte may end; or the byte itself. (The further bytes of a
-- character past ASCII denote themselves.) At the end of the text it denotes nothing in a string, and
-- elsewhere the replacement character.
abbrev pub escaped_text : Bool → List ℕ → List ℕ
escaped_text in_string [] = if in_string then [] else encode_utf8 replacement
escaped_text in_string (b ∷ text) =
    if is_hex_digit b then encode_utf8 (character_of (hex_number 6 0 (b ∷ text))) else b ∷ []

-- An escape, or a byte that denotes itself. A backslash before a newline is no escape: in a string
-- it and the newline denote nothing, elsewhere it denotes itself.
unfoldable pub decoded_part : Bool → List ℕ → Option (List ℕ × List ℕ)
decoded_part in_string [] = None
decoded_part in_string (b ∷ text) =
    if begins_escape (b ∷ text) then Some (escaped_text in_string text, past_escape text)
    else (if in_string && b == backslash then Some ([], past_escape text) else Some (b ∷ [], text))

-- what the text spells by its bytes and escapes, as in a string or as elsewhere
unfoldable pub unescaped_in : Bool → List ℕ → List ℕ
unescaped_in in_string text = flat_map (λ part. part) (each (decoded_part in_string) text).0

-- a byte; U+FFFD in place of U+0000, which no text of CSS has
abbrev pub without_nul_byte : ℕ → List ℕ
without_nul_byte b = if b == 0 then encode_utf8 replacement else b ∷ []

abbrev pub without_nul : List ℕ → List ℕ
without_nul text = flat_map without_nul_byte text

-- a byte that denotes itself wherever it is
abbrev pub is_itself : ℕ → Bool
is_itself b = not (b == backslash || b == 0)

-- the text, with its escapes decoded as in a string or as elsewhere, and without U+0000
abbrev pub decoded_in : Bool → List ℕ → List ℕ
decoded_in in_string text = without_nul (unescaped_in in_string text)

-- the text, with its escapes decoded
abbrev pub decoded : List ℕ → List ℕ
decoded text = decoded_in false text

-- what is in a string, with its escapes decoded
abbrev pub decoded_string : List ℕ → List ℕ
decoded_string text = decoded_in true text
