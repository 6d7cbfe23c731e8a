-- Names and their characters.
use Rattle.std.specs.Prelude.{ℕ, Bool, false, ◌&&◌, ◌||◌, ◌==◌, if◌then◌else◌, List, [], ◌∷◌, length, drop, chars, take_while, encode_utf8_all}
use Rattle.css_text.specs.AsciiBytes.{hyphen}
use Rattle.css_text.specs.Reading.{no_name, got, fails, Reader, before}
use Rattle.css_text.specs.Bytes.{past_byte}
use Rattle.css_text.specs.Characters.{Edition, is_name_start, is_name_char}

-- These characters begin with a name: a character that may begin a name, or a hyphen and such a
-- character. A hyphen that ends the text is a name too. (In CSS 2.1, section 4.1.1, it is no
-- identifier.)
abbrev pub begins_name : Edition → List ℕ → Bool
begins_name edition [] = false
begins_name edition (c ∷ []) = is_name_start edition c || c == hyphen
begins_name edition (c ∷ d ∷ characters) =
    is_name_start edition c || (c == hyphen && is_name_start edition d)

-- the rest after the longest run of name characters at the start of a text
unfoldable pub past_name_chars : Edition → List ℕ → List ℕ
past_name_chars edition text =
    drop (length (encode_utf8_all (take_while (is_name_char edition) (chars text)))) text

-- A name is the longest run of name characters, if a name begins. If none does, that is a fault,
-- and a hyphen there is consumed, wherever a name is required: so of `--x` the second hyphen and
-- `x` are left.
unfoldable pub name : Edition → Reader (List ℕ)
name edition text =
    if begins_name edition (chars text)
    then got (before text (past_name_chars edition text)) (past_name_chars edition text)
    else fails (no_name text) (past_byte hyphen text)
