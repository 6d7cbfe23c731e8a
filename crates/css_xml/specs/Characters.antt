-- Characters and names (XML 1.0, Fifth Edition, sections 2.2 and 2.3), in a text in UTF-8.
use Rattle.std.specs.Prelude.{ℕ, Bool, true, false, not, ◌&&◌, ◌||◌, ◌==◌, ◌+◌, ◌-◌, ◌*◌, ◌%◌, nat_lt, if◌then◌else◌, List, [], ◌∷◌, drop}
use Rattle.css_text.specs.AsciiBytes.{tab, newline, carriage_return, space, hyphen, full_stop, colon, underscore}
use Rattle.css_text.specs.Bytes.{is_within, is_digit, starts, starts_two}
use Rattle.css_text.specs.Characters.{is_letter}
use Rattle.css_xml.specs.declared.characters.Spelled.{Spelled}

-- a byte of white space (production 3)
abbrev pub is_blank : ℕ → Bool
is_blank b = b == space || b == tab || b == newline || b == carriage_return

-- a character that a document may have (production 2)
abbrev pub is_character : ℕ → Bool
is_character c =
    c == tab || c == newline || c == carriage_return || is_within 0x20 0xD7FF c
    || is_within 0xE000 0xFFFD c || is_within 0x10000 0x10FFFF c

-- a character that may begin a name (production 4)
abbrev pub is_name_start : ℕ → Bool
is_name_start c =
    c == colon || c == underscore || is_letter c || is_within 0xC0 0xD6 c || is_within 0xD8 0xF6 c
    || is_within 0xF8 0x2FF c || is_within 0x370 0x37D c || is_within 0x37F 0x1FFF c
    || is_within 0x200C 0x200D c || is_within 0x2070 0x218F c || is_within 0x2C00 0x2FEF c
    || is_within 0x3001 0xD7FF c || is_within 0xF900 0xFDCF c || is_within 0xFDF0 0xFFFD c
    || is_within 0x10000 0xEFFFF c

-- a character that may be in a name (production 4a)
abbrev pub is_name_char : ℕ → Bool
is_name_char c =
    is_name_start c || c == hyphen || c == full_stop || is_digit c || c == 0xB7
    || is_within 0x300 0x36F c || is_within 0x203F 0x2040 c

-- nothing of a character
abbrev pub unspelled : Spelled
unspelled = record {
  left = 0;
  number = 0;
}

-- What is read of a character after one more byte. Of a character in UTF-8 the number is less than 65,536 before its last
-- byte.
abbrev pub spelled_after : Spelled → ℕ → Spelled
spelled_after s b =
    if nat_lt b 128 then record { left = 0; number = b }
    else (if nat_lt b 192 then record { left = s.left - 1; number = s.number % 65536 * 64 + b % 64 }
    else (if nat_lt b 224 then record { left = 1; number = b - 192 }
    else (if nat_lt b 240 then record { left = 2; number = b - 224 }
    else record { left = 3; number = b - 240 })))

-- what is read of a character may be where it is in a name: at its front, or after that
abbrev pub is_allowed : (is_first : Bool) → Spelled → Bool
is_allowed is_first s =
    if s.left == 0 then (if is_first then is_name_start s.number else is_name_char s.number) else true

-- a name goes on with this text, where none of its characters was read so far or some were
unfoldable pub name_from : (is_first : Bool) → Spelled → List ℕ → Bool
name_from is_first s [] = not is_first
name_from is_first s (b ∷ text) =
    let now = spelled_after s b in
    if is_allowed is_first now then name_from (is_first && not (now.left == 0)) now text else false

-- the text is a name (production 5)
abbrev pub is_name : List ℕ → Bool
is_name text = name_from true unspelled text

-- the text begins with U+FFFE or U+FFFF
abbrev pub begins_noncharacter : List ℕ → Bool
begins_noncharacter text =
    starts_two 239 191 text && (starts 190 (drop 2 text) || starts 191 (drop 2 text))

-- the text begins with what no document has: another control than white space, U+FFFE or U+FFFF
abbrev pub is_refused : List ℕ → Bool
is_refused [] = false
is_refused (b ∷ text) = (nat_lt b 32 && not (is_blank b)) || begins_noncharacter (b ∷ text)

-- all characters of a text in UTF-8 are characters that a document may have
unfoldable pub are_characters : List ℕ → Bool
are_characters [] = true
are_characters (b ∷ text) = if is_refused (b ∷ text) then false else are_characters text

-- all bytes are white space
unfoldable pub are_blank : List ℕ → Bool
are_blank [] = true
are_blank (b ∷ text) = if is_blank b then are_blank text else false
