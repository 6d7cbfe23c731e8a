-- Character references (HTML Standard, sections 13.2.5.72 to 13.2.5.80), from after their `&` on.
use Rattle.std.specs.Prelude.{ℕ, Bool, true, false, not, ◌||◌, ◌&&◌, ◌==◌, ◌+◌, ◌-◌, ◌*◌, nat_eq, nat_lt, if◌then◌else◌, List, [], ◌∷◌, ◌++◌, drop, length, codes, slice_index, Option, Some, None, encode_utf8}
use Rattle.std.specs.Option.{is_some}
use Rattle.std.specs.List.{starts_with, ends_with}
use Rattle.css_text.specs.AsciiBytes.{equals_sign, space}
use Rattle.css_text.specs.Reading.{each, before}
use Rattle.css_text.specs.Bytes.{is_within, is_digit, past, past_byte, starts_by}
use Rattle.css_text.specs.Characters.{is_letter}
use Rattle.css_html.specs.ReferenceNames.{names, rows_in}

-- ---- numbers

-- the replacement character, U+FFFD
abbrev pub replacement : ℕ
replacement = 65533

-- what the numbers from 128 to 159 stand for: mostly the characters of windows-1252
abbrev pub windows_characters : List ℕ
windows_characters =
    8364 ∷ 129 ∷ 8218 ∷ 402 ∷ 8222 ∷ 8230 ∷ 8224 ∷ 8225 ∷ 710 ∷ 8240 ∷ 352 ∷ 8249 ∷ 338 ∷ 141 ∷ 381
    ∷ 143 ∷ 144 ∷ 8216 ∷ 8217 ∷ 8220 ∷ 8221 ∷ 8226 ∷ 8211 ∷ 8212 ∷ 732 ∷ 8482 ∷ 353 ∷ 8250 ∷ 339
    ∷ 157 ∷ 382 ∷ 376 ∷ []

-- The character of a number (13.2.5.80). Zero, a surrogate and what is more than any character are the
-- replacement character.
abbrev pub character_of : ℕ → ℕ
character_of n =
    if n == 0 || is_within 55296 57343 n || nat_lt 1114111 n then replacement
    else (if is_within 128 159 n then slice_index windows_characters (n - 128) else n)

-- 16 or 10
abbrev pub base_of : (hexadecimal : Bool) → ℕ
base_of true = 16
base_of false = 10

-- what a digit stands for, if the byte is one
abbrev pub digit_in : (hexadecimal : Bool) → ℕ → Option ℕ
digit_in hexadecimal b =
    if is_digit b then Some (b - 48)
    else (if hexadecimal && is_within 97 102 b then Some (b - 87)
    else (if hexadecimal && is_within 65 70 b then Some (b - 55) else None))

-- with the rest of the text
abbrev pub before_text : List ℕ → Option ℕ → Option (ℕ × List ℕ)
before_text text None = None
before_text text (Some digit) = Some (digit, text)

-- the next digit, and the rest
abbrev pub next_digit : (hexadecimal : Bool) → List ℕ → Option (ℕ × List ℕ)
next_digit hexadecimal [] = None
next_digit hexadecimal (b ∷ text) = before_text text (digit_in hexadecimal b)

-- the number of these digits, after those that spell `so_far`
unfoldable pub number_of : (hexadecimal : Bool) → (so_far : ℕ) → List ℕ → ℕ
number_of hexadecimal so_far [] = so_far
number_of hexadecimal so_far (digit ∷ digits) =
    number_of hexadecimal (base_of hexadecimal * so_far + digit) digits

-- the digits at the start
abbrev pub digits_of : (hexadecimal : Bool) → List ℕ → List ℕ
digits_of hexadecimal text = (each (next_digit hexadecimal) text).0

-- the rest after the digits at the start
unfoldable pub past_digits : (hexadecimal : Bool) → List ℕ → List ℕ
past_digits hexadecimal text = (each (next_digit hexadecimal) text).1

-- the character of the number that the digits at the start spell
unfoldable pub numbered : (hexadecimal : Bool) → List ℕ → ℕ
numbered hexadecimal text = character_of (number_of hexadecimal 0 (digits_of hexadecimal text))

-- `;`
abbrev pub semicolon : ℕ
semicolon = 59

-- a digit is next
abbrev pub begins_number : (hexadecimal : Bool) → List ℕ → Bool
begins_number hexadecimal text = starts_by (λ b. is_some (digit_in hexadecimal b)) text

-- The character whose number these digits spell, in UTF-8, and the rest, after a semicolon if one is
-- next. There is none without a digit.
abbrev pub digits_from : (hexadecimal : Bool) → List ℕ → Option (List ℕ × List ℕ)
digits_from hexadecimal text =
    if begins_number hexadecimal text
    then Some (encode_utf8 (numbered hexadecimal text), past_byte semicolon (past_digits hexadecimal text))
    else None

-- what follows `&#` (13.2.5.75): hexadecimal digits after an `x`, or decimal ones
abbrev pub number_from : List ℕ → Option (List ℕ × List ℕ)
number_from [] = None
number_from (b ∷ text) =
    if b == 120 || b == 88 then digits_from true text else digits_from false (b ∷ text)

-- ---- names

-- A row of the table: the rest of a name after its first letter, and its characters as they are
-- written there.
pub record NamedRow : Type 0 where
  pub name : List ℕ
  pub characters : List ℕ

-- not a space
abbrev pub is_no_space : ℕ → Bool
is_no_space b = not (b == space)

-- the row that ends at the second space of the text, and the rest after that
abbrev pub row_at : List ℕ → NamedRow × List ℕ
row_at text =
    let name_end = past is_no_space text in
    let characters = drop 1 name_end in
    let end = past is_no_space characters in
    (record { name = before text name_end; characters = before characters end }, drop 1 end)

-- the next row of a table, and the rest
unfoldable pub next_row : List ℕ → Option (NamedRow × List ℕ)
next_row [] = None
next_row (b ∷ rows) = Some (row_at (b ∷ rows))

-- the row has a longer name than the other
abbrev pub is_longer : NamedRow → Option NamedRow → Bool
is_longer row None = true
is_longer row (Some best) = nat_lt (length best.name) (length row.name)

-- the row, if the text begins with its name and that is longer than the other's
abbrev pub longer_of : (text : List ℕ) → Option NamedRow → NamedRow → Option NamedRow
longer_of text best row =
    if starts_with nat_eq text row.name && is_longer row best then Some row else best

-- of a row and a list of rows the one with the longest name that the text begins with
unfoldable pub longest_of : (text : List ℕ) → Option NamedRow → List NamedRow → Option NamedRow
longest_of text best [] = best
longest_of text best (row ∷ rows) = longest_of text (longer_of text best row) rows

-- the row of the longest name that the text begins with, of those with this first letter
abbrev pub named_row : ℕ → List ℕ → Option NamedRow
named_row letter text = longest_of text None (each next_row (rows_in letter names)).0

-- the second character, after a `+`, if there is one
abbrev pub second_character : List ℕ → List ℕ
second_character [] = []
second_character (b ∷ text) = encode_utf8 (numbered true text)

-- the characters of a row in UTF-8
abbrev pub spelled : List ℕ → List ℕ
spelled characters =
    encode_utf8 (numbered true characters) ++ second_character (past_digits true characters)

-- `=`, a letter or a digit
abbrev pub continues_name : ℕ → Bool
continues_name b = b == equals_sign || is_letter b || is_digit b

-- In the value of an attribute a name without a semicolon is not a reference before `=`, a letter or a
-- digit (13.2.5.73).
abbrev pub is_no_reference : (in_value : Bool) → (name rest : List ℕ) → Bool
is_no_reference in_value name rest =
    in_value && not (ends_with nat_eq name (codes ";")) && starts_by continues_name rest

-- what a row stands for before this rest, with the rest
abbrev pub row_before : (in_value : Bool) → NamedRow → List ℕ → Option (List ℕ × List ℕ)
row_before in_value row rest =
    if is_no_reference in_value row.name rest then None else Some (spelled row.characters, rest)

-- what a row that was found stands for, if there is one, with the rest
abbrev pub row_reference : (in_value : Bool) → List ℕ → Option NamedRow → Option (List ℕ × List ℕ)
row_reference in_value text None = None
row_reference in_value text (Some row) = row_before in_value row (drop (length row.name) text)

-- what the longest name at the start stands for, and the rest (13.2.5.73)
unfoldable pub name_from : (in_value : Bool) → List ℕ → Option (List ℕ × List ℕ)
name_from in_value [] = None
name_from in_value (b ∷ text) = row_reference in_value text (named_row b text)

-- What the character reference that begins after a `&` stands for, and the rest, if there is one
-- (13.2.5.72).
abbrev pub reference : (in_value : Bool) → List ℕ → Option (List ℕ × List ℕ)
reference in_value [] = None
reference in_value (b ∷ text) =
    if b == 35 then number_from text else name_from in_value (b ∷ text)
