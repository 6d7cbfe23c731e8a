-- References (XML 1.0, sections 4.1 and 4.6), from after their `&` on, and what texts with them stand for (2.11 and 3.3.3).
use Rattle.std.specs.Prelude.{ℕ, Bool, true, false, ◌&&◌, ◌==◌, ◌+◌, ◌*◌, nat_eq, nat_lt, if◌then◌else◌, List, [], ◌∷◌, drop, codes, Option, Some, None, encode_utf8}
use Rattle.std.specs.List.{starts_with}
use Rattle.css_text.specs.AsciiBytes.{newline, carriage_return, space, number_sign, semicolon}
use Rattle.css_text.specs.Reading.{each}
use Rattle.css_text.specs.Bytes.{past_byte, starts}
use Rattle.css_html.specs.References.{base_of, digit_in}
use Rattle.css_html.specs.Decoding.{ampersand, joined, has_references, is_value}
use Rattle.css_html.specs.declared.decoding.TextKind.{TextKind}
use Rattle.css_xml.specs.Characters.{is_blank, is_character}

-- The number with a further digit. One past the last character stays.
abbrev pub number_with : (hexadecimal : Bool) → (n digit : ℕ) → ℕ
number_with hexadecimal n digit = if nat_lt 1114111 n then n else base_of hexadecimal * n + digit

-- what `next` reads after a digit, if there is one
abbrev pub after_digit : Option ℕ → (ℕ → Option (ℕ × List ℕ)) → Option (ℕ × List ℕ)
after_digit None next = None
after_digit (Some digit) next = next digit

-- the number of these digits, after those that spell `n`, and the rest after the `;` that ends them
unfoldable pub numbered : (hexadecimal : Bool) → (n : ℕ) → List ℕ → Option (ℕ × List ℕ)
numbered hexadecimal n [] = None
numbered hexadecimal n (b ∷ text) =
    if b == semicolon then Some (n, text)
    else after_digit (digit_in hexadecimal b)
    (λ digit. numbered hexadecimal (number_with hexadecimal n digit) text)

-- the same, if it is a character that a document may have
abbrev pub if_character : Option (ℕ × List ℕ) → Option (ℕ × List ℕ)
if_character None = None
if_character (Some x) = if is_character x.0 then Some (x.0, x.1) else None

-- what follows `&#`: hexadecimal digits after an `x`, or decimal ones (production 66). Without a digit the number is zero, which
-- is no character.
abbrev pub number_from : List ℕ → Option (ℕ × List ℕ)
number_from text =
    if starts 120 text then if_character (numbered true 0 (drop 1 text))
    else if_character (numbered false 0 text)

-- the character of one of the five entities that each document has, and the rest
abbrev pub named : List ℕ → Option (ℕ × List ℕ)
named text =
    if starts_with nat_eq text (codes "lt;") then Some (60, drop 3 text)
    else (if starts_with nat_eq text (codes "gt;") then Some (62, drop 3 text)
    else (if starts_with nat_eq text (codes "amp;") then Some (38, drop 4 text)
    else (if starts_with nat_eq text (codes "apos;") then Some (39, drop 5 text)
    else (if starts_with nat_eq text (codes "quot;") then Some (34, drop 5 text) else None))))

-- the character that a reference stands for, and the rest
abbrev pub reference : List ℕ → Option (ℕ × List ℕ)
reference text = if starts number_sign text then number_from (drop 1 text) else named text

-- what a reference stands for, and the rest; a `&` that begins none is itself
abbrev pub said_by : List ℕ → Option (ℕ × List ℕ) → List ℕ × List ℕ
said_by text None = (ampersand ∷ [], text)
said_by text (Some x) = (encode_utf8 x.0, x.1)

-- what white space is: in a value a space, elsewhere a newline
abbrev pub blank_of : TextKind → List ℕ
blank_of kind = if is_value kind then space ∷ [] else newline ∷ []

-- What a byte stands for, or the end of a line or the reference that begins with it, and the rest.
unfoldable pub part_at : TextKind → ℕ → List ℕ → List ℕ × List ℕ
part_at kind b text =
    if b == carriage_return then (blank_of kind, past_byte newline text)
    else (if b == ampersand && has_references kind then said_by text (reference text)
    else (if is_blank b && is_value kind then (space ∷ [], text) else (b ∷ [], text)))

-- the next part: what it stands for, and the rest
abbrev pub next_part : TextKind → List ℕ → Option (List ℕ × List ℕ)
next_part kind [] = None
next_part kind (b ∷ text) = Some (part_at kind b text)

-- what a text stands for, part by part
unfoldable pub decoded : TextKind → List ℕ → List ℕ
decoded kind text = joined (each (next_part kind) text).0
