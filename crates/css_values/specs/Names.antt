-- Tables of names: which longhands a shorthand sets (CSS Cascade 5, section 3.2, "shorthand"), and which
-- properties are inherited. A table is a text: a row a line, a shorthand, a colon, and its longhands
-- with a space after each but the last.
use Rattle.std.specs.Prelude.{ℕ, Bool, false, ◌||◌, ◌-◌, if◌then◌else◌, List, [], ◌∷◌, length, take, bytes_eq, Option, Some, None}
use Rattle.css_text.specs.AsciiBytes.{colon}
use Rattle.css_text.specs.Reading.{each}
use Rattle.css_text.specs.Bytes.{after_byte}

abbrev pub cut_by : List ℕ → Option (List ℕ) → List ℕ × List ℕ
cut_by text None = (text, [])
cut_by text (Some rest) = (take (length text - length rest - 1) text, rest)

-- the text before the first such byte, and the one after it
abbrev pub cut : ℕ → List ℕ → List ℕ × List ℕ
cut byte text = cut_by text (after_byte byte text)

-- the part before the first such byte, and the rest, unless the text is at its end
abbrev pub part_before : ℕ → List ℕ → Option (List ℕ × List ℕ)
part_before byte [] = None
part_before byte (b ∷ text) = Some (cut byte (b ∷ text))

-- the parts of a text between these bytes
abbrev pub parts_between : ℕ → List ℕ → List (List ℕ)
parts_between byte text = (each (part_before byte) text).0

abbrev pub is_one_of : List (List ℕ) → List ℕ → Bool
is_one_of [] name = false
is_one_of (one ∷ more) name = bytes_eq one name || is_one_of more name

-- the name is one of these, between which spaces are
abbrev pub is_named_in : List ℕ → List ℕ → Bool
is_named_in names name = is_one_of (parts_between 32 names) name

-- the longhands of the first row for this shorthand
abbrev pub row_for : List (List ℕ) → List ℕ → Option (List ℕ)
row_for [] name = None
row_for (row ∷ more) name =
    let found = cut colon row in
    if bytes_eq found.0 name then Some found.1 else row_for more name

abbrev pub longhands_in : List ℕ → List ℕ → Option (List ℕ)
longhands_in table name = row_for (parts_between 10 table) name

-- the shorthands of the rows that have this longhand
abbrev pub rows_with : List (List ℕ) → List ℕ → List (List ℕ)
rows_with [] name = []
rows_with (row ∷ more) name =
    let found = cut colon row in
    if is_named_in found.1 name then found.0 ∷ rows_with more name else rows_with more name

abbrev pub shorthands_in : List ℕ → List ℕ → List (List ℕ)
shorthands_in table name = rows_with (parts_between 10 table) name
