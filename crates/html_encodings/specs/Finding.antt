-- The encoding of a label (Encoding Standard, section 4.2, "get an encoding"), and of what a `meta` and its
-- `content` say (HTML Standard, sections 2.4.4 and 13.2.3.2).
use Rattle.std.specs.Prelude.{ℕ, Bool, true, false, ◌&&◌, ◌==◌, if◌then◌else◌, List, [], ◌∷◌, codes, Option, Some, None, option_map, option_and_then}
use Rattle.std.specs.Option.{option_or}
use Rattle.css_text.specs.AsciiBytes.{space}
use Rattle.css_text.specs.Bytes.{past}
use Rattle.css_text.specs.Characters.{is_space}
use Rattle.css_text.specs.Reading.{before}
use Rattle.css_text.specs.Strings.{is_quote}
use Rattle.css_html.specs.Attributes.{PlacedAttribute, attributes, name_of, value_of}
use Rattle.css_html.specs.Marks.{past_letters}
use Rattle.css_html.specs.References.{is_no_space}
use Rattle.html_encodings.specs.declared.encoding.Encoding.{Encoding}
use Rattle.html_encodings.specs.declared.encoding.Encoding.TheVariants.{Utf8, Utf16Be, Utf16Le, UserDefined, Windows1252}
use Rattle.html_encodings.specs.Labels.{labels}
use Rattle.html_encodings.specs.Words.{is_word, is_spaced_word, past_sign, up_to_byte, is_in_label}

-- the first word of several
abbrev pub first_word : List ℕ → List ℕ
first_word words = before words (past is_no_space words)

-- The text is one of these words, in any case and with any space bytes at its ends. Each is before a space, and where
-- a word `begins`, it is the first one.
unfoldable pub is_listed_from : (begins : Bool) (words text : List ℕ) → Bool
is_listed_from begins [] text = false
is_listed_from begins (b ∷ words) text =
    if begins && is_spaced_word (first_word (b ∷ words)) text then true
    else is_listed_from (b == space) words text

-- the encoding of the first row that has the text among its labels
abbrev pub encoding_in : (text : List ℕ) → List (List ℕ × Encoding) → Option Encoding
encoding_in text [] = None
encoding_in text (row ∷ rows) =
    if is_listed_from true row.0 text then Some row.1 else encoding_in text rows

-- The encoding of a label, in any case and with any space bytes at its ends, if it is one.
abbrev pub encoding_of_label : List ℕ → Option Encoding
encoding_of_label text = encoding_in text labels

-- ---- what the content of a `meta` says (2.4.4)

-- the rest after a `=` that may follow spaces
abbrev pub past_spaced_sign : List ℕ → Option (List ℕ)
past_spaced_sign text = past_sign (past is_space text)

-- the rest after the word `charset`, in any case, and a `=`, if the text begins with them
abbrev pub charset_at : List ℕ → Option (List ℕ)
charset_at text = option_and_then past_spaced_sign (past_letters (codes "charset") text)

-- the rest after the first word `charset` that a `=` follows
unfoldable pub past_charset : List ℕ → Option (List ℕ)
past_charset [] = None
past_charset (b ∷ text) = option_or (charset_at (b ∷ text)) (past_charset text)

-- The label that begins here. One in quotes must be closed; another one ends at a space or a semicolon.
abbrev pub label_at : List ℕ → Option (List ℕ)
label_at [] = None
label_at (b ∷ text) =
    if is_quote b then up_to_byte b text
    else Some (before (b ∷ text) (past is_in_label (b ∷ text)))

-- the label after a `=` that spaces may follow
abbrev pub label_after : List ℕ → Option (List ℕ)
label_after text = label_at (past is_space text)

-- the encoding that a content names
abbrev pub encoding_in_content : List ℕ → Option Encoding
encoding_in_content text =
    option_and_then encoding_of_label (option_and_then label_after (past_charset text))

-- ---- what a `meta` says (13.2.3.2)

-- the value of an attribute, if it has this name, in any case; the name is in lower case
abbrev pub value_named : (name : List ℕ) → PlacedAttribute → Option (List ℕ)
value_named name attribute =
    if is_word name (name_of attribute) then Some (value_of attribute) else None

-- the value of the first attribute of this name
unfoldable pub value_in : (name : List ℕ) → List PlacedAttribute → Option (List ℕ)
value_in name [] = None
value_in name (attribute ∷ more) = option_or (value_named name attribute) (value_in name more)

-- a page that names UTF-16 in a way that can be read without it is in UTF-8
abbrev pub readable : Encoding → Encoding
readable Utf16Be = Utf8
readable Utf16Le = Utf8
readable other = other

-- the same, and one that names x-user-defined is in windows-1252
abbrev pub named_by_meta : Encoding → Encoding
named_by_meta UserDefined = Windows1252
named_by_meta other = readable other

-- an attribute `http-equiv` says that the content is a type
abbrev pub is_type : Option (List ℕ) → Bool
is_type None = false
is_type (Some value) = is_word (codes "content-type") value

-- the encoding that the content names
abbrev pub encoding_of_content : Option (List ℕ) → Option Encoding
encoding_of_content content = option_and_then encoding_in_content content

-- The label of a `charset` counts, and without one the content of a `meta` that is for the type.
abbrev pub encoding_by : (charset equivalent content : Option (List ℕ)) → Option Encoding
encoding_by None equivalent content =
    if is_type equivalent then encoding_of_content content else None
encoding_by (Some label) equivalent content = encoding_of_label label

-- the encoding that a `meta` with these attributes names
abbrev pub encoding_of_attributes : List PlacedAttribute → Option Encoding
encoding_of_attributes all =
    option_map named_by_meta (encoding_by (value_in (codes "charset") all)
    (value_in (codes "http-equiv") all) (value_in (codes "content") all))

-- the encoding that a `meta` names, from its name's end on
abbrev pub encoding_of_meta : List ℕ → Option Encoding
encoding_of_meta text = encoding_of_attributes (attributes text)
