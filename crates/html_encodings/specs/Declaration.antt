-- The encoding that an XML declaration names (HTML Standard, section 13.2.3.2, "get an XML encoding").
use Rattle.std.specs.Prelude.{ℕ, Bool, true, false, if◌then◌else◌, List, [], ◌∷◌, codes, nat_eq, drop, Option, Some, None, option_map, option_and_then}
use Rattle.std.specs.List.{starts_with}
use Rattle.css_text.specs.AsciiBytes.{greater_than_sign}
use Rattle.css_text.specs.Bytes.{past}
use Rattle.css_text.specs.Strings.{is_quote}
use Rattle.html_encodings.specs.declared.encoding.Encoding.{Encoding}
use Rattle.html_encodings.specs.declared.encoding.Encoding.TheVariants.{Utf16Be, Utf16Le}
use Rattle.html_encodings.specs.Finding.{encoding_of_label, readable}
use Rattle.html_encodings.specs.Words.{past_sign, up_to_byte, is_control}

-- the rest after the first word `encoding`
unfoldable pub past_encoding : List ℕ → Option (List ℕ)
past_encoding [] = None
past_encoding (b ∷ text) =
    if starts_with nat_eq (b ∷ text) (codes "encoding") then Some (drop 8 (b ∷ text)) else past_encoding text

-- a label in quotes, if one begins here
abbrev pub quoted_label : List ℕ → Option (List ℕ)
quoted_label [] = None
quoted_label (b ∷ text) = if is_quote b then up_to_byte b text else None

-- the label after a `=`, with any space bytes and controls around that
abbrev pub declared_label : List ℕ → Option (List ℕ)
declared_label text =
    option_and_then (λ value. quoted_label (past is_control value)) (past_sign (past is_control text))

-- every byte is above those of controls and spaces
abbrev pub is_visible : List ℕ → Bool
is_visible [] = true
is_visible (b ∷ text) = if is_control b then false else is_visible text

-- the encoding of a label without controls and spaces
abbrev pub encoding_of_visible : List ℕ → Option Encoding
encoding_of_visible label = if is_visible label then encoding_of_label label else None

-- the encoding that a declaration names, without its `>`
abbrev pub encoding_in_declaration : List ℕ → Option Encoding
encoding_in_declaration text =
    option_map readable (option_and_then encoding_of_visible
    (option_and_then declared_label (past_encoding text)))

-- the encoding that an XML declaration at the start names
abbrev pub declared_encoding : List ℕ → Option Encoding
declared_encoding text =
    if starts_with nat_eq text (codes "<?xml")
    then option_and_then encoding_in_declaration (up_to_byte greater_than_sign text) else None

-- the text begins with these bytes
abbrev pub begins : (front text : List ℕ) → Bool
begins front text = starts_with nat_eq text front

-- UTF-16, if the front of an XML declaration in it is at the start
abbrev pub wide_declaration : List ℕ → Option Encoding
wide_declaration text =
    if begins (0x3C ∷ 0 ∷ 0x3F ∷ 0 ∷ 0x78 ∷ 0 ∷ []) text then Some Utf16Le
    else (if begins (0 ∷ 0x3C ∷ 0 ∷ 0x3F ∷ 0 ∷ 0x78 ∷ []) text then Some Utf16Be else None)
