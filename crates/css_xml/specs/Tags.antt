-- Which tags and texts are well-formed (XML 1.0, sections 2.4 and 3.1).
use Rattle.std.specs.Prelude.{ℕ, Bool, true, false, not, ◌&&◌, ◌==◌, nat_lt, if◌then◌else◌, List, [], ◌∷◌, length}
use Rattle.std.specs.Option.{is_some}
use Rattle.css_text.specs.AsciiBytes.{slash, greater_than_sign, close_bracket}
use Rattle.css_text.specs.Reading.{before}
use Rattle.css_text.specs.Bytes.{starts_two}
use Rattle.css_html.specs.Attributes.{PlacedAttribute, attributes, name_of, value_of}
use Rattle.css_html.specs.Decoding.{ampersand}
use Rattle.css_html.specs.Marks.{less_than_sign}
use Rattle.css_html.specs.Tokens.{PlacedToken}
use Rattle.css_xml.specs.Characters.{is_blank, is_name, are_blank}
use Rattle.css_xml.specs.References.{reference}
use Rattle.css_xml.specs.Tokens.{tag_name, is_empty_tag}

-- what parts a tag's name and attributes: white space
abbrev pub is_gap : List ℕ → Bool
is_gap [] = false
is_gap (b ∷ text) = are_blank (b ∷ text)

-- `>` or `/>`
abbrev pub is_close : List ℕ → Bool
is_close [] = false
is_close (b ∷ []) = b == greater_than_sign
is_close (b ∷ c ∷ []) = b == slash && c == greater_than_sign
is_close (b ∷ c ∷ d ∷ text) = false

-- `>` or `/>`, after white space or none
unfoldable pub is_tail : List ℕ → Bool
is_tail [] = false
is_tail (b ∷ text) = if is_blank b then is_tail text else is_close (b ∷ text)

-- What begins with this byte may not be there: a `&` that begins no reference, `<` in a value, `]]>` in a text.
abbrev pub is_wrong : (in_value : Bool) → ℕ → List ℕ → Bool
is_wrong in_value b text =
    if b == ampersand then not (is_some (reference text))
    else (if in_value then b == less_than_sign
    else b == close_bracket && starts_two close_bracket greater_than_sign text)

-- a value or a text has references and characters alone (productions 10 and 14)
unfoldable pub is_said : (in_value : Bool) → List ℕ → Bool
is_said in_value [] = true
is_said in_value (b ∷ text) = if is_wrong in_value b text then false else is_said in_value text

-- the value of an attribute is in quotes
abbrev pub is_quoted : PlacedAttribute → Bool
is_quoted a = nat_lt (length a.rest) (length a.value_end)

-- an attribute is well-formed, after white space from this place on (production 41)
abbrev pub is_whole : (last : List ℕ) → PlacedAttribute → Bool
is_whole last a =
    is_gap (before last a.from)
    && (is_quoted a && (is_name (name_of a) && is_said true (value_of a)))

-- these attributes are well-formed from a place on, and then the tag ends
abbrev pub are_parted : (last : List ℕ) → List PlacedAttribute → (end : List ℕ) → Bool
are_parted last [] end = is_tail (before last end)
are_parted last (a ∷ more) end = if is_whole last a then are_parted a.rest more end else false

-- a start tag is well-formed (productions 40 and 44)
abbrev pub is_start_tag : PlacedToken → Bool
is_start_tag t = is_name (tag_name t) && are_parted t.inside_end (attributes t.inside_end) t.rest

-- an end tag is well-formed (production 42)
abbrev pub is_end_tag : PlacedToken → Bool
is_end_tag t = is_name (tag_name t) && (is_tail (before t.inside_end t.rest) && not (is_empty_tag t))
