-- The attributes of a start tag, by their names.
use Rattle.std.specs.Prelude.{ℕ, Bool, true, false, not, ◌==◌, if◌then◌else◌, List, [], ◌∷◌, codes, Option, Some, None}
use Rattle.std.specs.Char.{to_ascii_lowercase}
use Rattle.css_text.specs.AsciiBytes.{colon}
use Rattle.css_text.specs.Bytes.{past}
use Rattle.css_text.specs.Reading.{before}
use Rattle.css_html.specs.Attributes.{PlacedAttribute, name_of, value_of}
use Rattle.css_html.specs.Tokens.{PlacedToken}
use Rattle.css_html.specs.Decoding as html
use Rattle.css_html.specs.declared.decoding.TextKind.{TextKind}
use Rattle.css_html.specs.declared.decoding.TextKind.TheVariants.{Value}
use Rattle.css_xml.specs.References as xml
use Rattle.html_edits.specs.declared.edits.Language.{Language}
use Rattle.html_edits.specs.declared.edits.Language.TheVariants.{Html, Xml}

-- a byte as names are compared: in HTML a letter in any case, in XML as it is
abbrev pub compared : Language → ℕ → ℕ
compared Html b = to_ascii_lowercase b
compared Xml b = b

-- the same name: in HTML with letters in any case
abbrev pub same_name : Language → (one other : List ℕ) → Bool
same_name language [] [] = true
same_name language [] (c ∷ other) = false
same_name language (b ∷ one) [] = false
same_name language (b ∷ one) (c ∷ other) =
    if compared language b == compared language c then same_name language one other else false

-- the first attribute with a name
abbrev pub first_named : Language → (name : List ℕ) → List PlacedAttribute → Option PlacedAttribute
first_named language name [] = None
first_named language name (a ∷ more) =
    if same_name language name (name_of a) then Some a else first_named language name more

-- what a text stands for
abbrev pub decoded_in : Language → TextKind → List ℕ → List ℕ
decoded_in Html kind text = html.decoded kind text
decoded_in Xml kind text = xml.decoded kind text

-- what the value of an attribute stands for
abbrev pub said_by : Language → Option PlacedAttribute → Option (List ℕ)
said_by language None = None
said_by language (Some a) = Some (decoded_in language Value (value_of a))

-- The value that an element has of an attribute: of several of one name the first counts.
abbrev pub value_in : Language → (name : List ℕ) → List PlacedAttribute → Option (List ℕ)
value_in language name attributes = said_by language (first_named language name attributes)

-- the name of a tag, as written
abbrev pub tag_name : PlacedToken → List ℕ
tag_name t = before t.inside t.inside_end

-- not `:`
abbrev pub is_in_prefix : ℕ → Bool
is_in_prefix b = not (b == colon)

-- what follows the colon of a name, if it has one
abbrev pub local_after : (name from_colon : List ℕ) → List ℕ
local_after name [] = name
local_after name (b ∷ local) = local

-- the name of a kind of elements: in XML without a prefix
abbrev pub local_name : Language → (name : List ℕ) → List ℕ
local_name Html name = name
local_name Xml name = local_after name (past is_in_prefix name)

-- the tag is that of a `style`, in XML with any prefix
abbrev pub is_style_tag : Language → PlacedToken → Bool
is_style_tag language t = same_name language (codes "style") (local_name language (tag_name t))

-- the tag is that of a `link`, in XML with any prefix
abbrev pub is_link_tag : Language → PlacedToken → Bool
is_link_tag language t = same_name language (codes "link") (local_name language (tag_name t))
