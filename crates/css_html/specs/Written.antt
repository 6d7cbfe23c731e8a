-- How an attribute is written, and what its value stands for.
use Rattle.std.specs.Prelude.{◌≡◌, ℕ, ◌<◌, Bool, true, false, not, ◌==◌, if◌then◌else◌, List, [], ◌∷◌, ◌++◌, length, codes, Some}
use Rattle.std.specs.List.{list_all}
use Rattle.css_text.specs.Bytes.{starts_by}
use Rattle.css_html.specs.Marks.{is_in_name, is_in_attribute_name, from_end_tag, begins_end_named}
use Rattle.css_html.specs.Attributes.{PlacedAttribute, next_attribute, attributes, name_of, value_of}
use Rattle.css_html.specs.Tokens.{PlacedToken, tag_from}
use Rattle.css_html.specs.declared.tokenizer.TokenKind.{TokenKind}
use Rattle.css_html.specs.declared.modes.RawName.{RawName}
use Rattle.css_html.specs.Modes.{letters_of}
use Rattle.css_html.specs.Decoding.{ampersand, decoded}
use Rattle.css_html.specs.declared.decoding.TextKind.TheVariants.{Value}
use Rattle.css_text.specs.AsciiBytes.{double_quote, equals_sign, space, carriage_return}

-- a byte as it is written in a value between double quotes
abbrev pub escaped_byte : ℕ → List ℕ
escaped_byte b =
    if b == ampersand then codes "&amp;"
    else (if b == double_quote then codes "&quot;"
    else (if b == carriage_return then codes "&#13;" else b ∷ []))

-- a value as it is written between double quotes
abbrev pub escaped_value : List ℕ → List ℕ
escaped_value [] = []
escaped_value (b ∷ value) = escaped_byte b ++ escaped_value value

-- an attribute as it is written after a tag's name or another attribute
abbrev pub written : (name value : List ℕ) → List ℕ
written name value =
    space ∷ name ++ (equals_sign ∷ double_quote ∷ escaped_value value ++ double_quote ∷ [])

-- not U+0000, which no value has
abbrev pub is_no_nul : ℕ → Bool
is_no_nul b = not (b == 0)

-- ---- the laws

-- a name that an attribute may be given
pub record IsAttributeName (name : List ℕ) : Type 0 where
  pub has_byte : 0 < length name
  pub plain : list_all is_in_attribute_name name ≡ true

-- An attribute that is written is read back where an attribute may begin, whatever follows: its name, its
-- value, and the rest.
pub record ReadsBack (name value rest : List ℕ) (a : PlacedAttribute) : Type 0 where
  pub found : next_attribute (written name value ++ rest) ≡ Some (a, rest)
  pub named : name_of a ≡ name
  pub raw : value_of a ≡ escaped_value value
  pub stands_for : list_all is_no_nul value ≡ true → decoded Value (value_of a) ≡ value

-- each attribute is read back
abbrev pub WrittenReadsBack : Type 0
WrittenReadsBack = (name value rest : List ℕ) → IsAttributeName name
    → (a : PlacedAttribute) × ReadsBack name value rest a

-- the same kind, and the same rest
pub record IsSameEnd (one other : PlacedToken) : Type 0 where
  pub kind : one.kind ≡ other.kind
  pub rest : one.rest ≡ other.rest

-- An attribute put in after the name of a tag changes no more than the attributes of that tag, whose
-- first it is.
pub record PutsFirst (kind : TokenKind) (tag name value tail : List ℕ) (a : PlacedAttribute) : Type 0
  where
    pub before_it : (from : List ℕ)
        → (tag_from kind from (tag ++ (written name value ++ tail))).inside_end ≡ written name value ++ tail
    pub list : attributes (written name value ++ tail) ≡ a ∷ attributes tail
    pub kind_and_rest : (from other : List ℕ)
        → IsSameEnd (tag_from kind from (tag ++ (written name value ++ tail))) (tag_from kind other (tag ++ tail))

-- each attribute that is put in changes no more
abbrev pub PuttingInChangesNoMore : Type 0
PuttingInChangesNoMore = (kind : TokenKind) (tag name value tail : List ℕ) → list_all is_in_name tag ≡ true
    → starts_by is_in_name tail ≡ false → IsAttributeName name
    → (a : PlacedAttribute) × ReadsBack name value tail a × PutsFirst kind tag name value tail a

-- no end tag of the element begins in the text
abbrev pub HasNoEnd : (letters text : List ℕ) → Type 0
HasNoEnd letters text = from_end_tag letters text ≡ []

-- A text without an end tag of the element, put before one, is all that is before it.
abbrev pub RawTextIsItself : Type 0
RawTextIsItself = (name : RawName) (text end : List ℕ) → HasNoEnd (letters_of name) text
    → begins_end_named (letters_of name) end ≡ true → from_end_tag (letters_of name) (text ++ end) ≡ end
