-- When a start tag is another one with changes of its attributes.
use Rattle.std.specs.Prelude.{◌≡◌, ℕ, Bool, true, false, if◌then◌else◌, List, [], ◌∷◌, ◌++◌, Option, Some, None}
use Rattle.css_html.specs.Attributes.{PlacedAttribute, attributes, name_of, value_of}
use Rattle.css_html.specs.Tokens.{PlacedToken, next_token}
use Rattle.css_html.specs.declared.modes.Mode.TheVariants.{Data}
use Rattle.css_html.specs.declared.tokenizer.TokenKind.TheVariants.{StartTag}
use Rattle.html_edits.specs.Attributes.{same_name, value_in, tag_name}
use Rattle.css_xml.specs.Tokens as xml
use Rattle.html_edits.specs.declared.edits.Change.{Change}
use Rattle.html_edits.specs.declared.edits.Language.{Language}
use Rattle.html_edits.specs.declared.edits.Language.TheVariants.{Html, Xml}
use Rattle.html_edits.specs.declared.edits.NewValue.{NewValue}
use Rattle.html_edits.specs.declared.edits.NewValue.TheVariants.{Set, Before, Removed}

-- one of the changes is of the attribute with this name
abbrev pub is_changed : Language → List Change → (name : List ℕ) → Bool
is_changed language [] name = false
is_changed language (c ∷ changes) name =
    if same_name language c.name.now name then true else is_changed language changes name

-- the attributes that the changes are not of
abbrev pub others : Language → List Change → List PlacedAttribute → List PlacedAttribute
others language changes [] = []
others language changes (a ∷ more) =
    if is_changed language changes (name_of a) then others language changes more
    else a ∷ others language changes more

-- an attribute as it is written: its name, and its value
abbrev pub name_and_value : PlacedAttribute → List ℕ × List ℕ
name_and_value a = (name_of a, value_of a)

-- the same of each of some attributes
abbrev pub names_and_values : List PlacedAttribute → List (List ℕ × List ℕ)
names_and_values [] = []
names_and_values (a ∷ more) = name_and_value a ∷ names_and_values more

-- the value after one that may be there
abbrev pub and_own : (value : List ℕ) → Option (List ℕ) → List ℕ
and_own value None = value
and_own value (Some own) = value ++ own

-- what becomes of the value of an attribute, which may be there
abbrev pub new_value : NewValue → Option (List ℕ) → Option (List ℕ)
new_value (Set value) own = Some value.now
new_value (Before value) own = Some (and_own value.now own)
new_value Removed own = None

-- Each attribute that changes has the value that it gets, and none if it is removed.
abbrev pub AreMade : Language → List Change → (old new : List PlacedAttribute) → Type 0
AreMade language [] old new = Unit {0}
AreMade language (c ∷ changes) old new =
    (value_in language c.name.now new ≡ new_value c.value (value_in language c.name.now old))
    × AreMade language changes old new

-- A start tag has the same name as another one. Attributes that change have exactly their new values, and all
-- others are written as they were, in order.
pub record IsNewTag (language : Language) (tag : PlacedToken) (changes : List Change) (new : PlacedToken)
    : Type 0 where
  pub name : tag_name new ≡ tag_name tag
  pub same : names_and_values (others language changes (attributes new.inside_end))
      ≡ names_and_values (others language changes (attributes tag.inside_end))
  pub made : AreMade language changes (attributes tag.inside_end) (attributes new.inside_end)

-- what is read of a text that begins with markup, and the rest
abbrev pub token_in : Language → List ℕ → Option (PlacedToken × List ℕ)
token_in Html text = next_token Data text
token_in Xml text = xml.next_token text

-- A text is one start tag, which is another one with changes.
pub record IsChanged (language : Language) (tag : PlacedToken) (changes : List Change) (text : List ℕ) : Type 0
  where
    pub new : PlacedToken
    pub whole : token_in language text ≡ Some (new, [])
    pub kind : new.kind ≡ StartTag
    pub tags : IsNewTag language tag changes new
