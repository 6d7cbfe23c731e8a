-- What an edit writes, and where.
use Rattle.std.specs.Prelude.{◌≡◌, ℕ, ◌+◌, ◌-◌, ◌==◌, Bool, true, false, List, [], ◌∷◌, ◌++◌, length, Option, None, Some, if◌then◌else◌, nat_eq, codes, drop, slice_get, slice_range, ◌⊎◌}
use Rattle.std.specs.List.{starts_with}
use Rattle.css_text.specs.Reading.{before}
use Rattle.css_html.specs.Tokens.{PlacedToken, next_token}
use Rattle.css_html.specs.Views.{token_of}
use Rattle.css_html.specs.Modes.{letters_of}
use Rattle.css_html.specs.Written.{HasNoEnd}
use Rattle.css_html.specs.Locality.{style_element}
use Rattle.css_html.specs.declared.modes.Mode.TheVariants.{Raw}
use Rattle.css_html.specs.declared.modes.RawName.TheVariants.{Style}
use Rattle.css_html.specs.declared.tokenizer.Token.{Token}
use Rattle.css_html.specs.declared.tokenizer.TokenKind.{TokenKind}
use Rattle.css_html.specs.declared.tokenizer.TokenKind.TheVariants as kinds
use Rattle.css_html.specs.declared.tokenizer.TokenKind.TheVariants.{StartTag, EndTag, Comment, Doctype, Cdata, Nothing, Cut}
use Rattle.css_html.specs.declared.decoding.TextKind.TheVariants as texts
use Rattle.css_text.specs.Bytes.{past}
use Rattle.css_xml.specs.References.{decoded}
use Rattle.css_xml.specs.Tokens as xml
use Rattle.html_edits.specs.Attributes.{is_style_tag, is_link_tag, is_in_prefix, tag_name}
use Rattle.html_edits.specs.Changing.{IsChanged}
use Rattle.html_edits.specs.declared.edits.Edit.{Edit}
use Rattle.html_edits.specs.declared.edits.Edit.TheVariants.{Tag, Text, PutIn, TakeOut, Replace, TakeOutInstruction}
use Rattle.html_edits.specs.declared.edits.Language.{Language}
use Rattle.html_edits.specs.declared.edits.Language.TheVariants.{Html, Xml}
use Rattle.html_edits.specs.declared.splicing.Splice.{Splice}

-- the kind is that of texts
abbrev pub is_text : TokenKind → Bool
is_text kinds.Text = true
is_text StartTag = false
is_text EndTag = false
is_text Comment = false
is_text Doctype = false
is_text Cdata = false
is_text Nothing = false
is_text Cut = false

-- the rest after a token, if that is a text
abbrev pub after_text : (text : List ℕ) → Option (PlacedToken × List ℕ) → List ℕ
after_text text None = text
after_text text (Some x) = if is_text x.0.kind then x.1 else text

-- what is left of a text after what is read of it as the text of a `style`
abbrev pub from_style_end : List ℕ → List ℕ
from_style_end text = after_text text (next_token (Raw Style) text)

-- all of a text of XML is read as one text
pub record IsOneText (text : List ℕ) : Type 0 where
  pub token : PlacedToken
  pub whole : xml.next_token text ≡ Some (token, [])
  pub kind : token.kind ≡ kinds.Text

-- the same, if there is any
abbrev pub IsPlain : List ℕ → Type 0
IsPlain text = (text ≡ []) ⊎ IsOneText text

-- A text of XML has no markup. It says what another one says without references: that one, with its ends of
-- lines as XML reads them.
pub record IsXmlText (text written : List ℕ) : Type 0 where
  pub plain : IsPlain written
  pub says : decoded texts.Text written ≡ decoded texts.Raw text

-- What is written of a text in a `style` element. In HTML it is the text, which does not end the element. In XML
-- it is a text that says it.
abbrev pub IsStyleText : Language → (text written : List ℕ) → Type 0
IsStyleText Html text written = (written ≡ text) × HasNoEnd (letters_of Style) text
IsStyleText Xml text written = IsXmlText text written

-- a text is one end tag of a `style`
pub record IsStyleEnd (text : List ℕ) : Type 0 where
  pub end : PlacedToken
  pub whole : next_token (Raw Style) text ≡ Some (end, [])
  pub kind : end.kind ≡ EndTag

-- texts, CDATA sections, comments and instructions
abbrev pub is_content : TokenKind → Bool
is_content kinds.Text = true
is_content Cdata = true
is_content Comment = true
is_content StartTag = false
is_content EndTag = false
is_content Doctype = false
is_content Nothing = false
is_content Cut = false

-- a text is read as content
pub data IsContent : List ℕ → Type 0 where
  no_content : IsContent []
  one_more_content : (text : List ℕ) (t : PlacedToken) → xml.next_token text ≡ Some (t, t.rest)
      → is_content t.kind ≡ true → IsContent t.rest → IsContent text

-- A text is the content of an element that has no elements, and an end tag with its name.
pub data EndsElement (name : List ℕ) : List ℕ → Type 0 where
  ends : (text : List ℕ) (end : PlacedToken) → xml.next_token text ≡ Some (end, [])
      → end.kind ≡ EndTag → tag_name end ≡ name → EndsElement name text
  has_content : (text : List ℕ) (t : PlacedToken) → xml.next_token text ≡ Some (t, t.rest)
      → is_content t.kind ≡ true → EndsElement name t.rest → EndsElement name text

-- What comes between the tag of a sheet of XML and the end of its element: nothing, if it has no content, or
-- its content and its end tag.
abbrev pub EndsXmlSheet : PlacedToken → (between : List ℕ) → Type 0
EndsXmlSheet t between =
    ((xml.is_empty_tag t ≡ true) × (between ≡ [])) ⊎ EndsElement (tag_name t) between

-- What comes between the tag of a sheet and its end: after a `style` a text and its end tag, after a `link`
-- nothing.
abbrev pub EndsSheet : Language → PlacedToken → (between : List ℕ) → Type 0
EndsSheet Html t between =
    ((is_style_tag Html t ≡ true) × IsStyleEnd (from_style_end between))
    ⊎ ((is_link_tag Html t ≡ true) × (between ≡ []))
EndsSheet Xml t between =
    ((is_style_tag Xml t ≡ true) ⊎ (is_link_tag Xml t ≡ true)) × EndsXmlSheet t between

-- where a tag begins
abbrev pub tag_start : (page : List ℕ) → Token → ℕ
tag_start page t = length page - length t.from.now

-- where a tag ends
abbrev pub tag_end : (page : List ℕ) → Token → ℕ
tag_end page t = length page - length t.rest.now

-- a change is made of this tag, which takes its place
pub record IsTagSplice (page : List ℕ) (t : Token) (s : Splice) : Type 0 where
  pub from : s.from ≡ tag_start page t
  pub to : s.to ≡ tag_end page t

-- What comes between the tag of a `style` of XML and the end of its text: its content, before an end tag.
pub record EndsXmlText (t : PlacedToken) (between rest : List ℕ) : Type 0 where
  pub has_end : xml.is_empty_tag t ≡ false
  pub content : IsContent between
  pub before_end : starts_with nat_eq rest (codes "</") ≡ true

-- the same in XML; in HTML anything, since the page is read again
abbrev pub EndsText : Language → PlacedToken → (between rest : List ℕ) → Type 0
EndsText Html t between rest = Unit {0}
EndsText Xml t between rest = EndsXmlText t between rest

-- A text takes the place of one that is in a `style`, from the end of its tag up to a place.
pub record IsTextSplice (language : Language) (page : List ℕ) (t : Token) (end : ℕ) (new : List ℕ) (s : Splice)
    : Type 0 where
  pub style : is_style_tag language (token_of t) ≡ true
  pub from : s.from ≡ tag_end page t
  pub to : s.to ≡ end
  pub ends : EndsText language (token_of t) (slice_range page (tag_end page t) end) (drop end page)
  pub is : IsStyleText language new s.text.items

-- A text takes the place of a sheet's element, from the start of its tag up to a place.
pub record IsSheetSplice (language : Language) (page : List ℕ) (t : Token) (end : ℕ) (s : Splice) : Type 0 where
  pub from : s.from ≡ tag_start page t
  pub to : s.to ≡ end
  pub ends : EndsSheet language (token_of t) (slice_range page (tag_end page t) end)

-- the name of a `style` with a prefix, or without one
abbrev pub style_name : (prefix : List ℕ) → List ℕ
style_name [] = codes "style"
style_name (b ∷ prefix) = (b ∷ prefix) ++ codes ":style"

-- what follows the start tag of an element with this name and content
abbrev pub after_tag : (name inside : List ℕ) → List ℕ
after_tag name inside = inside ++ (codes "</" ++ (name ++ codes ">"))

-- A text of XML is read as a start tag with this name, and this is left.
pub record BeginsNamed (name rest text : List ℕ) : Type 0 where
  pub tag : PlacedToken
  pub read : xml.next_token text ≡ Some (tag, rest)
  pub kind : tag.kind ≡ StartTag
  pub named : tag_name tag ≡ name

-- An element of XML has this name and content, and its tag is read so.
pub record IsXmlElement (name inside element : List ℕ) : Type 0 where
  pub written : element ≡ codes "<" ++ (name ++ (codes ">" ++ after_tag name inside))
  pub read : BeginsNamed name (after_tag name inside) element

-- A `style` element with this content is put in, in XML with this prefix.
abbrev pub IsElementText : Language → (prefix inside element : List ℕ) → Type 0
IsElementText Html prefix inside element = (prefix ≡ []) × (element ≡ style_element inside)
IsElementText Xml prefix inside element = IsXmlElement (style_name prefix) inside element

-- A `style` element with this text is put in.
pub record IsElement (language : Language) (prefix text : List ℕ) (s : Splice) : Type 0 where
  pub inside : List ℕ
  pub is : IsStyleText language text inside
  pub element : IsElementText language prefix inside s.text.items

-- what is before the colon of a name, if it has one
abbrev pub prefix_before : (name from_colon : List ℕ) → List ℕ
prefix_before name [] = []
prefix_before name (b ∷ local) = before name (b ∷ local)

-- the prefix of a name: in HTML none
abbrev pub prefix_of : Language → (name : List ℕ) → List ℕ
prefix_of Html name = []
prefix_of Xml name = prefix_before name (past is_in_prefix name)

-- an instruction of XML that names a sheet
pub record IsSheetInstruction (language : Language) (text : List ℕ) : Type 0 where
  pub in_xml : language ≡ Xml
  pub instruction : PlacedToken
  pub whole : xml.next_token text ≡ Some (instruction, [])
  pub kind : instruction.kind ≡ Comment
  pub names_sheet : starts_with nat_eq text (codes "<?xml-stylesheet") ≡ true

-- what an edit of a page with these start tags writes, and where
abbrev pub IsSplice : Language → (page : List ℕ) → List Token → Edit → Splice → Type 0
IsSplice language page tags (Tag k changes) s =
    (t : Token) × (slice_get tags k ≡ Some t) × IsTagSplice page t s
    × IsChanged language (token_of t) changes.now s.text.items
IsSplice language page tags (Text k to text) s =
    (t : Token) × (slice_get tags k ≡ Some t) × IsTextSplice language page t to text.now s
IsSplice language page tags (PutIn at prefix text) s =
    (s.from ≡ at) × (s.to ≡ at) × IsElement language prefix.now text.now s
IsSplice language page tags (TakeOut k to) s =
    (t : Token) × (slice_get tags k ≡ Some t) × IsSheetSplice language page t to s × (s.text.items ≡ [])
IsSplice language page tags (Replace k to text) s =
    (t : Token) × (slice_get tags k ≡ Some t) × IsSheetSplice language page t to s
    × IsElement language (prefix_of language (tag_name (token_of t))) text.now s
IsSplice language page tags (TakeOutInstruction from to) s =
    (s.from ≡ from) × (s.to ≡ to) × IsSheetInstruction language (slice_range page from to)
    × (s.text.items ≡ [])

-- what each edit writes, in order
pub data AreSplices (language : Language) (page : List ℕ) (tags : List Token) : List Edit → List Splice → Type 0
  where
    no_splices : AreSplices language page tags [] []
    one_more : (edits : List Edit) (splices : List Splice) (e : Edit) (s : Splice)
        → AreSplices language page tags edits splices → IsSplice language page tags e s
        → AreSplices language page tags (edits ++ e ∷ []) (splices ++ s ∷ [])

-- the edit puts in an element
abbrev pub puts_in : Edit → Bool
puts_in (Tag k changes) = false
puts_in (Text k to text) = false
puts_in (PutIn at prefix text) = true
puts_in (TakeOut k to) = false
puts_in (Replace k to text) = true
puts_in (TakeOutInstruction from to) = false

-- a place and others, if the edit puts in an element
abbrev pub with_place : Edit → (place : ℕ) → List ℕ → List ℕ
with_place e place more = if puts_in e then place ∷ more else more

-- Where in the text elements are put in by edits from a place of the page on, after so many bytes of the text.
abbrev pub put_places : (size last : ℕ) → List Edit → List Splice → List ℕ
put_places size last [] splices = []
put_places size last (e ∷ edits) [] = []
put_places size last (e ∷ edits) (s ∷ splices) =
    with_place e (size + (s.from - last))
    (put_places (size + (s.from - last) + length s.text.items) s.to edits splices)

-- A start tag begins at each of these places, in order.
abbrev pub begin_tags : (page : List ℕ) → (places : List ℕ) → List Token → Bool
begin_tags page [] tags = true
begin_tags page (place ∷ places) [] = false
begin_tags page (place ∷ places) (t ∷ tags) =
    if place == tag_start page t then begin_tags page places tags
    else begin_tags page (place ∷ places) tags
