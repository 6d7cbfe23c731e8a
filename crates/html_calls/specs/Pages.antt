-- What is written of a page.
use Rattle.std.specs.Prelude.{◌≡◌, ℕ, ◌-◌, ◌&&◌, List, [], ◌∷◌, ◌++◌, map, length, drop, if◌then◌else◌, None}
use Rattle.std.specs.List.{flat_map}
use Rattle.css_text.specs.Bytes.{starts, starts_two}
use Rattle.css_html.specs.Tokens.{PlacedToken}
use Rattle.css_html.specs.Views.{token_of}
use Rattle.css_html.specs.declared.tokenizer.Token.{Token}
use Rattle.css_html_tree.specs.declared.page.Row.{Row}
use Rattle.css_xml.specs.Documents.{IsDocument}
use Rattle.html_edits.specs.Editing.{IsRead}
use Rattle.html_edits.specs.declared.edits.Language.TheVariants.{Html}
use Rattle.page_sheets.specs.Page.{nodes_from}
use Rattle.page_sheets.specs.Sheets.{numbers_of}

-- where a tag begins and ends in a page of this length
abbrev pub tag_place : ℕ → PlacedToken → List ℕ
tag_place size tag = (size - length tag.from) ∷ (size - length tag.rest) ∷ []

-- the same of each of some tags
abbrev pub tag_places : ℕ → List PlacedToken → List ℕ
tag_places size tags = flat_map (tag_place size) tags

-- how many tags there are, and where each is
abbrev pub tags_front : ℕ → List PlacedToken → List ℕ
tags_front size tags = length tags ∷ tag_places size tags

-- the numbers begin with these
abbrev pub IsFront : (front numbers : List ℕ) → Type 0
IsFront front numbers = (more : List ℕ) × (numbers ≡ front ++ more)

-- the numbers end with these
abbrev pub HasEnd : (last numbers : List ℕ) → Type 0
HasEnd last numbers = (before : List ℕ) × (numbers ≡ before ++ last)

-- the numbers begin with the first ones, and end with the last
abbrev pub HasEnds : (first last numbers : List ℕ) → Type 0
HasEnds first last numbers = (rest : List ℕ) × (numbers ≡ first ++ rest) × HasEnd last rest

-- the text without a mark of the order of bytes (U+FEFF) at its front
abbrev pub past_mark : List ℕ → List ℕ
past_mark text =
    if starts_two 239 187 text && starts 191 (drop 2 text) then drop 3 text else text

-- What is written of a page in this many bytes begins with how many start tags it has, and where each of those
-- that were read of it is. It ends with the number of the tag of its `base`, how many sheets it names, and two numbers
-- of each.
abbrev pub ArePageNumbers : (size : ℕ) → (page : List ℕ) → List ℕ → Type 0
ArePageNumbers size page numbers =
    (tags : List Token) × (rows : List Row) × IsRead Html page tags rows
    × HasEnds (tags_front size (map token_of tags)) (numbers_of (nodes_from tags None rows)) numbers

-- The same of an XML document: each of its start tags is written.
abbrev pub AreXmlNumbers : (size : ℕ) → (page : List ℕ) → List ℕ → Type 0
AreXmlNumbers size page numbers =
    (tags : List PlacedToken) × IsDocument page tags × IsFront (tags_front size tags) numbers
