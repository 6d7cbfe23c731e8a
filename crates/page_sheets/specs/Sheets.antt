-- Which elements are style sheets, and which sheets are in use (HTML Standard, sections 4.2.3, 4.2.4 and 4.2.6; CSSOM,
-- section 6.2).
use Rattle.std.specs.Prelude.{ℕ, ◌+◌, ◌-◌, Bool, true, false, not, ◌&&◌, ◌||◌, ◌==◌, if◌then◌else◌, nat_lt, nat_le, List, [], ◌∷◌, codes, length, take, drop, Option, Some, None}
use Rattle.std.specs.Char.{is_ascii_whitespace}
use Rattle.std.specs.List.{list_any, slice_split, prefix_len, suffix_len, flat_map}
use Rattle.std.specs.Str.{str_eq_ignore_ascii_case}
use Rattle.css_text.specs.Bytes.{text_eq}
use Rattle.page_sheets.specs.Nodes.{NodeText}
use Rattle.page_sheets.specs.declared.nodes.Role.{Role}
use Rattle.page_sheets.specs.declared.nodes.Role.TheVariants.{Style, Link, Base}
use Rattle.page_sheets.specs.declared.sheets.PageSheet.{PageSheet}
use Rattle.page_sheets.specs.declared.sheets.BaseUrl.{BaseUrl}

-- one of the words of a text, which spaces part, is this one in any case
abbrev pub has_word : (word : List ℕ) → List ℕ → Bool
has_word word text = list_any (str_eq_ignore_ascii_case word) (slice_split is_ascii_whitespace text)

-- a text without the spaces at its front
abbrev pub past_spaces : List ℕ → List ℕ
past_spaces text = drop (prefix_len is_ascii_whitespace text) text

-- a text without the spaces at its end
abbrev pub before_spaces : List ℕ → List ℕ
before_spaces text = take (length text - suffix_len is_ascii_whitespace text) text

-- a text without the spaces around it
abbrev pub trimmed : List ℕ → List ℕ
trimmed text = before_spaces (past_spaces text)

-- not `;`
abbrev pub is_no_semicolon : ℕ → Bool
is_no_semicolon b = not (b == 59)

-- a MIME type without its parameters: what comes before `;`, without the spaces around it
abbrev pub essence : List ℕ → List ℕ
essence text = trimmed (take (prefix_len is_no_semicolon text) text)

-- nothing
abbrev pub is_nothing : List ℕ → Bool
is_nothing [] = true
is_nothing (b ∷ text) = false

-- no type, or that of CSS in any case
abbrev pub is_css : List ℕ → Bool
is_css text = is_nothing text || str_eq_ignore_ascii_case (codes "text/css") text

-- A `style` element whose type is that of CSS is a sheet (4.2.6), and so is what a `link` links to as a style sheet,
-- if it is not disabled and has a url (4.2.4 and 4.6.8).
abbrev pub is_sheet_with : Role → NodeText → Bool
is_sheet_with Style n = is_css n.type_name
is_sheet_with Link n =
    has_word (codes "stylesheet") n.rel && (not n.is_disabled && (is_css (essence n.type_name)
    && not (is_nothing (trimmed n.href))))
is_sheet_with Base n = false

-- the element is a sheet, or a link to one
abbrev pub is_sheet : NodeText → Bool
is_sheet n = is_sheet_with n.role n

-- a `link` with the word `alternate` links to an alternative sheet
abbrev pub is_alternative_with : Role → NodeText → Bool
is_alternative_with Style n = false
is_alternative_with Link n = has_word (codes "alternate") n.rel
is_alternative_with Base n = false

-- the sheet is an alternative one
abbrev pub is_alternative : NodeText → Bool
is_alternative n = is_alternative_with n.role n

-- the element is a sheet with a title, and no alternative one
abbrev pub names_title : NodeText → Bool
names_title n = is_sheet n && (not (is_alternative n) && not (is_nothing n.title))

-- A title, and where its sheet was made: a `style` element where it ends, a link at its tag.
pub record Titled : Type 0 where
  pub title : List ℕ
  pub place : ℕ

-- a title of a sheet that was made there
abbrev pub titled : (title : List ℕ) → (place : ℕ) → Titled
titled title place = record {
  title = title;
  place = place;
}

-- The title that counts of one, which may be nothing, and that of an element: that of the sheet that was made first. Of
-- two that end at the same place, the later is in the other one.
abbrev pub first_made : Titled → NodeText → Titled
first_made t n =
    if names_title n && (is_nothing t.title || nat_le n.place t.place) then titled n.title n.place else t

-- the title of the first sheet that was made of this one and some elements
abbrev pub preferred_after : Titled → List NodeText → Titled
preferred_after t [] = t
preferred_after t (n ∷ nodes) = preferred_after (first_made t n) nodes

-- the name of the preferred sheets: the title of the first that was made with one, or nothing
abbrev pub preferred_title : List NodeText → List ℕ
preferred_title nodes = (preferred_after (titled [] 0) nodes).title

-- the element is a `base`
abbrev pub is_base : Role → Bool
is_base Style = false
is_base Link = false
is_base Base = true

-- an element as a `base`
abbrev pub base_url : NodeText → BaseUrl
base_url n = record {
  number = n.number;
  place = n.place;
}

-- the first `base` with a url, which alone counts (4.2.3)
abbrev pub first_base : List NodeText → Option BaseUrl
first_base [] = None
first_base (n ∷ nodes) = if is_base n.role && n.has_href then Some (base_url n) else first_base nodes

-- A sheet that was made before the `base` does not take its urls from it.
abbrev pub is_based : Option BaseUrl → (place : ℕ) → Bool
is_based None place = false
is_based (Some b) place = nat_lt b.place place

-- A sheet is in use if it has no title and is no alternative one, or if it has the title of the preferred ones.
abbrev pub is_used : (title : List ℕ) → NodeText → Bool
is_used title n = if is_nothing n.title then not (is_alternative n) else text_eq n.title title

-- the element is a `link`
abbrev pub is_link : Role → Bool
is_link Style = false
is_link Link = true
is_link Base = false

-- the sheet of an element
abbrev pub sheet_of : (title : List ℕ) → Option BaseUrl → NodeText → PageSheet
sheet_of title base n = record {
  number = n.number;
  is_link = is_link n.role;
  is_alternative = is_alternative n;
  is_used = is_used title n;
  is_based = is_based base n.place;
}

-- the sheets of the elements that are some, where those with this title are preferred
abbrev pub sheets_among : (title : List ℕ) → Option BaseUrl → List NodeText → List PageSheet
sheets_among title base [] = []
sheets_among title base (n ∷ nodes) =
    let more = sheets_among title base nodes in
    if is_sheet n then sheet_of title base n ∷ more else more

-- the sheets of elements that are in document order
abbrev pub sheets_of : List NodeText → List PageSheet
sheets_of nodes = sheets_among (preferred_title nodes) (first_base nodes) nodes

-- a number where a test is met, and 0 elsewhere
abbrev pub number_if : Bool → ℕ → ℕ
number_if test n = if test then n else 0

-- what a sheet is, added up
abbrev pub flags_of : PageSheet → ℕ
flags_of s =
    number_if s.is_link 1 + number_if s.is_alternative 2 + number_if s.is_used 4 + number_if s.is_based 8

-- the number of a `base`, or 0 where there is none
abbrev pub base_number : Option BaseUrl → ℕ
base_number None = 0
base_number (Some b) = b.number

-- two numbers of a sheet: its element's, and what it is
abbrev pub row_of : PageSheet → List ℕ
row_of s = s.number ∷ flags_of s ∷ []

-- the same of each of some sheets
abbrev pub rows_of : List PageSheet → List ℕ
rows_of sheets = flat_map row_of sheets

-- the number of the `base` or 0, how many sheets there are, and two numbers of each
abbrev pub sheet_numbers : Option BaseUrl → List PageSheet → List ℕ
sheet_numbers base sheets = base_number base ∷ length sheets ∷ rows_of sheets

-- the same of the sheets of elements that are in document order
abbrev pub numbers_of : List NodeText → List ℕ
numbers_of nodes = sheet_numbers (first_base nodes) (sheets_of nodes)
