-- Values that no browser takes, as far as a table says: by the value definitions of the standards (CSS Values and
-- Units 4, section 2), and by what browsers take beside them. Of a property that the table does not have, and of a
-- value that it does not tell apart from others, nothing is refused.
use Rattle.std.specs.Prelude.{ℕ, ◌-◌, Bool, true, false, not, ◌||◌, ◌&&◌, ◌==◌, nat_le, nat_lt, if◌then◌else◌, List, [], ◌∷◌, length, max, Option, Some, None}
use Rattle.std.specs.List.{flat_map, list_any, prefix_len}
use Rattle.std.specs.Char.{to_ascii_lowercase}
use Rattle.css_text.specs.AsciiBytes.{hyphen}
use Rattle.css_text.specs.Bytes.{is_hex_digit, starts, starts_two}
use Rattle.css_text.specs.Reading.{before}
use Rattle.css_syntax.specs.TokenLists.{PlacedToken, tokens}
use Rattle.css_syntax.specs.Tokens.{spells}
use Rattle.css_syntax.specs.declared.tokenizer.TokenKind.{TokenKind}
use Rattle.css_syntax.specs.declared.tokenizer.TokenKind.TheVariants as kinds
use Rattle.css_values.specs.declared.value_data.TheConstants.{COLOR_WORDS, PREFIXED, QUIRKY_COLORS, QUIRKY_LENGTHS, SUBSTITUTED, UNIT_CLASSES, VALUES, WIDE_WORDS}
use Rattle.css_values.specs.Names.{cut, is_named_in, parts_between}

-- ---- words

-- a word of a list, which may have a question mark before it, where not all browsers take it
abbrev pub unmarked : List ℕ → List ℕ
unmarked [] = []
unmarked (b ∷ text) = if b == 63 then text else b ∷ text

-- the word is one of these, between which spaces are, in any case, and with escapes or without
abbrev pub is_listed : (words : List ℕ) → (word : List ℕ) → Bool
is_listed words word = list_any (λ one. spells (unmarked one) word) (parts_between 32 words)

-- it begins with a hyphen or an escape, and is one of the words with a vendor's prefix that browsers know
unfoldable pub is_prefixed : List ℕ → Bool
is_prefixed word = (starts hyphen word || starts 92 word) && is_listed PREFIXED.now word

-- a word that every property takes
unfoldable pub is_wide : List ℕ → Bool
is_wide word = is_listed WIDE_WORDS.now word

unfoldable pub is_color_word : List ℕ → Bool
is_color_word word = is_listed COLOR_WORDS.now word

-- a function with another value in its place, in which anything may be
unfoldable pub is_substituted : List ℕ → Bool
is_substituted name = starts_two hyphen hyphen name || is_listed SUBSTITUTED.now name

-- three or six hexadecimal digits, as a colour has them in quirks mode, where no number sign is needed
abbrev pub is_bare_color : List ℕ → Bool
is_bare_color word =
    (length word == 3 || length word == 6) && prefix_len is_hex_digit word == length word

-- ---- components

-- A component of a value: a word; a number without a unit, which is not zero or zero; a percentage, a number with a unit,
-- a colour after a number sign, a string or a url, by the letter of its class; a comma or a slash; a function of a vendor
-- that no browser knows; a function with another value in its place; or one of which the table says nothing.
pub data Component : Type 0 where
  word : List ℕ → Component
  number : Component
  zero : Component
  classed : ℕ → Component
  sign : Component
  foreign : Component
  substituted : Component
  other : Component

-- the letter of the class of the first line that has the unit
abbrev pub letter_of : List ℕ → Option ℕ
letter_of [] = None
letter_of (b ∷ text) = Some b

abbrev pub class_in : (lines : List (List ℕ)) → (unit : List ℕ) → Option ℕ
class_in [] unit = None
class_in (line ∷ more) unit =
    let found = cut 32 line in
    if is_listed found.1 unit then letter_of found.0 else class_in more unit

unfoldable pub unit_class : List ℕ → Option ℕ
unit_class unit = class_in (parts_between 10 UNIT_CLASSES.now) unit

abbrev pub dimension : Option ℕ → Component
dimension None = other
dimension (Some letter) = classed letter

-- a number has no digit but 0 before its exponent, if it has one
abbrev pub is_zero : (number : List ℕ) → Bool
is_zero [] = true
is_zero (b ∷ text) =
    if to_ascii_lowercase b == 101 then true
    else (if nat_le 49 b && nat_le b 57 then false else is_zero text)

abbrev pub number_component : List ℕ → Component
number_component text = if is_zero text then zero else number

-- what an author names, and what browsers have of their own, is not in the table
abbrev pub word_component : List ℕ → Component
word_component text =
    if starts_two hyphen hyphen text || is_prefixed text then other else word text

abbrev pub function_component : List ℕ → Component
function_component name =
    if is_substituted name then substituted
    else (if starts hyphen name && not (is_prefixed name) then foreign else other)

abbrev pub byte_component : List ℕ → Component
byte_component text = if starts 44 text || starts 47 text then sign else other

-- what is in a token: of a function its name, of a number its unit
abbrev pub inside : PlacedToken → List ℕ
inside t = before t.inside t.inside_end

-- the component that a token of this kind begins; white space and comments are none
abbrev pub component_by : TokenKind → PlacedToken → Option Component
component_by kinds.Whitespace t = None
component_by kinds.Comment t = None
component_by kinds.Ident t = Some (word_component (inside t))
component_by kinds.Function t = Some (function_component (inside t))
component_by kinds.AtKeyword t = Some other
component_by kinds.Hash t = Some (classed 104)
component_by kinds.IdHash t = Some (classed 104)
component_by kinds.String t = Some (classed 115)
component_by kinds.BadString t = Some other
component_by kinds.Url t = Some (classed 117)
component_by kinds.BadUrl t = Some other
component_by kinds.Number t = Some (number_component (inside t))
component_by kinds.Percentage t = Some (classed 112)
component_by kinds.Dimension t = Some (dimension (unit_class (inside t)))
component_by kinds.Cdo t = Some other
component_by kinds.Cdc t = Some other
component_by kinds.Delim t = Some (byte_component t.from)

abbrev pub listed_component : Option Component → List Component
listed_component None = []
listed_component (Some one) = one ∷ []

abbrev pub of_token : PlacedToken → List Component
of_token t = listed_component (component_by t.kind t)

abbrev pub components : (value : List ℕ) → List Component
components value = flat_map of_token (tokens value)

-- ---- rows

-- what a property takes in quirks mode beside its other values: numbers as lengths, or numbers and words of hexadecimal
-- digits as colours
pub record Quirks : Type 0 where
  pub lengths : Bool
  pub colors : Bool

-- Where a page is in quirks mode, the properties of two lists take these (Quirks Mode Standard, sections 3.1 and 3.2).
abbrev pub quirks_named : (in_quirks : Bool) → (name : List ℕ) → Quirks
quirks_named in_quirks name = record {
  lengths = in_quirks && is_listed QUIRKY_LENGTHS.now name;
  colors = in_quirks && is_listed QUIRKY_COLORS.now name;
}

-- what some components are: the letters of classes, words, and what is taken in quirks mode
pub record Sorts : Type 0 where
  pub letters : List ℕ
  pub words : List ℕ
  pub quirks : Quirks

-- The values of a property: how many components they have, or 0 for any number; what is a value alone, and in
-- values with a greatest number of components; and what is in the others.
pub record Row : Type 0 where
  pub most : ℕ
  pub alone : Sorts
  pub parts : Sorts

-- the number of a digit, or 0
abbrev pub digit : List ℕ → ℕ
digit [] = 0
digit (b ∷ []) = b - 48
digit (b ∷ (c ∷ text)) = 0

-- a row of four fields with bars between them, with what is taken in quirks mode
abbrev pub row_in : Quirks → List ℕ → Row
row_in quirks text =
    let most = cut 124 text in
    let letters = cut 124 most.1 in
    let words = cut 124 letters.1 in
    let others = cut 124 words.1 in
    record {
      most = digit most.0;
      alone = record { letters = letters.0; words = words.0; quirks = quirks };
      parts = record { letters = others.0; words = others.1; quirks = quirks };
    }

-- The row of the last line that has the name, or else what was found before. The names of a line are before a bar,
-- with spaces between them.
abbrev pub row_after : (found : Option (List ℕ)) → (lines : List (List ℕ)) → (name : List ℕ)
    → Option (List ℕ)
row_after found [] name = found
row_after found (line ∷ more) name =
    row_after (if is_named_in (cut 124 line).0 name then Some (cut 124 line).1 else found) more name

-- the row of a property, whose name is in lower case, if the table has one
unfoldable pub row_named : (name : List ℕ) → Option (List ℕ)
row_named name = row_after None (parts_between 10 VALUES.now) name

-- ---- what is refused

-- the class of this letter is one of those with these letters; capitals are for numbers below zero
abbrev pub has_letter : (letters : List ℕ) → ℕ → Bool
has_letter letters letter = list_any (λ b. to_ascii_lowercase b == letter) letters

-- a word fits where authors choose words, and where it is one of those that are listed, a colour, or a word that every
-- property takes
abbrev pub word_fits : Sorts → List ℕ → Bool
word_fits sorts text =
    has_letter sorts.letters 119 || is_listed sorts.words text
    || has_letter sorts.letters 99 && is_color_word text
    || sorts.quirks.colors && is_bare_color text || is_wide text

-- a number fits where integers or numbers do, and in quirks mode as a length or a colour
abbrev pub number_fits : Sorts → Bool
number_fits sorts =
    has_letter sorts.letters 105 || has_letter sorts.letters 110 || sorts.quirks.lengths
    || sorts.quirks.colors

-- zero fits where a number does, and as a length
abbrev pub zero_fits : Sorts → Bool
zero_fits sorts =
    has_letter sorts.letters 48 || has_letter sorts.letters 108 || number_fits sorts

abbrev pub fits : Sorts → Component → Bool
fits sorts (word text) = word_fits sorts text
fits sorts number = number_fits sorts
fits sorts zero = zero_fits sorts
fits sorts (classed letter) = has_letter sorts.letters letter
fits sorts sign = true
fits sorts foreign = true
fits sorts substituted = true
fits sorts other = true

abbrev pub has_unfit : Sorts → List Component → Bool
has_unfit sorts all = list_any (λ one. not (fits sorts one)) all

-- what some components have: how many they are, and of which sorts
pub record Found : Type 0 where
  pub count : ℕ
  pub sign : Bool
  pub foreign : Bool
  pub substituted : Bool
  pub other : Bool

abbrev pub is_sign : Component → Bool
is_sign sign = true
is_sign _ = false

abbrev pub is_foreign : Component → Bool
is_foreign foreign = true
is_foreign _ = false

abbrev pub is_replaced : Component → Bool
is_replaced substituted = true
is_replaced _ = false

abbrev pub is_other : Component → Bool
is_other other = true
is_other _ = false

abbrev pub found_in : List Component → Found
found_in all = record {
  count = length all;
  sign = list_any is_sign all;
  foreign = list_any is_foreign all;
  substituted = list_any is_replaced all;
  other = list_any is_other all;
}

-- there are too many components, or one that does not fit
abbrev pub is_unfit : Row → Found → List Component → Bool
is_unfit row found all =
    if row.most == 0 && nat_lt 1 found.count then has_unfit row.parts all
    else found.sign || nat_lt (max 1 row.most) found.count || has_unfit row.alone all

-- Values with such components are refused: with a function that no browser knows, or, where the table knows each
-- component, with too many, or one that does not fit.
abbrev pub is_refused_by : Row → Found → List Component → Bool
is_refused_by row found all =
    not found.substituted && (found.foreign || not found.other && is_unfit row found all)

abbrev pub is_refused : Row → List Component → Bool
is_refused row all = is_refused_by row (found_in all) all

abbrev pub refused_if : Option (List ℕ) → Quirks → (value : List ℕ) → Bool
refused_if None quirks value = false
refused_if (Some row) quirks value = is_refused (row_in quirks row) (components value)

-- the table says that no browser takes the value of a property of this name, where a page is in quirks mode or in another
unfoldable pub refuses : (in_quirks : Bool) → (name value : List ℕ) → Bool
refuses in_quirks name value = refused_if (row_named name) (quirks_named in_quirks name) value
