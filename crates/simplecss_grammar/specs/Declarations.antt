-- Declarations: a name, a colon, a value, and what may follow the value.
use Rattle.std.specs.Prelude.{ℕ, Bool, true, false, ◌==◌, eqb, if◌then◌else◌, List, length, drop, codes, Option, Some, None}
use Rattle.std.specs.Str.{trim}
use Rattle.std.specs.List.{starts_with}
use Rattle.css_text.specs.AsciiBytes.{exclamation_mark, asterisk, colon, semicolon as semicolon_byte}
use Rattle.css_text.specs.Reading.{no_value, Reading, got, fails, Reader, ◌>>=◌, ◌>>◌, give, here, left_after, found, always, before, each, last_or}
use Rattle.css_text.specs.Bytes.{past_one, starts, byte, optional, any_byte}
use Rattle.css_text.specs.Characters.{Edition}
use Rattle.css_text.specs.Comments.{past_blank, blank}
use Rattle.css_text.specs.Names.{name}
use Rattle.simplecss_grammar.specs.Terms.{term}

-- A declaration: the name of a property, a value for it, and whether it is important.
pub record StyleDeclaration : Type 0 where
  pub name : List ℕ
  pub value : List ℕ
  pub important : Bool

-- The rest after a term, and the rest after the blank that follows it. (A comment that is open
-- there is no fault yet: no term begins at its slash, so the value ends there and consumes nothing
-- of it, and the blank after the value has the fault.)
abbrev pub after_term : Reading (Unit {0}) → Option (List ℕ × List ℕ)
after_term (got u rest) = Some (rest, past_blank rest)
after_term (fails fault rest) = None

-- the same of the term at the start of a text
abbrev pub term_in_value : Edition → List ℕ → Option (List ℕ × List ℕ)
term_in_value edition text = after_term (term edition text)

-- The terms of a value, each with a blank: the rest after each of them, and after the last blank.
abbrev pub terms : Edition → List ℕ → List (List ℕ) × List ℕ
terms edition text = each (term_in_value edition) text

-- A value: from the first term to the end of the last one, without the white space of Unicode at
-- either end. The rest is what is left after the term that could not be read: if no term begins it
-- is unchanged, and after a string or a function that is not closed nothing is left.
unfoldable pub value : Edition → List ℕ → List ℕ × List ℕ
value edition text = (
  trim (before text (last_or text (terms edition text).0)),
  left_after (term edition (terms edition text).1),
)

-- whether the text begins with the word `important`, which is then consumed; more letters may
-- follow it
abbrev pub important_word : Reader Bool
important_word text =
    if starts_with eqb text (codes "important") then got true (drop 9 text) else got false text

-- an exclamation mark and a blank, and whether the word `important` follows them
abbrev pub after_mark : Reader Bool
after_mark = do
  any_byte
  blank
  important_word

-- whether an exclamation mark is next, and after a blank the word `important`; a mark is consumed
-- without the word too
unfoldable pub importance : Reader Bool
importance text = if starts exclamation_mark text then after_mark text else got false text

-- a semicolon, and the blank after it
abbrev pub semicolon : List ℕ → Option (Unit {0} × List ℕ)
semicolon text = if starts semicolon_byte text then Some (tt, past_blank (past_one text)) else None

-- any number of semicolons, each with the blank after it
abbrev pub semicolons : Reader (Unit {0})
semicolons text = got tt (each semicolon text).1

-- What follows a value: the importance and any number of semicolons, with blanks between. Its value
-- is the importance. (The last blank is empty, unless a comment is open there, which is a fault.)
unfoldable pub trailing : Reader Bool
trailing = do
  blank
  important ← importance
  blank
  semicolons
  blank
  give important

-- the declaration, unless its value is empty, which began at `start`
abbrev pub unless_empty : (start : List ℕ) → StyleDeclaration → Reader StyleDeclaration
unless_empty start declared text =
    if length declared.value == 0 then fails (no_value start) text else got declared text

-- the value, as a reader
abbrev pub value_reader : Edition → Reader (List ℕ)
value_reader edition text = always (value edition text)

-- What precedes the value of a declaration: its name and a colon, with blanks. An asterisk before
-- the name is dropped.
unfoldable pub stated_name : Edition → Reader (List ℕ)
stated_name edition = do
  blank
  optional asterisk
  property ← name edition
  blank
  byte colon
  blank
  give property

-- A declaration, or its first fault.
unfoldable pub declaration : Edition → Reader StyleDeclaration
declaration edition = do
  property ← stated_name edition
  start ← here
  stated ← value_reader edition
  important ← trailing
  unless_empty start (record { name = property; value = stated; important = important })

-- the same, without the fault
abbrev pub next_declaration : Edition → List ℕ → Option (StyleDeclaration × List ℕ)
next_declaration edition text = found (declaration edition text)

-- the declarations of a text, up to the first fault or the end
unfoldable pub declarations : Edition → List ℕ → List StyleDeclaration
declarations edition text = (each (next_declaration edition) text).0
