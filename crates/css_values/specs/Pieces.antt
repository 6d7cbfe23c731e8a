-- A value as pieces (CSS Custom Properties for Cascading Variables 1, section 3): references
-- `var(..)`, at any depth, and the tokens and brackets beside them.
use Rattle.std.specs.Prelude.{ℕ, false, true, ◌&&◌, ◌==◌, length, codes, if◌then◌else◌, List, [], Option, Some, None}
use Rattle.css_text.specs.AsciiBytes.{comma, open_parenthesis, close_parenthesis}
use Rattle.css_text.specs.Reading.{each, before}
use Rattle.css_text.specs.Bytes.{past_one, past_byte, starts, starts_by}
use Rattle.css_syntax.specs.declared.parts.Stops.{Stops}
use Rattle.css_syntax.specs.Qualities.{is_whole}
use Rattle.css_syntax.specs.Tokens.{past_gap, past_word, spells, token}
use Rattle.css_syntax.specs.ComponentValues.{is_opener}
use Rattle.css_syntax.specs.Parts.{Stated, parts}

-- the rest after `var(`, if it begins here, in any case and with any escapes
unfoldable pub after_var : List ℕ → Option (List ℕ)
after_var text =
    let rest = past_word text in
    if spells (codes "var") (before text rest) && starts open_parenthesis rest
    then Some (past_byte open_parenthesis rest) else None

-- A piece: a token, a blank or a bracket as written; a reference by its name as written, with a
-- fallback or none; or `var(` with something else in it.
pub data Piece : Type 0 where
  plain : List ℕ → Piece
  reference : List ℕ → Option (List ℕ) → Piece
  broken : Piece

-- a fallback has no semicolon, exclamation mark or stray closing bracket outside brackets
abbrev pub in_fallback : Stops
in_fallback = record {
  semicolon = true;
  open_brace = false;
  close_brace = true;
  comma = false;
  in_value = true;
}

-- the reference, if its parenthesis closes it here; else nothing of the rest is read
abbrev pub closed_here : Piece → List ℕ → Piece × List ℕ
closed_here piece rest =
    if starts close_parenthesis rest then (piece, past_byte close_parenthesis rest) else (broken, [])

-- a reference with a fallback that was read: it may be empty
abbrev pub with_fallback : List ℕ → Stated × List ℕ → Piece × List ℕ
with_fallback name read =
    if is_whole read.0.quality then closed_here (reference name (Some read.0.text)) read.1
    else (broken, [])

-- A reference, from after `var(`: a name, and maybe a comma and a fallback, which is any component
-- values without the blanks at either end.
unfoldable pub reference_from : List ℕ → Piece × List ℕ
reference_from text =
    let from = past_gap text in
    let name = before from (past_word from) in
    let next = past_gap (past_word from) in
    if starts comma next then with_fallback name (parts in_fallback (past_gap (past_byte comma next)))
    else closed_here (reference name None) next

-- the rest after a bracket that opens here, or after the token
abbrev pub past_piece : List ℕ → List ℕ
past_piece text = if starts_by is_opener text then past_one text else (token text).1

-- a bracket or a token as it is
abbrev pub as_written : List ℕ → Piece × List ℕ
as_written text = (plain (before text (past_piece text)), past_piece text)

-- a reference, if `var(` begins here, else the token
abbrev pub piece_by : Option (List ℕ) → List ℕ → Piece × List ℕ
piece_by None text = as_written text
piece_by (Some inside) text = reference_from inside

-- the piece at the start, and the rest
unfoldable pub piece : List ℕ → Option (Piece × List ℕ)
piece text = if length text == 0 then None else Some (piece_by (after_var text) text)

-- the pieces of a value
abbrev pub pieces : List ℕ → List Piece
pieces text = (each piece text).0
