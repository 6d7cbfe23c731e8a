-- Comments and blanks.
use Rattle.std.specs.Prelude.{ℕ, Bool, true, false, if◌then◌else◌, List, [], ◌∷◌, drop, Option, Some, None}
use Rattle.std.specs.List.{list_any}
use Rattle.std.specs.Option.{option_map}
use Rattle.css_text.specs.AsciiBytes.{asterisk, slash}
use Rattle.css_text.specs.Reading.{no_comment, got, fails, Reader, ◌>>=◌, ◌>>◌, give, here, each}
use Rattle.css_text.specs.Bytes.{past_one, starts_two, past_byte, closed_or}
use Rattle.css_text.specs.Characters.{is_space}

-- the text begins with `/*`
abbrev pub opens_comment : List ℕ → Bool
opens_comment text = starts_two slash asterisk text

-- the rest after the first `*/`
abbrev pub after_close : List ℕ → Option (List ℕ)
after_close [] = None
after_close (b ∷ text) =
    if starts_two asterisk slash (b ∷ text) then Some (past_one text) else after_close text

-- The rest after the comment that opens here: it closes with the first `*/` after its `/*`. So
-- `/*/` is not closed.
abbrev pub after_comment : List ℕ → Option (List ℕ)
after_comment text = after_close (drop 2 text)

-- A comment. One that is not closed is a fault, and nothing is left. If none opens, that is a fault
-- too, and a `/` there is consumed.
unfoldable pub comment : Reader (Unit {0})
comment text =
    if opens_comment text then closed_or (no_comment text) (after_comment text)
    else fails (no_comment text) (past_byte slash text)

-- What a blank begins with, a space byte or a closed comment: whether it is a space byte, and the
-- rest after it.
abbrev pub blank_part : List ℕ → Option (Bool × List ℕ)
blank_part [] = None
blank_part (b ∷ text) =
    if is_space b then Some (true, text)
    else (if opens_comment (b ∷ text)
    then option_map (λ rest. (false, rest)) (after_comment (b ∷ text)) else None)

-- the rest after the blank at the start: the longest prefix made of space bytes and closed comments
abbrev pub past_blank : List ℕ → List ℕ
past_blank text = (each blank_part text).1

-- A blank. An open comment after it is a fault, and nothing is left.
unfoldable pub blank : Reader (Unit {0})
blank text =
    if opens_comment (past_blank text) then fails (no_comment (past_blank text)) []
    else got tt (past_blank text)

-- whether the blank at the start has a space byte outside its comments
abbrev pub has_space : List ℕ → Bool
has_space text = list_any (λ is_space_byte. is_space_byte) (each blank_part text).0

-- A gap, the blank before a piece of a selector: whether it has a space byte. A comment that is not
-- closed is a fault, as in every blank.
unfoldable pub gap : Reader Bool
gap = do
  text ← here
  blank
  give (has_space text)
