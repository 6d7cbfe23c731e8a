-- Terms, of which a value consists. Only the end of a term is defined here; its meaning is not
-- read.
use Rattle.std.specs.Prelude.{ℕ, Bool, false, not, ◌||◌, ◌&&◌, ◌==◌, if◌then◌else◌, List, [], ◌∷◌}
use Rattle.css_text.specs.AsciiBytes.{number_sign, percent_sign, asterisk, plus_sign, comma, hyphen, full_stop, slash, open_parenthesis, close_parenthesis}
use Rattle.css_text.specs.Reading.{ended, Reading, got, fails, Reader, ◌>>=◌, left_after}
use Rattle.css_text.specs.Bytes.{past_one, starts, is_digit, past, after_byte, closed_or, is_hex_digit}
use Rattle.css_text.specs.Characters.{Edition, first_edition, second_edition}
use Rattle.css_text.specs.Names.{name}
use Rattle.css_text.specs.Strings.{is_quote, string_after}

-- What is left after a hash, from after its number sign: the rest after the name. If there is no
-- name, it is the rest after hexadecimal digits, and after a hyphen before them, which a missing
-- name consumes: `rest` follows it.
abbrev pub past_hash : Reading (List ℕ) → List ℕ
past_hash (got n rest) = rest
past_hash (fails fault rest) = past is_hex_digit rest

-- a full stop and digits, if there is a full stop
abbrev pub past_decimals : List ℕ → List ℕ
past_decimals text = if starts full_stop text then past is_digit (past_one text) else text

-- The rest after a percent sign, or else after a name. If neither is there, it is the rest after a
-- hyphen, if there is one: a missing name consumes it.
abbrev pub past_unit : Edition → List ℕ → List ℕ
past_unit edition text =
    if starts percent_sign text then past_one text else left_after (name edition text)

-- The rest after a number, from after its first byte, which is a digit, a sign or a full stop:
-- after digits, a full stop and digits, and a unit, each of which may be absent.
unfoldable pub past_number : Edition → List ℕ → List ℕ
past_number edition text = past_unit edition (past_decimals (past is_digit text))

-- the arguments of a function, if there are any: everything up to the first closing parenthesis,
-- and that parenthesis
abbrev pub arguments : Reader (Unit {0})
arguments text =
    if starts open_parenthesis text then closed_or ended (after_byte close_parenthesis text)
    else got tt text

-- a name, and if a parenthesis follows directly, the arguments
unfoldable pub word : Edition → Reader (Unit {0})
word edition = do
  n ← name edition
  arguments

-- a string, from after its opening quote
abbrev pub quoted : ℕ → Reader (Unit {0})
quoted quote = do
  inside ← string_after quote
  got tt

-- a slash that opens no comment, in the second edition
abbrev pub is_slash_term : Edition → ℕ → List ℕ → Bool
is_slash_term first_edition b text = false
is_slash_term second_edition b text = b == slash && not (starts asterisk text)

-- a plus sign, a hyphen, a full stop or a digit
abbrev pub begins_number : ℕ → Bool
begins_number b = b == plus_sign || b == hyphen || b == full_stop || is_digit b

-- A term: a hash, a number, a string, a comma, in the second edition a slash that opens no comment,
-- a name or a function, by its first byte.
unfoldable pub term : Edition → Reader (Unit {0})
term edition [] = fails ended []
term edition (b ∷ text) =
    if b == number_sign then got tt (past_hash (name edition text))
    else (if begins_number b then got tt (past_number edition text)
    else (if is_quote b then quoted b text
    else (if b == comma || is_slash_term edition b text then got tt text
    else word edition (b ∷ text))))
