-- Which tokens must have a comment between them where they come to stand side by side (CSS Syntax 3,
-- section 9): read again without it, they would join.
use Rattle.std.specs.Prelude.{ℕ, Bool, false, ◌||◌, ◌&&◌, ◌==◌, if◌then◌else◌, List, [], ◌∷◌}
use Rattle.css_text.specs.AsciiBytes.{number_sign, hyphen, at_sign, backslash, open_parenthesis}
use Rattle.css_text.specs.Bytes.{starts, starts_by, is_digit}
use Rattle.css_syntax.specs.Tokens.{is_name_byte}

-- a byte with which a name or a number begins, but not its sign `+` or its point
abbrev pub begins_word : ℕ → Bool
begins_word b = is_name_byte b || b == backslash

-- a point and a digit
abbrev pub starts_fraction : List ℕ → Bool
starts_fraction [] = false
starts_fraction (b ∷ text) = b == 46 && starts_by is_digit text

-- the number begins here, from after its sign
abbrev pub starts_unsigned : List ℕ → Bool
starts_unsigned text = starts_by is_digit text || starts_fraction text

-- a sign and a number
abbrev pub starts_signed : ℕ → List ℕ → Bool
starts_signed sign [] = false
starts_signed sign (b ∷ text) = b == sign && starts_unsigned text

-- a name, a number, or a function begins here, or `-->`
abbrev pub starts_word : List ℕ → Bool
starts_word text = starts_by begins_word text || starts_fraction text || starts_signed 43 text

-- a number begins here
abbrev pub starts_number : List ℕ → Bool
starts_number text = starts_unsigned text || starts_signed 43 text || starts_signed hyphen text

-- A token that begins with this byte would join with the start of the text: a word with a word, a name
-- with a parenthesis, a number with `%`; a hash or a name after `@` with a word; `.` and `+` with a
-- number; `/` with `*`, and `<` with `!`.
abbrev pub joins : ℕ → List ℕ → Bool
joins b text =
    if is_digit b then starts_word text || starts 37 text
    else (if begins_word b then starts_word text || starts open_parenthesis text
    else (if b == number_sign || b == at_sign then starts_word text
    else (if b == 46 || b == 43 then starts_number text
    else (if b == 47 then starts 42 text
    else (b == 60 && starts 33 text)))))
