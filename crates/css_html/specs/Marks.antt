-- What begins markup, and what ends text, comments and raw text (HTML Standard, section 13.2.5).
use Rattle.std.specs.Prelude.{ℕ, Bool, true, false, not, ◌||◌, ◌&&◌, ◌==◌, if◌then◌else◌, List, [], ◌∷◌, drop, codes, Option, Some, None}
use Rattle.std.specs.Char.{to_ascii_lowercase}
use Rattle.css_text.specs.AsciiBytes.{exclamation_mark, hyphen, slash, greater_than_sign, equals_sign}
use Rattle.css_text.specs.Bytes.{starts, starts_by, starts_two}
use Rattle.css_text.specs.Characters.{is_space, is_letter}
use Rattle.css_html.specs.declared.marks.ScriptState.{ScriptState}
use Rattle.css_html.specs.declared.marks.ScriptState.TheVariants.{Plain, Escaped, DoubleEscaped}

-- `<`
abbrev pub less_than_sign : ℕ
less_than_sign = 60

-- `?`
abbrev pub question_mark : ℕ
question_mark = 63

-- what ends the name of a tag: a space byte, a slash or `>` (13.2.5.8)
abbrev pub ends_name : ℕ → Bool
ends_name b = is_space b || b == slash || b == greater_than_sign

-- a byte of the name of a tag
abbrev pub is_in_name : ℕ → Bool
is_in_name b = not (ends_name b)

-- a byte of the name of an attribute after its first (13.2.5.33)
abbrev pub is_in_attribute_name : ℕ → Bool
is_in_attribute_name b = not (ends_name b || b == equals_sign)

-- a byte of a value without quotes (13.2.5.38)
abbrev pub is_in_bare_value : ℕ → Bool
is_in_bare_value b = not (is_space b || b == greater_than_sign)

-- what may be between attributes: a space byte or a slash (13.2.5.32, 13.2.5.40)
abbrev pub is_between : ℕ → Bool
is_between b = is_space b || b == slash

-- the rest after these letters, in any case; they are in lower case
unfoldable pub past_letters : (letters text : List ℕ) → Option (List ℕ)
past_letters [] text = Some text
past_letters (c ∷ letters) [] = None
past_letters (c ∷ letters) (b ∷ text) =
    if to_ascii_lowercase b == c then past_letters letters text else None

-- the rest after a name, if what ends a name follows it
abbrev pub name_ends : Option (List ℕ) → Bool
name_ends None = false
name_ends (Some text) = starts_by ends_name text

-- the text begins with `<` and this name
abbrev pub begins_named : (letters text : List ℕ) → Bool
begins_named letters text =
    starts less_than_sign text && name_ends (past_letters letters (drop 1 text))

-- the text begins with `</` and this name
abbrev pub begins_end_named : (letters text : List ℕ) → Bool
begins_end_named letters text =
    starts_two less_than_sign slash text && name_ends (past_letters letters (drop 2 text))

-- What follows a `<` makes it markup: a letter, `!`, `?`, or a slash before any byte (13.2.5.6 and
-- 13.2.5.7).
abbrev pub follows_open : List ℕ → Bool
follows_open [] = false
follows_open (b ∷ []) = is_letter b || b == exclamation_mark || b == question_mark
follows_open (b ∷ c ∷ text) =
    is_letter b || b == exclamation_mark || b == question_mark || b == slash

-- the text begins with markup
abbrev pub begins_markup : List ℕ → Bool
begins_markup [] = false
begins_markup (b ∷ text) = b == less_than_sign && follows_open text

-- the rest after text: the first markup, or nothing (13.2.5.1)
unfoldable pub past_text : List ℕ → List ℕ
past_text [] = []
past_text (b ∷ text) = if begins_markup (b ∷ text) then b ∷ text else past_text text

-- the text begins with `-->`
abbrev pub begins_close : List ℕ → Bool
begins_close text = starts_two hyphen hyphen text && starts greater_than_sign (drop 2 text)

-- the text begins with `--!>`
abbrev pub begins_bang_close : List ℕ → Bool
begins_bang_close text =
    starts_two hyphen hyphen text && starts_two exclamation_mark greater_than_sign (drop 2 text)

-- The text is what the end of the page leaves of what closes a comment: `-`, `--` or `--!` (13.2.5.50 to
-- 13.2.5.52).
abbrev pub is_cut_close : List ℕ → Bool
is_cut_close [] = false
is_cut_close (b ∷ []) = b == hyphen
is_cut_close (b ∷ c ∷ []) = b == hyphen && c == hyphen
is_cut_close (b ∷ c ∷ d ∷ []) = (b == hyphen && c == hyphen) && d == exclamation_mark
is_cut_close (b ∷ c ∷ d ∷ e ∷ text) = false

-- a comment ends before this text
abbrev pub ends_comment : List ℕ → Bool
ends_comment text = (begins_close text || begins_bang_close text) || is_cut_close text

-- from the first `-->` or `--!>` on, or from what the end of the page leaves of one (13.2.5.45)
unfoldable pub from_comment_close : List ℕ → List ℕ
from_comment_close [] = []
from_comment_close (b ∷ text) =
    if ends_comment (b ∷ text) then b ∷ text else from_comment_close text

-- from the first `]]>` on, or nothing (13.2.5.69)
unfoldable pub from_cdata_close : List ℕ → List ℕ
from_cdata_close [] = []
from_cdata_close (b ∷ text) =
    if starts_two 93 93 (b ∷ text) && starts greater_than_sign (drop 1 text) then b ∷ text
    else from_cdata_close text

-- from the end tag of this element on, or nothing (13.2.5.9 to 13.2.5.14)
unfoldable pub from_end_tag : (letters text : List ℕ) → List ℕ
from_end_tag letters [] = []
from_end_tag letters (b ∷ text) =
    if begins_end_named letters (b ∷ text) then b ∷ text else from_end_tag letters text

-- ---- scripts: the text of a script has three states (13.2.5.15 to 13.2.5.31)

-- the name of a script
abbrev pub script_letters : List ℕ
script_letters = codes "script"

-- the text begins with `<!--`
abbrev pub begins_comment : List ℕ → Bool
begins_comment text =
    starts_two less_than_sign exclamation_mark text && starts_two hyphen hyphen (drop 2 text)

-- the state after the byte at the start of the text
abbrev pub script_step : ScriptState → List ℕ → ScriptState
script_step Plain text = if begins_comment text then Escaped else Plain
script_step Escaped text =
    if begins_close text then Plain
    else (if begins_named script_letters text then DoubleEscaped else Escaped)
script_step DoubleEscaped text =
    if begins_close text then Plain
    else (if begins_end_named script_letters text then Escaped else DoubleEscaped)

-- an end tag is one in this state
abbrev pub may_end : ScriptState → Bool
may_end Plain = true
may_end Escaped = true
may_end DoubleEscaped = false

-- from the end tag of a script on, or nothing
unfoldable pub from_script_end : ScriptState → List ℕ → List ℕ
from_script_end state [] = []
from_script_end state (b ∷ text) =
    if may_end state && begins_end_named script_letters (b ∷ text) then b ∷ text
    else from_script_end (script_step state (b ∷ text)) text
