-- Whether a value leaves a parenthesis open. Those in strings and comments do not count.
use Rattle.std.specs.Prelude.{ℕ, ◌+◌, ◌-◌, Bool, not, ◌&&◌, ◌||◌, ◌==◌, nat_lt, if◌then◌else◌, List, [], ◌∷◌}
use Rattle.css_text.specs.AsciiBytes.{space, double_quote, single_quote, open_parenthesis, close_parenthesis, asterisk, slash, backslash}
use Rattle.simplecss.specs.declared.hints.parentheses.Within.{Within}
use Rattle.simplecss.specs.declared.hints.parentheses.Within.TheVariants.{Value, String, Comment}

-- What the byte after this one is part of. Before this one stands `before`.
abbrev pub next_within : Within → (before byte : ℕ) → Within
next_within Value before byte =
    if (byte == double_quote) || (byte == single_quote) then String byte
    else (if (byte == asterisk) && (before == slash) then Comment
    else Value)
next_within (String quote) before byte =
    if (byte == quote) && not (before == backslash) then Value else String quote
next_within Comment before byte = if (byte == slash) && (before == asterisk) then Value else Comment

-- the byte ends a mark of a comment, or is escaped
abbrev pub is_spent : Within → (before byte : ℕ) → Bool
is_spent Value before byte = (byte == asterisk) && (before == slash)
is_spent (String quote) before byte = before == backslash
is_spent Comment before byte = (byte == slash) && (before == asterisk)

-- what the byte after this one has before it
abbrev pub next_before : Within → (before byte : ℕ) → ℕ
next_before within before byte = if is_spent within before byte then space else byte

-- how many parentheses are open after a byte; one that closes none closes nothing
abbrev pub open_after : Within → (count byte : ℕ) → ℕ
open_after Value count byte =
    if byte == open_parenthesis then count + 1
    else (if byte == close_parenthesis then count - 1 else count)
open_after (String quote) count byte = count
open_after Comment count byte = count

-- how many are open at the end of a text, of which so many are open at its start
abbrev pub open_at_end : Within → (before count : ℕ) → List ℕ → ℕ
open_at_end within before count [] = count
open_at_end within before count (byte ∷ text) =
    open_at_end (next_within within before byte) (next_before within before byte)
    (open_after within count byte) text

-- a value leaves a parenthesis open
abbrev pub leaves_open : List ℕ → Bool
leaves_open value = nat_lt 0 (open_at_end Value space 0 value)
