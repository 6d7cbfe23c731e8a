-- Bytes at the start of a text, and equality of bytes.
use Rattle.std.specs.Prelude.{ℕ, Bool, false, not, ◌&&◌, ◌==◌, nat_eq, nat_le, nat_lt, if◌then◌else◌, List, [], ◌∷◌, drop, Option, Some, None, ◌||◌}
use Rattle.std.specs.List.{prefix_len}
use Rattle.std.specs.Cmp.Lexicographic.{pointwise}
use Rattle.css_text.specs.Reading.{Fault, ended, wrong_byte, Reading, got, fails, Reader, before}
use Rattle.css_text.specs.AsciiBytes.{open_brace}

-- the same bytes
abbrev pub text_eq : List ℕ → List ℕ → Bool
text_eq = pointwise nat_eq

-- the rest after any one byte
abbrev pub past_one : List ℕ → List ℕ
past_one [] = []
past_one (b ∷ text) = text

-- the text begins with the byte
abbrev pub starts : ℕ → List ℕ → Bool
starts byte [] = false
starts byte (b ∷ text) = b == byte

-- the text begins with a byte of which the test is true
abbrev pub starts_by : (ℕ → Bool) → List ℕ → Bool
starts_by test [] = false
starts_by test (b ∷ text) = test b

-- the text begins with these two bytes
abbrev pub starts_two : ℕ → ℕ → List ℕ → Bool
starts_two one two [] = false
starts_two one two (b ∷ text) = b == one && starts two text

-- the byte is neither of these two
abbrev pub is_neither : ℕ → ℕ → ℕ → Bool
is_neither one two b = not (b == one) && not (b == two)

-- the number is at least `low` and at most `high`
abbrev pub is_within : ℕ → ℕ → ℕ → Bool
is_within low high b = nat_le low b && nat_le b high

-- an ASCII character
abbrev pub is_ascii : ℕ → Bool
is_ascii b = nat_lt b 128

-- 0 to 9
abbrev pub is_digit : ℕ → Bool
is_digit b = is_within 48 57 b

-- the rest after the longest prefix of bytes of which the test is true
abbrev pub past : (ℕ → Bool) → List ℕ → List ℕ
past test text = drop (prefix_len test text) text

-- the rest after the byte, if it is next
abbrev pub past_byte : ℕ → List ℕ → List ℕ
past_byte byte [] = []
past_byte byte (b ∷ text) = if b == byte then text else b ∷ text

-- the rest after the first such byte, if there is one
abbrev pub after_byte : ℕ → List ℕ → Option (List ℕ)
after_byte byte [] = None
after_byte byte (b ∷ text) = if b == byte then Some text else after_byte byte text

-- the byte, which is required
abbrev pub byte : ℕ → Reader (Unit {0})
byte expected [] = fails ended []
byte expected (b ∷ text) =
    if b == expected then got tt text else fails (wrong_byte expected (b ∷ text)) (b ∷ text)

-- the byte, if it is next
abbrev pub optional : ℕ → Reader (Unit {0})
optional byte text = got tt (past_byte byte text)

-- any one byte
abbrev pub any_byte : Reader (Unit {0})
any_byte text = got tt (past_one text)

-- everything up to the first such byte, or up to the end of the text
abbrev pub all_before : ℕ → Reader (List ℕ)
all_before byte text =
    let rest = past (λ b. not (b == byte)) text in
    got (before text rest) rest

-- The rest after something that must be closed. If it is not, that is a fault, and nothing is left.
abbrev pub closed_or : Fault → Option (List ℕ) → Reading (Unit {0})
closed_or fault None = fails fault []
closed_or fault (Some rest) = got tt rest

-- 0 to 9, a to f, A to F
abbrev pub is_hex_digit : ℕ → Bool
is_hex_digit b = is_digit b || is_within 97 102 b || is_within 65 70 b

-- the rest from the next opening brace on
abbrev pub from_brace : List ℕ → List ℕ
from_brace text = past (λ b. not (b == open_brace)) text
