-- Words in a text, and what is around them. A place is what is left of the text from there on.
use Rattle.std.specs.Prelude.{ℕ, Bool, true, false, not, ◌||◌, ◌==◌, nat_le, if◌then◌else◌, List, [], ◌∷◌, Option, Some, None}
use Rattle.css_text.specs.AsciiBytes.{equals_sign, semicolon, space}
use Rattle.css_text.specs.Reading.{before}
use Rattle.css_text.specs.Bytes.{past}
use Rattle.css_text.specs.Characters.{is_space}
use Rattle.css_html.specs.Marks.{past_letters}

-- nothing is left
abbrev pub is_empty : List ℕ → Bool
is_empty [] = true
is_empty (b ∷ text) = false

-- a rest was found, and nothing is left there
abbrev pub is_end : Option (List ℕ) → Bool
is_end None = false
is_end (Some rest) = is_empty rest

-- a rest was found, and nothing but space bytes is left there
abbrev pub is_blank_end : Option (List ℕ) → Bool
is_blank_end None = false
is_blank_end (Some rest) = is_empty (past is_space rest)

-- the text is this word in any case; the word is in lower case
abbrev pub is_word : (word text : List ℕ) → Bool
is_word word text = is_end (past_letters word text)

-- the same with any space bytes at the ends of the text
abbrev pub is_spaced_word : (word text : List ℕ) → Bool
is_spaced_word word text = is_blank_end (past_letters word (past is_space text))

-- the rest after `=`, if that is next
abbrev pub past_sign : List ℕ → Option (List ℕ)
past_sign [] = None
past_sign (b ∷ text) = if b == equals_sign then Some text else None

-- the text up to its rest, if that is not empty
abbrev pub closed_at : (text rest : List ℕ) → Option (List ℕ)
closed_at text [] = None
closed_at text (b ∷ rest) = Some (before text (b ∷ rest))

-- the text up to the next such byte, if there is one
abbrev pub up_to_byte : ℕ → List ℕ → Option (List ℕ)
up_to_byte end text = closed_at text (past (λ b. not (b == end)) text)

-- a space or a control character before it
abbrev pub is_control : ℕ → Bool
is_control b = nat_le b space

-- a byte of a label without quotes in the content of a `meta`
abbrev pub is_in_label : ℕ → Bool
is_in_label b = not (is_space b || b == semicolon)
