-- Limits of values: which numbers and which words a value of a property may have.
use Rattle.std.specs.Prelude.{ℕ, Bool, true, false, not, ◌||◌, ◌&&◌, ◌==◌, ◌+◌, ◌*◌, ◌-◌, nat_le, nat_lt, if◌then◌else◌, List, [], ◌∷◌, codes, Option, Some, None}
use Rattle.css_text.specs.AsciiBytes.{hyphen, full_stop}
use Rattle.css_text.specs.Reading.{before}
use Rattle.css_text.specs.Bytes.{is_digit, starts, starts_by}
use Rattle.css_syntax.specs.Tokens.{spells}
use Rattle.css_syntax.specs.TokenLists.{PlacedToken, tokens, past_sign}
use Rattle.css_syntax.specs.TokenViews.{text_of}
use Rattle.css_syntax.specs.declared.tokenizer.TokenKind.{TokenKind}
use Rattle.css_syntax.specs.declared.tokenizer.TokenKind.TheVariants as kinds
use Rattle.clean_values.specs.declared.numbers.Amount.{Amount}
use Rattle.clean_values.specs.Values.{inside_of}

-- Properties whose values have limits, and the limit of each: a text of two numbers or more, between which each number of a
-- value must be, and of the words that it may have.
pub record LimitsText : Type 0 where
  pub properties : List (List ℕ)
  pub limits : List (List ℕ)

-- ---- numbers

-- the greatest number to which a digit is added
abbrev pub most : ℕ
most = 99999999999999

-- Digits after a number so far, which is over `scale`, or over nothing before a full stop. None if another byte follows, or if
-- there are more than 15.
abbrev pub digits_from : (so_far scale : ℕ) → List ℕ → Option (ℕ × ℕ)
digits_from so_far scale [] = Some (so_far, scale)
digits_from so_far scale (b ∷ text) =
    if is_digit b
    then (if nat_lt most so_far || nat_lt most scale then None
    else digits_from (10 * so_far + (b - 48)) (10 * scale) text)
    else (if b == full_stop && scale == 0 then digits_from so_far 1 text else None)

-- so much over a scale, or over 1
abbrev pub over : (below_zero : Bool) → Option (ℕ × ℕ) → Option Amount
over below_zero None = None
over below_zero (Some r) = Some (record {
  below_zero = below_zero;
  times = r.0;
  parts = if r.1 == 0 then 1 else r.1;
})

-- a number with a sign or without, and with no exponent
abbrev pub number : List ℕ → Option Amount
number text = over (starts hyphen text) (digits_from 0 0 (past_sign text))

-- ---- units

-- How many pixels a unit is: the first number over the second (CSS Values and Units 4, section 6.2). Any other unit counts by its
-- number.
abbrev pub pixels : (unit : List ℕ) → ℕ × ℕ
pixels unit =
    if spells (codes "in") unit then (96, 1)
    else (if spells (codes "cm") unit then (4800, 127)
    else (if spells (codes "mm") unit then (480, 127)
    else (if spells (codes "q") unit then (120, 127)
    else (if spells (codes "pt") unit then (4, 3)
    else (if spells (codes "pc") unit then (16, 1) else (1, 1))))))

-- so many of a unit
abbrev pub of_unit : ℕ × ℕ → Option Amount → Option Amount
of_unit unit None = None
of_unit unit (Some it) = Some (record {
  below_zero = it.below_zero;
  times = it.times * unit.0;
  parts = it.parts * unit.1;
})

-- the number of a token of this kind, in pixels if it is an absolute length
abbrev pub amount_by : TokenKind → PlacedToken → Option Amount
amount_by kinds.Number token = number (text_of token)
amount_by kinds.Percentage token = number (before token.from token.inside)
amount_by kinds.Dimension token =
    of_unit (pixels (inside_of token)) (number (before token.from token.inside))
amount_by _ token = None

abbrev pub amount : PlacedToken → Option Amount
amount token = amount_by token.kind token

-- ---- limits

-- the first number is at most the second
abbrev pub at_most : Amount → Amount → Bool
at_most one other =
    let left = one.times * other.parts in
    let right = other.times * one.parts in
    if one.below_zero then (if other.below_zero then nat_le right left else true)
    else (if other.below_zero then left == 0 && right == 0 else nat_le left right)

abbrev pub holds_at_most : Option Amount → Amount → Bool
holds_at_most None it = false
holds_at_most (Some bound) it = at_most bound it

abbrev pub holds_at_least : Option Amount → Amount → Bool
holds_at_least None it = false
holds_at_least (Some bound) it = at_most it bound

-- one of the numbers of a limit is at most this one
abbrev pub reaches_down : (limit : List PlacedToken) → Amount → Bool
reaches_down [] it = false
reaches_down (token ∷ more) it = holds_at_most (amount token) it || reaches_down more it

-- one of them is at least this one
abbrev pub reaches_up : (limit : List PlacedToken) → Amount → Bool
reaches_up [] it = false
reaches_up (token ∷ more) it = holds_at_least (amount token) it || reaches_up more it

-- a number is between those of a limit
abbrev pub is_between : (limit : List ℕ) → Option Amount → Bool
is_between limit None = false
is_between limit (Some it) = reaches_down (tokens limit) it && reaches_up (tokens limit) it

abbrev pub is_word : TokenKind → Bool
is_word kinds.Ident = true
is_word _ = false

-- the word is one of those of a limit
abbrev pub has_word : (limit : List PlacedToken) → (word : List ℕ) → Bool
has_word [] word = false
has_word (token ∷ more) word =
    is_word token.kind && spells (inside_of token) word || has_word more word

-- a comma or a solidus
abbrev pub is_separator : ℕ → Bool
is_separator b = b == 44 || b == 47

-- A value with a limit has no more than words and numbers of the limit, blanks, commas and solidi.
abbrev pub keeps_by : (limit : List ℕ) → TokenKind → PlacedToken → Bool
keeps_by limit kinds.Whitespace token = true
keeps_by limit kinds.Ident token = has_word (tokens limit) (inside_of token)
keeps_by limit kinds.Number token = is_between limit (amount token)
keeps_by limit kinds.Percentage token = is_between limit (amount token)
keeps_by limit kinds.Dimension token = is_between limit (amount token)
keeps_by limit kinds.Delim token = starts_by is_separator token.from
keeps_by limit _ token = false

abbrev pub all_keep : (limit : List ℕ) → List PlacedToken → Bool
all_keep limit [] = true
all_keep limit (token ∷ more) = keeps_by limit token.kind token && all_keep limit more

-- the limit of a property, if it has one
abbrev pub limit_of : (properties limits : List (List ℕ)) → (name : List ℕ) → Option (List ℕ)
limit_of [] limits name = None
limit_of (one ∷ properties) [] name = None
limit_of (one ∷ properties) (limit ∷ limits) name =
    if spells one name then Some limit else limit_of properties limits name

abbrev pub keeps : Option (List ℕ) → (value : List ℕ) → Bool
keeps None value = true
keeps (Some limit) value = all_keep limit (tokens value)

-- A value of a property is within the limit of the property, if that has one.
abbrev pub is_within_limit : LimitsText → (name value : List ℕ) → Bool
is_within_limit all name value = keeps (limit_of all.properties all.limits name) value
