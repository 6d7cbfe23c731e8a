-- Hashes of texts, and sets of texts as 64 bits.
use Rattle.std.specs.Prelude.{ℕ, ◌+◌, ◌-◌, ◌*◌, ◌/◌, ◌%◌, ◌^◌, ◌≤◌, ◌==◌, Bool, List, [], ◌∷◌, length}
use Rattle.std.specs.Int.{bit_at}
use Rattle.std.specs.Int.Bits.{bit_or, bit_and}

-- one of 64 numbers, by the length and the first byte
abbrev pub small_hash : List ℕ → ℕ
small_hash [] = 0
small_hash (byte ∷ bytes) = (length (byte ∷ bytes) * 7 % 2 ^ 64 + byte) % 2 ^ 64 % 64

-- one of 64 bits, by that number
abbrev pub mark_of : List ℕ → ℕ
mark_of text = 1 * 2 ^ small_hash text % 2 ^ 64

-- a number for a text, counted from a first number
abbrev pub number_from : ℕ → List ℕ → ℕ
number_from number [] = number
number_from number (byte ∷ bytes) = number_from ((number * 37 % 2 ^ 64 + byte) % 2 ^ 64) bytes

-- the place of a text among `count` slots, by the upper half of a multiple of its number
abbrev pub place_of : ℕ → List ℕ → ℕ
place_of count text =
    bit_and (number_from 0 text * 11400714819323198485 % 2 ^ 64 / 2 ^ 32) (count - 1)

-- every bit of the second number is one of the first
abbrev pub Covers : ℕ → ℕ → Type 0
Covers bits others = (i : ℕ) → bit_at others i ≤ bit_at bits i

-- the same, as a test
abbrev pub covers : ℕ → ℕ → Bool
covers bits others = bit_or bits others == bits
