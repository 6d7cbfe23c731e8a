-- Sets of texts as bits, and places of texts among slots.
-- Serves tables of texts and sets of marks in the crates above.
use Rattle.std.proofs.Common.{◌≡◌, ℕ, ◌*◌, ◌/◌, ◌%◌, ◌^◌, ◌-◌, ◌<◌, List, IsTrue, arith}
use Rattle.std.specs.Int.Bits.{bit_or}
use Rattle.std.proofs.lemmas.Bool.Decides.{nat_tests}
use Rattle.std.proofs.lemmas.Nat.{and_le_r}
use Rattle.std.proofs.lemmas.Nat.Bits.{bit_at_or, same_from_bits}
use Rattle.css_matching.specs.Hashes.{number_from, place_of, Covers, covers}

pub covers_left : (a b : ℕ) → Covers (bit_or a b) a
covers_left a b i = let e = bit_at_or a b i in omega (arith, e)

pub covers_right : (a b : ℕ) → Covers (bit_or a b) b
covers_right a b i = let e = bit_at_or a b i in omega (arith, e)

pub covers_more : (a b c : ℕ) → Covers a b → Covers b c → Covers a c
covers_more a b c p q i = let x = p i in let y = q i in omega (arith, x, y)

-- the test is true of bits that cover others
pub covers_test : (a b : ℕ) → Covers a b → IsTrue (covers a b)
covers_test a b h =
    let same : bit_or a b ≡ a = same_from_bits (bit_or a b) a
    (λ i. let e = bit_at_or a b i in let x = h i in omega (arith, e, x)) in
    grind (arith, nat_tests, same)

-- a place is among the slots
pub place_within : (count : ℕ) (text : List ℕ) → 0 < count → place_of count text < count
place_within count text some =
    let most = and_le_r (number_from 0 text * 11400714819323198485 % 2 ^ 64 / 2 ^ 32) (count - 1) in
    omega (arith, some, most)
