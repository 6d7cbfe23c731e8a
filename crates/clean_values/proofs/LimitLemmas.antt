-- Products of numbers of 15 digits and of units fit. Serves `dimension` and `at_most`.
use Rattle.std.proofs.Common.{ℕ, ◌*◌, ◌<◌, ◌≤◌, ◌^◌, arith}
use Rattle.std.proofs.lemmas.Nat.{mul-lt}

pub times_fit : (a n : ℕ) → a ≤ 1000000000000000 → n ≤ 4800 → a * n < 2 ^ 64
times_fit a n x y = mul-lt a n (2 ^ 51) (2 ^ 13) (omega (arith, x)) (omega (arith, y))

pub parts_fit : (a n : ℕ) → a ≤ 1000000000000000 → n ≤ 127 → a * n < 2 ^ 64
parts_fit a n x y = mul-lt a n (2 ^ 51) (2 ^ 13) (omega (arith, x)) (omega (arith, y))

pub product_fits : (a b : ℕ) → a < 2 ^ 64 → b < 2 ^ 64 → a * b < 2 ^ 128
product_fits a b x y = mul-lt a b (2 ^ 64) (2 ^ 64) x y
