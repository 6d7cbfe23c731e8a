-- How much `each` reads.
-- Serves readers of lists.
use Rattle.std.proofs.Common.{ℕ, zero, suc, ◌≤◌, List, length, Option, Some, None, arith}
use Rattle.css_text.specs.Reading.{and_then, up_to, each}

-- what is read at most n times yields at most n values
length-up_to : {A : Type 0} (read : List ℕ → Option (A × List ℕ)) (n : ℕ) (text : List ℕ)
    → length (up_to n read text).0 ≤ n
length-up_to read zero text = omega arith
length-up_to {A = A} read (suc n) text = by (λ rest. length-up_to read n rest) (read text)
  where
    by : ((rest : List ℕ) → length (up_to n read rest).0 ≤ n) → (o : Option (A × List ℕ))
        → length (and_then text o (up_to n read)).0 ≤ suc n
    by more None = omega arith
    by more (Some x) = omega (arith, more x.1)

-- no more values than bytes
pub length-each : {A : Type 0} (read : List ℕ → Option (A × List ℕ)) (text : List ℕ)
    → length (each read text).0 ≤ length text
unfolding each
length-each read text = length-up_to read (length text) text
