-- The first such byte of a text, among its first bytes or after them.
-- Serves `tree::count_before` (where a field ends).
use Rattle.std.proofs.Common.{◌≡◌, ◌==◌, ◌≢◌, ℕ, ◌<◌, ◌≤◌, Bool, true, List, length, take, get_or, sym, ap, ◌∙◌, subst, arith, ne_eqb, eq-eqb, Option, None, Some}
use Rattle.std.specs.List.{position_or_len}
use Rattle.std.specs.Prelude.{unwrap_or, MatchOption}
use Rattle.std.proofs.lemmas.List.{length-take-le, get_or-take}
use Rattle.std.proofs.lemmas.List.Sums.{position_or_len_is, fails_before_first, passes_at_first}

-- what a search of the whole text finds
pub first_found : (byte : ℕ) (text : List ℕ) (found : Option ℕ)
    → MatchOption found ((i : ℕ) → i < length text → get_or text i 0 ≢ byte)
    (λ k. (k < length text) × (get_or text k 0 ≡ byte)
    × ((i : ℕ) → i < k → get_or text i 0 ≢ byte))
    → unwrap_or found (length text) ≡ position_or_len (λ b. b == byte) text
first_found byte text None none =
    sym (position_or_len_is (λ b. b == byte) text (length text) 0 (omega arith)
    (λ k lt. ne_eqb (get_or text k 0) byte (none k lt)) (λ lt. absurd (omega (arith, lt))))
first_found byte text (Some at) first =
    sym (position_or_len_is (λ b. b == byte) text at 0 (let lt = first.0 in omega (arith, lt))
    (λ k lt. ne_eqb (get_or text k 0) byte (first.2 k lt))
    (λ lt. eq-eqb (get_or text at 0) byte first.1))

-- one that is among the first bytes is the first of all
pub near_is : (test : ℕ → Bool) (bytes : List ℕ) (few near : ℕ) → few ≤ length bytes
    → near ≡ position_or_len test (take few bytes) → near < few
    → near ≡ position_or_len test bytes
near_is test bytes few near le is lt =
    let size : length (take few bytes) ≡ few = length-take-le few bytes le in
    let within : position_or_len test (take few bytes) < length (take few bytes) =
    omega (arith, is, lt, size) in
    sym (position_or_len_is test bytes near 0 (omega arith)
    (λ k before. sym (ap test (get_or-take few bytes k 0 (omega (arith, before, lt))))
    ∙ fails_before_first test (take few bytes) k 0 (omega (arith, before, is)))
    (λ inside. sym (ap test (get_or-take few bytes near 0 lt))
    ∙ subst (λ k. test (get_or (take few bytes) k 0) ≡ true) (sym is)
    (passes_at_first test (take few bytes) 0 within)))
