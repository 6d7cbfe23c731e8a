-- Lemmas on the last line of a text.
-- Serves `position::column_after` (the column of an offset).
use Rattle.std.proofs.Common.{◌≡◌, ◌≢◌, ℕ, ◌+◌, ◌-◌, ◌<◌, List, not, ◌==◌, length, drop, get_or, refl, ap, sym, ◌∙◌, arith}
use Rattle.std.specs.List.{after_last, suffix_len}
use Rattle.std.proofs.lemmas.List.Sums.{suffix_len_is}
use Rattle.std.proofs.lemmas.Bool.Decides.{nat_tests}
use Rattle.css_text.specs.AsciiBytes.{newline}

-- what follows the last newline, at k
pub after_newline : (text : List ℕ) (k : ℕ) → k < length text → get_or text k 0 ≡ newline
    → ((i : ℕ) → k < i → i < length text → get_or text i 0 ≢ newline)
    → drop (k + 1) text ≡ after_last (λ b. b == newline) text
after_newline text k l at later =
    let others : suffix_len (λ b. not (b == newline)) text ≡ length text - (k + 1)
    = suffix_len_is (λ b. not (b == newline)) text (k + 1) 0 (omega arith) (λ i a b.
    let ne : get_or text i 0 ≢ newline = later i (omega arith) b in grind (arith, nat_tests))
    (λ _. let same : k + 1 - 1 ≡ k = omega arith in rw (same, at) refl) in
    let from : length text - (length text - (k + 1)) ≡ k + 1 = omega arith in
    sym (ap (λ n. drop (length text - n) text) others ∙ ap (λ n. drop n text) from)

-- a text without a newline is one line
pub one_line : (text : List ℕ) → ((i : ℕ) → i < length text → get_or text i 0 ≢ newline)
    → text ≡ after_last (λ b. b == newline) text
one_line text none =
    let others : suffix_len (λ b. not (b == newline)) text ≡ length text - 0
    = suffix_len_is (λ b. not (b == newline)) text 0 0 (omega arith)
    (λ i a b. let ne : get_or text i 0 ≢ newline = none i b in grind (arith, nat_tests))
    (λ z. absurd (omega arith)) in
    let from : length text - (length text - 0) ≡ 0 = omega arith in
    sym (ap (λ n. drop (length text - n) text) others ∙ ap (λ n. drop n text) from)
