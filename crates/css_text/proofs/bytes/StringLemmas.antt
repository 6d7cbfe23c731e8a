-- Strings.
-- Serves `readers::take_string` and `scan::quote_offset` (a string up to its closing quote), and
-- `readers::take_name` (a name).
use Rattle.std.proofs.Common.{◌≡◌, ℕ, ◌+◌, ◌-◌, ◌<◌, ◌≤◌, List, [], length, take, drop, slice_range, Some, None, arith, refl, ap, sym, ◌∙◌, get_or, ◌⊎◌, length-drop, add-one, drop-cons}
use Rattle.std.proofs.lemmas.Bool.Decides.{nat_tests}
use Rattle.css_text.specs.AsciiBytes.{backslash}
use Rattle.css_text.specs.Reading.{ended, got, fails, before}
use Rattle.css_text.specs.Bytes.{past_one}
use Rattle.css_text.specs.Strings.{from_quote, string_up_to, string_after}

-- what is before the last bytes
pub before-drop : (text : List ℕ) (n : ℕ) → n ≤ length text
    → before text (drop n text) ≡ take n text
before-drop text n h =
    let len : length text - length (drop n text) ≡ n = omega (arith, length-drop n text) in
    ap (λ k. take k text) len

past_one-drop : (text : List ℕ) (n : ℕ) → n < length text
    → past_one (drop n text) ≡ drop (n + 1) text
past_one-drop text n h = rw (drop-cons text n 0, add-one) refl

-- a string whose closing quote follows n bytes
pub string_after_closed : (quote n : ℕ) (text : List ℕ) → n < length text
    → from_quote quote quote text ≡ Some (drop n text)
    → string_after quote text ≡ got (take n text) (drop (n + 1) text)
string_after_closed quote n text h e =
    ap (string_up_to text) e ∙ ap (λ v. got v (past_one (drop n text)))
    (before-drop text n (omega arith)) ∙ ap (got (take n text)) (past_one-drop text n h)

-- the same, of the text that is left to read
pub string-got : (quote n : ℕ) (tail text value rest : List ℕ) → tail ≡ text → n < length tail
    → from_quote quote quote tail ≡ Some (drop n tail) → value ≡ slice_range tail 0 n
    → rest ≡ drop (n + 1) text → string_after quote text ≡ got value rest
string-got quote n tail text value rest e within closing is left =
    let shown : slice_range tail 0 n ≡ take n tail = ap (λ k. take k tail) (omega arith) in
    ap (string_after quote) (sym e) ∙ string_after_closed quote n tail within closing
    ∙ ap (λ v. got v (drop (n + 1) tail)) (sym (is ∙ shown))
    ∙ ap (got value) (ap (drop (n + 1)) e ∙ sym left)

-- a string that is not closed
pub string-none : (quote : ℕ) (tail text rest : List ℕ) → tail ≡ text
    → from_quote quote quote tail ≡ None → rest ≡ [] → string_after quote text ≡ fails ended rest
string-none quote tail text rest e none left =
    ap (string_after quote) (sym e) ∙ ap (string_up_to tail) none ∙ ap (fails ended) (sym left)

-- a byte that closes no string is consumed
pub from_quote-passes : (quote previous : ℕ) (bytes : List ℕ) (n : ℕ) → n < length bytes
    → ((get_or bytes n 0 ≡ quote) × (previous ≡ backslash)) ⊎ (get_or bytes n 0 ≡ quote → ⊥)
    → from_quote quote previous (drop n bytes)
    ≡ from_quote quote (get_or bytes n 0) (drop (n + 1) bytes)
from_quote-passes quote previous bytes n h passes = rw (drop-cons bytes n 0, add-one)
    (grind (arith, nat_tests))
