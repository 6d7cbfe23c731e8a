-- Values without a parenthesis.
-- Serves `hints::rest_of_open_value` (which values need not be read).
use Rattle.std.proofs.Common.{◌≡◌, ℕ, suc, ◌<◌, false, List, [], ◌∷◌, length, get_or, refl, ap, ◌∙◌, arith}
use Rattle.std.specs.Prelude.{nat_lt}
use Rattle.std.proofs.lemmas.Bool.Decides.{nat_tests}
use Rattle.css_text.specs.AsciiBytes.{space, open_parenthesis}
use Rattle.simplecss.specs.declared.hints.parentheses.Within.{Within}
use Rattle.simplecss.specs.declared.hints.parentheses.Within.TheVariants.{Value, String, Comment}
use Rattle.simplecss.specs.OpenParentheses.{open_after, open_at_end, next_within, next_before, leaves_open}

-- no byte but a parenthesis opens one
none-opened : (within : Within) (byte : ℕ) → (byte ≡ open_parenthesis → ⊥)
    → open_after within 0 byte ≡ 0
none-opened Value byte not = grind (arith, nat_tests, not)
none-opened (String quote) byte not = refl
none-opened Comment byte not = refl

none-open : (within : Within) (before : ℕ) (text : List ℕ)
    → ((k : ℕ) → k < length text → get_or text k 0 ≡ open_parenthesis → ⊥)
    → open_at_end within before 0 text ≡ 0
none-open within before [] none = refl
none-open within before (byte ∷ text) none =
    ap (λ n. open_at_end (next_within within before byte) (next_before within before byte) n text)
    (none-opened within byte (none 0 (omega arith)))
    ∙ none-open (next_within within before byte) (next_before within before byte) text
    (λ k less. none (suc k) (omega (arith, less)))

-- a value without one leaves none open
pub leaves-none : (value : List ℕ)
    → ((k : ℕ) → k < length value → get_or value k 0 ≡ open_parenthesis → ⊥)
    → leaves_open value ≡ false
leaves-none value none =
    ap (λ n. nat_lt 0 n) (none-open Value space value none)
