-- A word begins at the start of a value or after white space.
-- Serves `attributes::is_word`.
use Rattle.std.proofs.Common.{◌≡◌, ℕ, ◌<◌, ◌≤◌, ◌||◌, Bool, true, false, List, [], ◌∷◌, length, refl, ap, ◌∙◌, arith}
use Rattle.std.specs.Prelude.{if◌then◌else◌}
use Rattle.css_text.specs.Characters.{is_space}
use Rattle.css_selector_text.specs.AttributeTests.{begins_up_to, is_word_of}
use Rattle.css_selectors.specs.internal.WordStarts.{after_space}

-- where no word may begin, one begins after the next white space
pub word_after : (ignores : Bool) (text value : List ℕ)
    → is_word_of false ignores text value ≡ is_word_of true ignores text (after_space value)
word_after ignores text [] = refl
word_after ignores text (b ∷ value) = at (is_space b) (word_after ignores text value)
  where
    at : (space : Bool)
        → is_word_of false ignores text value ≡ is_word_of true ignores text (after_space value)
        → is_word_of space ignores text value
        ≡ is_word_of true ignores text (if space then value else after_space value)
    at true later = refl
    at false later = later

-- a value that does not begin with this text as a word has it exactly if what is after white space has it
pub word_further : (ignores : Bool) (text value : List ℕ)
    → begins_up_to is_space ignores text value ≡ false
    → is_word_of true ignores text value ≡ is_word_of true ignores text (after_space value)
word_further ignores text [] none = refl
word_further ignores text (b ∷ value) none =
    ap (λ begun. begun || is_word_of (is_space b) ignores text value) none
    ∙ word_after ignores text (b ∷ value)

after_space-within : (value : List ℕ) → length (after_space value) ≤ length value
after_space-within [] = omega arith
after_space-within (b ∷ value) = at (is_space b) (after_space-within value)
  where
    at : (space : Bool) → length (after_space value) ≤ length value
        → length (if space then value else after_space value) ≤ length (b ∷ value)
    at true later = omega arith
    at false later = omega (arith, later)

pub after_space-less : (value : List ℕ) → 0 < length value
    → length (after_space value) < length value
after_space-less [] some = absurd (omega (arith, some))
after_space-less (b ∷ value) some = at (is_space b)
  where
    at : (space : Bool)
        → length (if space then value else after_space value) < length (b ∷ value)
    at true = omega arith
    at false = let within = after_space-within value in omega (arith, within)
