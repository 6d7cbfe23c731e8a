-- A gap of a text, by the cursor of `css_text`.
-- Serves `words::read_gap`.
use Rattle.std.proofs.Common.{◌≡◌, ℕ, Bool, false, List, [], drop, sym, ap, ◌∙◌, refl}
use Rattle.css_text.specs.Comments.{gap as gap_before}
use Rattle.css_text.specs.Errors.{FailsBy}
use Rattle.css_text.specs.Reading.{Reading as TextReading, got as text_got, fails as text_fails}
use Rattle.css_text.specs.declared.error.Error.{Error}
use Rattle.css_selector_text.specs.reading.Grammar.{gap, closed_gap}
use Rattle.css_selector_text.specs.reading.Readings.{got}

pub rest_here : (pos : ℕ) (t text : List ℕ) → t ≡ text → pos ≡ 0 → drop pos t ≡ text
rest_here pos t text e z = ap (λ n. drop n t) z ∙ e

pub gap_got : (text before : List ℕ) (spaced : Bool) (left back : List ℕ) → before ≡ text
    → gap_before before ≡ text_got spaced left → back ≡ left → got spaced back ≡ gap text
unfolding gap
gap_got text before spaced left back e h b =
    ap (got spaced) b ∙ ap closed_gap (sym h) ∙ ap (λ t. closed_gap (gap_before t)) e

pub gap_closed : (all text before : List ℕ) (error : Error) (left : List ℕ) → before ≡ text
    → FailsBy all (gap_before before) error left → got false [] ≡ gap text
unfolding gap
gap_closed all text before error left e f = by (gap_before before) refl f
  where
    by : (r : TextReading Bool) → gap_before before ≡ r → FailsBy all r error left
        → got false [] ≡ closed_gap (gap_before text)
    by (text_got s l) h k = absurd k
    by (text_fails fault l) h k =
        ap closed_gap (sym h) ∙ ap (λ t. closed_gap (gap_before t)) e
