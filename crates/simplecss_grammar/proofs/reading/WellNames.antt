-- What is left after reading a name or a string: an end of the text, and UTF-8 if the text is.
use Rattle.css_text.specs.Characters.{Edition}
use Rattle.css_text.proofs.reading.WellLemmas.{EndsWell, ends-name, well-after, well-nil}
use Rattle.std.proofs.Common.{IsUtf8, List, arith, refl, subst, sym, ℕ, ◌≡◌, None, Option, Some, ◌<◌, ◌∷◌}
use Rattle.css_text.specs.Reading.{Reading, fails, got, left_after}
use Rattle.css_text.specs.AsciiBytes.{hyphen}
use Rattle.css_text.specs.Names.{name}
use Rattle.simplecss_grammar.proofs.reading.ReadNames.{name-fails, name-is}
use Rattle.css_text.proofs.bytes.Utf8Lemmas.{utf8-past_byte_if}
use Rattle.simplecss_grammar.proofs.reading.ReadStrings.{IfCloses, from_quote-closes}
use Rattle.css_text.proofs.reading.EndsLemmas.{ends-by}
use Rattle.css_text.specs.Strings.{from_quote, string_after, string_up_to}

pub well-name : (edition : Edition) (text : List ℕ) → EndsWell text (left_after (name edition text))
well-name edition text = (ends-name edition text, λ u. by u (name edition text) refl)
  where
    by : IsUtf8 text → (r : Reading (List ℕ)) → name edition text ≡ r → IsUtf8 (left_after r)
    by u (got n rest) e = (name-is edition text n rest u e).rest_is
    by u (fails fault rest) e =
        subst IsUtf8 (sym (name-fails edition text rest fault e).1)
        (utf8-past_byte_if hyphen text (omega arith) u)

pub well-string : (quote : ℕ) (text : List ℕ) → quote < 128
    → EndsWell text (left_after (string_after quote text))
well-string quote text low = by (from_quote quote quote text) (from_quote-closes quote quote text)
  where
    by : (o : Option (List ℕ)) → IfCloses quote quote text o
        → EndsWell text (left_after (string_up_to text o))
    by None c = well-nil text
    by (Some closing) c =
        rw c.closing_is
        (well-after quote text c.following low
        (ends-by text c.front (quote ∷ c.following) (sym c.is)))
