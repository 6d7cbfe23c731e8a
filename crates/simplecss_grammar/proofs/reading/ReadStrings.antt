-- What a value is that was read as a string.
-- Serves `Selector::{parse, parse_front}` and `StyleSheet::parse` (a selector printed and read
-- again).
use Rattle.std.proofs.Common.{◌≡◌, ℕ, List, [], ◌∷◌, ◌++◌, Bool, true, false, if◌then◌else◌, ◌&&◌, not, ◌==◌, refl, sym, ap, ◌∙◌, Option, Some, None, eqb-true}
use Rattle.css_text.proofs.reading.EndsLemmas.{before-append}
use Rattle.css_text.specs.AsciiBytes.{backslash}
use Rattle.css_text.specs.Reading.{before}
use Rattle.css_text.specs.Strings.{from_quote, string_up_to, string_after}
use Rattle.simplecss_grammar.proofs.reading.PrintedPieces.{last_after, IsValue}
use Rattle.css_text.proofs.reading.GotLemmas.{IfGot}

-- where the closing quote is: what is before it ends with no backslash
pub record Closes (quote previous : ℕ) (text closing : List ℕ) : Type 0 where
  pub front : List ℕ
  pub following : List ℕ
  pub closing_is : closing ≡ quote ∷ following
  pub is : text ≡ front ++ (quote ∷ following)
  pub open_end : (last_after previous front == backslash) ≡ false

both_parts : (a b : Bool) → (a && not b) ≡ true → (a ≡ true) × (b ≡ false)
both_parts true true h = absurd (cc)
both_parts true false h = (refl, refl)
both_parts false b h = absurd (cc)

-- where a closing quote was found, it closes
abbrev pub IfCloses : (quote previous : ℕ) → List ℕ → Option (List ℕ) → Type 0
IfCloses quote previous text None = Unit {0}
IfCloses quote previous text (Some closing) = Closes quote previous text closing

closes-later : (quote previous b : ℕ) (text : List ℕ) (o : Option (List ℕ))
    → IfCloses quote b text o → IfCloses quote previous (b ∷ text) o
closes-later quote previous b text None h = tt
closes-later quote previous b text (Some closing) h =
    record {
      front = b ∷ h.front;
      following = h.following;
      closing_is = h.closing_is;
      is = ap (λ l. b ∷ l)
          h.is;
      open_end = h.open_end;
    }

-- the closing quote that is found closes the string
pub from_quote-closes : (quote previous : ℕ) (text : List ℕ)
    → IfCloses quote previous text (from_quote quote previous text)
from_quote-closes quote previous [] = tt
from_quote-closes quote previous (b ∷ text) =
    by (b == quote && not (previous == backslash)) refl (from_quote-closes quote b text)
  where
    by : (t : Bool) → (b == quote && not (previous == backslash)) ≡ t
        → IfCloses quote b text (from_quote quote b text)
        → IfCloses quote previous (b ∷ text)
        (if t then Some (b ∷ text) else from_quote quote b text)
    by true h more =
        let known = both_parts (b == quote) (previous == backslash) h in
        let same = ap (λ k. k ∷ text) (eqb-true b quote known.0) in
        record { front = []; following = text; closing_is = same; is = same; open_end = known.1 }
    by false h more = closes-later quote previous b text (from_quote quote b text) more

quote_start : (quote : ℕ) (front : List ℕ) → (last_after quote front == backslash) ≡ false
    → IsValue front
quote_start quote [] h = refl
quote_start quote (b ∷ front) h = h

-- a string's value ends with no backslash
pub string_after-gives : (quote : ℕ) (text : List ℕ)
    → IfGot (λ v rest. IsValue v) (string_after quote text)
string_after-gives quote text =
    by (from_quote quote quote text) (from_quote-closes quote quote text)
  where
    by : (o : Option (List ℕ)) → IfCloses quote quote text o
        → IfGot (λ v rest. IsValue v) (string_up_to text o)
    by None c = tt
    by (Some closing) c =
        let value : before text closing ≡ c.front =
        ap (λ t. before t closing) (c.is ∙ ap (λ l. c.front ++ l) (sym c.closing_is))
        ∙ before-append c.front closing in
        rw value (quote_start quote c.front c.open_end)
