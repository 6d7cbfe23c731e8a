-- Printed heads read back.
-- Serves `Selector::{parse, parse_front}` and `StyleSheet::parse` (a selector printed and read
-- again).
use Rattle.std.proofs.Common.{◌≡◌, ℕ, ◌<◌, ◌⊎◌, inl, inr, List, [], ◌∷◌, ◌++◌, false, ◌==◌, arith, refl, sym, ap, ◌∙◌, subst, Option, Some, None}
use Rattle.std.specs.Str.{chars}
use lib.Utf8.{encode}
use Rattle.css_text.specs.AsciiBytes.{asterisk, carriage_return, colon, comma, form_feed, full_stop, greater_than_sign, hyphen, newline, number_sign, open_brace, open_bracket, plus_sign, slash, space, tab}
use Rattle.css_text.specs.Reading.{got}
use Rattle.css_text.specs.Characters.{Edition, first_edition, second_edition, is_name_char}
use Rattle.css_text.specs.Names.{past_name_chars, name}
use Rattle.simplecss_grammar.specs.Tokens.{Token}
use Rattle.simplecss_grammar.specs.Tokens.Token.{universal_selector, type_selector}
use Rattle.simplecss_grammar.specs.Pieces.{named_token, next_kind, solid}
use Rattle.simplecss_grammar.specs.Selectors.{Part}
use Rattle.simplecss_grammar.specs.Selectors.Part.{any_type, of_type}
use Rattle.simplecss_grammar.specs.Printing.{type_text}
use Rattle.css_text.proofs.bytes.GapLemmas.{NoGap, no_gap-byte}
use Rattle.simplecss_grammar.proofs.reading.PrintedNames.{IsName, name-reads, ends_names, IsNameByte, name-first, other_byte}

-- what begins like a name is after no gap
pub no_gap-name : (edition : Edition) (b : ℕ) (text : List ℕ) → IsNameByte edition b
    → NoGap (b ∷ text)
no_gap-name edition b text w =
    no_gap-byte b text
    (rw (
      no space (omega arith) refl refl,
      no tab (omega arith) refl refl,
      no newline (omega arith) refl refl,
      no carriage_return (omega arith) refl refl,
      no form_feed (omega arith) refl refl,
    ) refl)
    (no slash (omega arith) refl refl)
  where
    no : (k : ℕ) → k < 128 → is_name_char first_edition k ≡ false
        → is_name_char second_edition k ≡ false → (b == k) ≡ false
    no k less e f = other_byte edition k b less e f w

named_token-type : (edition : Edition) (n tail : List ℕ) → IsName edition n
    → ends_names edition tail ≡ false
    → named_token edition type_selector (n ++ tail) ≡ got (type_selector n) tail
unfolding named_token
named_token-type edition n tail w e = let read = name-reads edition n tail w e in rw read refl

-- what begins like a name is a type
solid-name_byte : (edition : Edition) (b : ℕ) (text : List ℕ) → IsNameByte edition b
    → solid edition (b ∷ text) ≡ named_token edition type_selector (b ∷ text)
unfolding solid next_kind
solid-name_byte edition b text w =
    rw (
      no comma (omega arith) refl refl,
      no open_brace (omega arith) refl refl,
      no slash (omega arith) refl
          refl,
      no greater_than_sign (omega arith) refl refl,
      no plus_sign (omega arith) refl refl,
      no asterisk (omega arith) refl refl,
      no number_sign (omega arith) refl refl,
      no full_stop (omega arith) refl refl,
      no open_bracket (omega arith) refl refl,
      no colon (omega arith) refl refl,
    ) refl
  where
    no : (k : ℕ) → k < 128 → is_name_char first_edition k ≡ false
        → is_name_char second_edition k ≡ false → (b == k) ≡ false
    no k less e f = other_byte edition k b less e f w

-- What the type of a component satisfies that was read, where this text follows it. A hyphen
-- alone is a type only where it ends the text.
abbrev pub IsTypeName : Edition → Option (List ℕ) → List ℕ → Type 0
IsTypeName edition None following = Unit {0}
IsTypeName edition (Some n) following = IsName edition n ⊎ ((n ≡ hyphen ∷ []) × (following ≡ []))

hyphen-reads : (edition : Edition)
    → solid edition (hyphen ∷ []) ≡ got (type_selector (hyphen ∷ [])) []
unfolding solid next_kind named_token name past_name_chars chars encode
hyphen-reads first_edition = refl
hyphen-reads second_edition = refl

-- the token of a head
abbrev pub head_token : Option (List ℕ) → Token
head_token None = universal_selector
head_token (Some n) = type_selector n

-- what a head says of its component
abbrev pub head_part : Option (List ℕ) → Part
head_part None = any_type
head_part (Some n) = of_type n

solid-star : (edition : Edition) (text : List ℕ)
    → solid edition (asterisk ∷ text) ≡ got universal_selector text
unfolding solid next_kind
solid-star edition text = refl

-- a printed head is one solid piece, and after no gap
pub head-reads : (edition : Edition) (o : Option (List ℕ)) (tail : List ℕ)
    → IsTypeName edition o tail → ends_names edition tail ≡ false
    → solid edition (type_text o ++ tail) ≡ got (head_token o) tail
head-reads edition None tail w e = solid-star edition tail
head-reads edition (Some n) tail (inr h) e =
    ap (solid edition) (ap (λ l. l ++ tail) h.0 ∙ ap (λ l. hyphen ∷ l) h.1) ∙ hyphen-reads edition
    ∙ ap (λ m. got (type_selector m) []) (sym h.0) ∙ ap (got (type_selector n)) (sym h.1)
head-reads edition (Some n) tail (inl w) e =
    let f = name-first edition n w in
    let g : n ++ tail ≡ f.first ∷ (f.others ++ tail) = ap (λ l. l ++ tail) f.is in
    ap (solid edition) g ∙ solid-name_byte edition f.first (f.others ++ tail) f.fit
    ∙ ap (named_token edition type_selector) (sym g) ∙ named_token-type edition n tail w e

-- no gap is before a printed head
pub head-no_gap : (edition : Edition) (o : Option (List ℕ)) (tail : List ℕ)
    → IsTypeName edition o tail → NoGap (type_text o ++ tail)
head-no_gap edition None tail w = no_gap-byte asterisk tail refl refl
head-no_gap edition (Some n) tail (inr h) =
    subst NoGap (ap (λ l. l ++ tail) (sym h.0)) (no_gap-byte hyphen tail refl refl)
head-no_gap edition (Some n) tail (inl w) =
    let f = name-first edition n w in
    subst NoGap (ap (λ l. l ++ tail) (sym f.is))
    (no_gap-name edition f.first (f.others ++ tail) f.fit)
