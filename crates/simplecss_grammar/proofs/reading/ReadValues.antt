-- What a value of an attribute is that was read.
-- Serves `Selector::{parse, parse_front}` and `StyleSheet::parse` (a selector printed and read
-- again).
use Rattle.std.proofs.Common.{◌≡◌, ℕ, ◌<◌, List, [], ◌∷◌, ◌++◌, Bool, true, false, ◌&&◌, ◌==◌, arith, refl, sym, ap, ◌∙◌, subst, IsUtf8, inl, inr, eqb-true}
use Rattle.std.specs.Str.{chars}
use Rattle.std.specs.List.{list_all}
use Rattle.std.proofs.lemmas.Str.{chars-append, chars-nil, chars-encodes}
use Rattle.std.proofs.lemmas.List.Folds.{list_all-append}
use Rattle.css_text.specs.AsciiBytes.{backslash}
use Rattle.css_text.specs.Characters.{Edition, first_edition, second_edition, is_name_char}
use Rattle.css_text.specs.Names.{name}
use Rattle.css_text.specs.Strings.{is_quote, string_or_name}
use Rattle.simplecss_grammar.proofs.reading.PrintedNames.{IsName}
use Rattle.simplecss_grammar.proofs.reading.PrintedPieces.{last_after, IsValue}
use Rattle.simplecss_grammar.proofs.reading.ReadNames.{name-is}
use Rattle.simplecss_grammar.proofs.reading.ReadStrings.{string_after-gives}
use Rattle.css_text.proofs.bytes.Utf8Lemmas.{utf8-before_byte, chars-byte}
use Rattle.css_text.proofs.reading.GotLemmas.{IfGot, if_got, if_got-if}
use Rattle.std.proofs.lemmas.Bool.Decides.{nat_tests}

last_split : (b : ℕ) (v : List ℕ) → (last_after b v == backslash) ≡ true
    → (front : List ℕ) × (b ∷ v ≡ front ++ (backslash ∷ []))
last_split b [] e = ([], ap (λ k. k ∷ []) (eqb-true b backslash e))
last_split b (d ∷ v) e = let more = last_split d v e in (b ∷ more.0, ap (λ l. b ∷ l) more.1)

no_backslash : (edition : Edition) (a : Bool)
    → (a && (is_name_char edition backslash && true)) ≡ true → ⊥
no_backslash first_edition true h = absurd (cc)
no_backslash first_edition false h = absurd (cc)
no_backslash second_edition true h = absurd (cc)
no_backslash second_edition false h = absurd (cc)

-- quotes are ASCII
pub quote_low : (b : ℕ) → is_quote b ≡ true → b < 128
quote_low b e = grind (arith, nat_tests)

module _ (edition : Edition) where
  name_end : (front n : List ℕ) → IsName edition n → n ≡ front ++ (backslash ∷ []) → ⊥
  name_end front n w e =
      let u : IsUtf8 n = (w.letters, (w.scalars, w.spell)) in
      let f = utf8-before_byte front backslash [] (omega arith) (subst IsUtf8 e u) in
      let letters : w.letters ≡ chars front ++ (backslash ∷ []) =
      sym (chars-encodes w.letters w.scalars) ∙ ap chars w.spell ∙ ap chars e
      ∙ chars-append front (backslash ∷ []) f
      ∙ ap (λ l. chars front ++ l)
      (chars-byte backslash [] (omega arith) ∙ ap (λ l. backslash ∷ l) chars-nil) in
      let all =
      sym (list_all-append (is_name_char edition) (chars front) (backslash ∷ []))
      ∙ sym (ap (list_all (is_name_char edition)) letters) ∙ w.pass in
      no_backslash edition (list_all (is_name_char edition) (chars front)) all

  -- no name ends with a backslash
  pub name-value_is : (n : List ℕ) → IsName edition n → IsValue n
  name-value_is [] w = refl
  name-value_is (b ∷ n) w = by (last_after b n == backslash) refl
    where
      by : (t : Bool) → (last_after b n == backslash) ≡ t → t ≡ false
      by false e = refl
      by true e = let s = last_split b n e in absurd (name_end s.0 (b ∷ n) w s.1)

  -- what is read as a name is a value, and leaves a text
  name-gives_value : (text : List ℕ) → IsUtf8 text → IfGot (λ v rest. IsValue v) (name edition text)
  name-gives_value text u =
      if_got (λ v rest. IsValue v) (name edition text) (λ v rest e.
      let read = name-is edition text v rest u e in
      elim (read.is) [ inl w ↦ name-value_is v w | inr h ↦ subst IsValue (sym h.0) refl ])

  -- a value of an attribute ends with no backslash, and leaves a text
  pub string_or_name-gives : (text : List ℕ) → IsUtf8 text
      → IfGot (λ v rest. IsValue v) (string_or_name edition text)
  unfolding string_or_name
  string_or_name-gives [] u = tt
  string_or_name-gives (b ∷ text) u =
      if_got-if (λ v rest. IsValue v) (is_quote b) _ _ (λ e. string_after-gives b text)
      (λ e. name-gives_value (b ∷ text) u)
