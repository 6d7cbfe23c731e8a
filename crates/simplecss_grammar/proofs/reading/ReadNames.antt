-- What a name is that was read.
-- Serves `Selector::{parse, parse_front}` and `StyleSheet::parse` (a selector printed and read
-- again).
use Rattle.std.proofs.Common.{◌≡◌, ℕ, ◌⊎◌, inl, inr, List, [], ◌∷◌, ◌++◌, Bool, true, false, cond, if◌then◌else◌, ◌||◌, ◌&&◌, ◌==◌, length, drop, refl, sym, ap, ◌∙◌, subst, encode_utf8_all, IsUtf8, eqb-true}
use Rattle.std.specs.Str.{chars, all_scalars}
use Rattle.std.specs.List.{list_all, prefix_len, take_while}
use Rattle.std.proofs.lemmas.Str.{chars-encodes, encodes-append}
use Rattle.std.proofs.lemmas.List.{take-append-drop}
use Rattle.std.proofs.lemmas.List.Sums.{take_while-cons}
use Rattle.std.proofs.Math.Seq.{drop-append_seam}
use lib.Utf8.{encode}
use Rattle.css_text.proofs.reading.EndsLemmas.{before-append}
use Rattle.css_text.specs.AsciiBytes.{hyphen}
use Rattle.css_text.specs.Reading.{Fault, Reading, no_name, got, fails, before}
use Rattle.css_text.specs.Bytes.{past_byte, starts_by}
use Rattle.css_text.specs.Characters.{Edition, is_name_start, is_name_char, first_edition, second_edition}
use Rattle.css_text.specs.Names.{begins_name, past_name_chars, name}
use Rattle.css_text.proofs.reading.TakesLemmas.{first_of_name}
use Rattle.simplecss_grammar.proofs.reading.PrintedNames.{IsName, ends_names, begins_any_name}
use Rattle.css_text.proofs.bytes.RunLemmas.{starts_by-past}
use Rattle.css_text.proofs.bytes.Utf8Lemmas.{all_scalars-append}

-- what is in a run passes the test
pub taken_pass : (p : ℕ → Bool) (cs : List ℕ) → list_all p (take_while p cs) ≡ true
taken_pass p [] = refl
taken_pass p (c ∷ cs) = by (p c) refl (taken_pass p cs)
  where
    by : (t : Bool) → p c ≡ t → list_all p (take_while p cs) ≡ true
        → list_all p (take_while p (c ∷ cs)) ≡ true
    by true e more =
        ap (list_all p) (take_while-cons p c cs ∙ ap (λ t. cond t (c ∷ take_while p cs) []) e)
        ∙ rw (e, more) refl
    by false e more =
        ap (list_all p) (take_while-cons p c cs ∙ ap (λ t. cond t (c ∷ take_while p cs) []) e)

hyphen_start : (a b c : Bool) → a ≡ false → (a || (b && c)) ≡ true → (b ≡ true) × (c ≡ true)
hyphen_start true b c e h = absurd (cc)
hyphen_start false true true e h = (refl, refl)
hyphen_start false true false e h = absurd (cc)
hyphen_start false false c e h = absurd (cc)

only_hyphen : (a b : Bool) → a ≡ false → (a || b) ≡ true → b ≡ true
only_hyphen true b e h = absurd (cc)
only_hyphen false b e h = h

taken : (p : ℕ → Bool) (c : ℕ) (cs : List ℕ) → p c ≡ true
    → take_while p (c ∷ cs) ≡ c ∷ take_while p cs
taken p c cs e = take_while-cons p c cs ∙ ap (λ t. cond t (c ∷ take_while p cs) []) e

-- A name that was read: it is one wherever it is, or the hyphen that ends the text. What is
-- left is a text.
pub record ReadName (edition : Edition) (text n rest : List ℕ) : Type 0 where
  pub is : IsName edition n ⊎ ((n ≡ hyphen ∷ []) × (rest ≡ []))
  pub rest_is : IsUtf8 rest
  pub joined : text ≡ n ++ rest
  pub ends : ends_names edition rest ≡ false

got_both : (n m rest left : List ℕ) → Path (Reading (List ℕ)) (got n rest) (got m left)
    → (n ≡ m) × (rest ≡ left)
got_both n m rest left e = (cc, cc)

hyphen_bytes : (edition : Edition)
    → (encode_utf8_all (take_while (is_name_char edition) (hyphen ∷ [])) ≡ hyphen ∷ [])
    × (encode_utf8_all (drop (prefix_len (is_name_char edition) (hyphen ∷ [])) (hyphen ∷ [])) ≡ [])
unfolding encode
hyphen_bytes first_edition = (refl, refl)
hyphen_bytes second_edition = (refl, refl)

module _ (edition : Edition) where
  begins_start : (c : ℕ) (cs : List ℕ) → is_name_start edition c ≡ true
      → begins_any_name edition (c ∷ cs) ≡ true
  begins_start c [] h = h
  begins_start c (d ∷ cs) h = rw h refl

  start_char : (c : ℕ) → is_name_start edition c ≡ true → is_name_char edition c ≡ true
  start_char c h = rw h refl

  -- the name characters of what begins a name begin one, but for a hyphen that ends the text
  taken_begins : (cs : List ℕ) → begins_name edition cs ≡ true
      → (begins_any_name edition (take_while (is_name_char edition) cs) ≡ true) ⊎ (cs ≡ hyphen ∷ [])
  taken_begins [] h = absurd (cc)
  taken_begins (c ∷ []) h = by (is_name_start edition c) refl
    where
      by : (t : Bool) → is_name_start edition c ≡ t
          → (begins_any_name edition (take_while (is_name_char edition) (c ∷ [])) ≡ true)
          ⊎ (c ∷ [] ≡ hyphen ∷ [])
      by true e =
          inl (ap (begins_any_name edition)
          (taken (is_name_char edition) c [] (start_char c e)) ∙ e)
      by false e =
          inr (ap (λ k. k ∷ []) (eqb-true c hyphen (only_hyphen (is_name_start edition c)
          (c == hyphen) e h)))
  taken_begins (c ∷ d ∷ cs) h = by (is_name_start edition c) refl
    where
      by : (t : Bool) → is_name_start edition c ≡ t
          → (begins_any_name edition (take_while (is_name_char edition) (c ∷ d ∷ cs)) ≡ true)
          ⊎ (c ∷ d ∷ cs ≡ hyphen ∷ [])
      by true e =
          inl (ap (begins_any_name edition)
          (taken (is_name_char edition) c (d ∷ cs) (start_char c e))
          ∙ begins_start c (take_while (is_name_char edition) (d ∷ cs)) e)
      by false e =
          let both = hyphen_start (is_name_start edition c) (c == hyphen)
          (is_name_start edition d) e h in
          let two : take_while (is_name_char edition) (c ∷ d ∷ cs) ≡ c ∷ d ∷ take_while
          (is_name_char edition) cs =
          taken (is_name_char edition) c (d ∷ cs) (first_of_name edition c (d ∷ cs) h)
          ∙ ap (λ l. c ∷ l) (taken (is_name_char edition) d cs (start_char d both.1)) in
          inl (ap (begins_any_name edition) two ∙ h)

  lone_hyphen : (cs : List ℕ) → cs ≡ hyphen ∷ []
      → (encode_utf8_all (take_while (is_name_char edition) cs) ≡ hyphen ∷ [])
      × (encode_utf8_all (drop (prefix_len (is_name_char edition) cs) cs) ≡ [])
  lone_hyphen cs e =
      subst (λ (l : List ℕ). (encode_utf8_all (take_while (is_name_char edition) l) ≡ hyphen ∷ [])
      × (encode_utf8_all (drop (prefix_len (is_name_char edition) l) l) ≡ [])) (sym e)
      (hyphen_bytes edition)

  -- of the characters of a text
  name-of : (cs : List ℕ) → all_scalars cs ≡ true → begins_name edition cs ≡ true
      → ReadName edition (encode_utf8_all cs)
      (encode_utf8_all (take_while (is_name_char edition) cs))
      (encode_utf8_all (drop (prefix_len (is_name_char edition) cs) cs))
  name-of cs s h =
      let p = is_name_char edition in
      let k = take_while p cs in
      let l = drop (prefix_len p cs) cs in
      let parts : k ++ l ≡ cs = take-append-drop (prefix_len p cs) cs in
      let each_scalar = all_scalars-append k l (ap all_scalars parts ∙ s) in
      record {
        is = elim (taken_begins cs h) [
          | inl b ↦ inl
              (record {
                letters = k;
                scalars = each_scalar.0;
                spell = refl;
                pass = taken_pass p cs;
                begins = b;
              })
          | inr e ↦ inr (lone_hyphen cs e)
        ];
        rest_is = (l, (each_scalar.1, refl));
        joined = ap encode_utf8_all (sym parts) ∙ encodes-append k l;
        ends = ap (starts_by p) (chars-encodes l each_scalar.1) ∙ starts_by-past p cs;
      }

  name-value : (cs : List ℕ) → all_scalars cs ≡ true → begins_name edition cs ≡ true
      → name edition (encode_utf8_all cs)
      ≡ got (encode_utf8_all (take_while (is_name_char edition) cs))
      (encode_utf8_all (drop (prefix_len (is_name_char edition) cs) cs))
  unfolding name past_name_chars
  name-value cs s h =
      let k = take_while (is_name_char edition) cs in
      let l = drop (prefix_len (is_name_char edition) cs) cs in
      let text : encode_utf8_all cs ≡ encode_utf8_all k ++ encode_utf8_all l =
      (name-of cs s h).joined in
      let decoded : chars (encode_utf8_all cs) ≡ cs = chars-encodes cs s in
      let left : drop (length (encode_utf8_all k)) (encode_utf8_all cs) ≡ encode_utf8_all l =
      ap (drop (length (encode_utf8_all k))) text
      ∙ drop-append_seam (encode_utf8_all k) (encode_utf8_all l) in
      let value : before (encode_utf8_all cs) (encode_utf8_all l) ≡ encode_utf8_all k =
      ap (λ t. before t (encode_utf8_all l)) text
      ∙ before-append (encode_utf8_all k) (encode_utf8_all l) in
      rw (decoded, h, left, value) refl

  name-none : (cs : List ℕ) → all_scalars cs ≡ true → begins_name edition cs ≡ false
      → name edition (encode_utf8_all cs)
      ≡ fails (no_name (encode_utf8_all cs)) (past_byte hyphen (encode_utf8_all cs))
  unfolding name
  name-none cs s h = let decoded = chars-encodes cs s in rw (decoded, h) refl

  -- what is read as a name from a text
  pub name-is : (text n rest : List ℕ) → IsUtf8 text → name edition text ≡ got n rest
      → ReadName edition text n rest
  name-is text n rest u e = by (begins_name edition u.0) refl
    where
      by : (t : Bool) → begins_name edition u.0 ≡ t → ReadName edition text n rest
      by true h =
          let same =
          got_both _ _ _ _ (sym (name-value u.0 u.1.0 h) ∙ ap (name edition) u.1.1 ∙ e) in
          subst (λ (t : List ℕ). ReadName edition t n rest) u.1.1
          (subst (λ (m : List ℕ). ReadName edition (encode_utf8_all u.0) m rest) same.0
          (subst (λ (r : List ℕ). ReadName edition (encode_utf8_all u.0)
          (encode_utf8_all (take_while (is_name_char edition) u.0)) r) same.1
          (name-of u.0 u.1.0 h)))
      by false h =
          let none = sym (name-none u.0 u.1.0 h) ∙ ap (name edition) u.1.1 ∙ e in
          absurd (cc)

  -- where no name was read, none begins there, and a hyphen was consumed
  pub name-fails : (text rest : List ℕ) (fault : Fault) → name edition text ≡ fails fault rest
      → (begins_name edition (chars text) ≡ false) × (rest ≡ past_byte hyphen text)
  unfolding name
  name-fails text rest fault e = by (begins_name edition (chars text)) refl e
    where
      by : (t : Bool) → begins_name edition (chars text) ≡ t
          → Path (Reading (List ℕ))
          (if t then got (before text (past_name_chars edition text)) (past_name_chars edition text)
          else fails (no_name text) (past_byte hyphen text)) (fails fault rest)
          → (begins_name edition (chars text) ≡ false) × (rest ≡ past_byte hyphen text)
      by true b h = absurd (cc)
      by false b h = (b, cc)

  -- where no name begins, none is read
  pub name-none_begins : (text : List ℕ) → begins_name edition (chars text) ≡ false
      → name edition text ≡ fails (no_name text) (past_byte hyphen text)
  unfolding name
  name-none_begins text b = rw b refl
