-- Words and gaps that are skipped in runs of bytes.
-- Serves `tokens::{past_word, past_gap, spells, read_token}`.
use Rattle.std.proofs.Common.{◌≡◌, ℕ, ◌<◌, Bool, true, false, List, [], ◌∷◌, length, Some, None, arith, refl, ◌∙◌, ◌==◌, ◌&&◌, ◌||◌, not, eqb-true, ap, sym}
use Rattle.css_text.specs.Reading.{each}
use Rattle.css_text.specs.Bytes.{past, past_one, starts_by}
use Rattle.css_text.specs.Characters.{is_space}
use Rattle.css_text.specs.Comments.{opens_comment}
use Rattle.css_text.proofs.bytes.RunLemmas.{past-yes, past-no}
use Rattle.css_text.proofs.reading.TakesLemmas.{length-past}
use Rattle.css_syntax.specs.declared.quality.Quality.TheVariants.{Whole}
use Rattle.std.specs.Char.{to_ascii_uppercase}
use Rattle.css_syntax.specs.Tokens.{past_letter, spells, found_and, past_escape, begins_escape, past_comment, gap_part, is_name_byte, name_part, token, past_word}
use Rattle.css_syntax.proofs.Shorter.{each-goes, gap_part-takes, name_part-takes, past_escape-within, past_comment-within}

-- ---- words

pub run-word : (text : List ℕ)
    → (each name_part (past is_name_byte text)).1 ≡ (each name_part text).1
unfolding name_part
run-word [] = refl
run-word (b ∷ text) = by (run-word text) (is_name_byte b) refl
  where
    by : (each name_part (past is_name_byte text)).1 ≡ (each name_part text).1 → (t : Bool)
        → is_name_byte b ≡ t
        → (each name_part (past is_name_byte (b ∷ text))).1 ≡ (each name_part (b ∷ text)).1
    by more true e =
        let found : name_part (b ∷ text) ≡ Some (tt, text) = rw e refl in
        rw (past-yes is_name_byte b text e)
        (more ∙ each-goes name_part name_part-takes (b ∷ text) text tt found)
    by more false e = rw (past-no is_name_byte b text e) refl

-- an escape and the run after it
pub run-escape : (text : List ℕ) → begins_escape text ≡ true → starts_by is_name_byte text ≡ false
    → (each name_part (past is_name_byte (past_escape (past_one text)))).1 ≡ (each name_part text).1
unfolding name_part
run-escape [] e s = absurd (cc)
run-escape (b ∷ text) e s =
    let found : name_part (b ∷ text) ≡ Some (tt, past_escape text) = rw (s, e) refl in
    run-word (past_escape text)
    ∙ each-goes name_part name_part-takes (b ∷ text) (past_escape text) tt found

pub escape-less : (text : List ℕ) → begins_escape text ≡ true
    → length (past is_name_byte (past_escape (past_one text))) < length text
escape-less [] e = absurd (cc)
escape-less (b ∷ text) e =
    omega (arith, length-past is_name_byte (past_escape text), past_escape-within text)

pub no_name_part : (text : List ℕ) → begins_escape text ≡ false
    → starts_by is_name_byte text ≡ false
    → name_part text ≡ None
unfolding name_part
no_name_part [] e s = refl
no_name_part (b ∷ text) e s = rw (s, e) refl

-- ---- gaps

pub run-gap : (text : List ℕ) → (each gap_part (past is_space text)).1 ≡ (each gap_part text).1
unfolding gap_part
run-gap [] = refl
run-gap (b ∷ text) = by (run-gap text) (is_space b) refl
  where
    by : (each gap_part (past is_space text)).1 ≡ (each gap_part text).1 → (t : Bool)
        → is_space b ≡ t
        → (each gap_part (past is_space (b ∷ text))).1 ≡ (each gap_part (b ∷ text)).1
    by more true e =
        let found : gap_part (b ∷ text) ≡ Some (tt, text) = rw e refl in
        rw (past-yes is_space b text e)
        (more ∙ each-goes gap_part gap_part-takes (b ∷ text) text tt found)
    by more false e = rw (past-no is_space b text e) refl

-- a comment and the run after it
pub run-comment : (text : List ℕ) → opens_comment text ≡ true → starts_by is_space text ≡ false
    → (each gap_part (past is_space (past_comment text))).1 ≡ (each gap_part text).1
unfolding gap_part
run-comment [] e s = absurd (cc)
run-comment (b ∷ text) e s =
    let found : gap_part (b ∷ text) ≡ Some (tt, past_comment (b ∷ text)) = rw (s, e) refl in
    run-gap (past_comment (b ∷ text))
    ∙ each-goes gap_part gap_part-takes (b ∷ text) (past_comment (b ∷ text)) tt found

pub comment-less : (text : List ℕ) → opens_comment text ≡ true
    → length (past is_space (past_comment text)) < length text
comment-less [] e = absurd (cc)
comment-less (b ∷ text) e =
    omega (arith, length-past is_space (past_comment (b ∷ text)), past_comment-within b text)

pub no_gap_part : (text : List ℕ) → opens_comment text ≡ false → starts_by is_space text ≡ false
    → gap_part text ≡ None
unfolding gap_part
no_gap_part [] e s = refl
no_gap_part (b ∷ text) e s = rw (s, e) refl

-- ---- tokens

-- a byte of a name is none of these
-- a keyword, a character at a time
pub spells-some : (c up : ℕ) (keyword word rest : List ℕ) → up ≡ to_ascii_uppercase c
    → past_letter c up word ≡ Some rest → spells (c ∷ keyword) word ≡ spells keyword rest
unfolding spells
spells-some c up keyword word rest u e =
    ap (λ (x : ℕ). found_and (spells keyword) (past_letter c x word)) (sym u)
    ∙ ap (found_and (spells keyword)) e

pub spells-none : (c up : ℕ) (keyword word : List ℕ) → up ≡ to_ascii_uppercase c
    → past_letter c up word ≡ None → spells (c ∷ keyword) word ≡ false
unfolding spells
spells-none c up keyword word u e =
    ap (λ (x : ℕ). found_and (spells keyword) (past_letter c x word)) (sym u)
    ∙ ap (found_and (spells keyword)) e

pub spells-end : (word : List ℕ) → spells [] word ≡ (length word == 0)
unfolding spells
spells-end [] = refl
spells-end (b ∷ word) = by (length (b ∷ word) == 0) refl
  where
    by : (k : Bool) → (length (b ∷ word) == 0) ≡ k → false ≡ k
    by true e = absurd (omega (arith, eqb-true (length (b ∷ word)) 0 e))
    by false e = refl

pub not-this : (b k : ℕ) → is_name_byte b ≡ true → is_name_byte k ≡ false → (b == k) ≡ false
not-this b k h n = by (b == k) refl
  where
    by : (t : Bool) → (b == k) ≡ t → (b == k) ≡ false
    by true e =
        absurd
        (let same : is_name_byte b ≡ is_name_byte k = ap is_name_byte (eqb-true b k e) in cc)
    by false e = e

both-true : (a b : Bool) → (a && not b) ≡ true → (a ≡ true) × (b ≡ false)
both-true true true e = absurd (cc)
both-true true false e = (refl, refl)
both-true false b e = absurd (cc)

pub or-both : (a b : Bool) → (a || b) ≡ false → (a ≡ false) × (b ≡ false)
or-both true b e = absurd (cc)
or-both false b e = (refl, e)

-- a word that begins no url
pub plain-token : (text : List ℕ)
    → starts_by (λ b. is_name_byte b && not (b == 117 || b == 85)) text ≡ true
    → token text ≡ (Whole, past_word text)
unfolding token past_letter
plain-token [] e = absurd (cc)
plain-token (b ∷ text) e =
    let parts = both-true (is_name_byte b) (b == 117 || b == 85) e in
    let letters = or-both (b == 117) (b == 85) parts.1 in
    let slash_not = not-this b 47 parts.0 refl in
    let single_not = not-this b 39 parts.0 refl in
    let double_not = not-this b 34 parts.0 refl in
    let backslash_not = not-this b 92 parts.0 refl in
    let less_not = not-this b 60 parts.0 refl in
    rw (slash_not, single_not, double_not, letters.0, letters.1, backslash_not, less_not, parts.0)
    refl
