-- What is left after reading: an end of the text, and UTF-8 if the text is.
-- Serves `StyleSheet::{parse, parse_more}` and `laws::{cutting_law, edition_law}`.
use Rattle.std.proofs.Common.{ap, encode_utf8_all, ◌≡◌, ℕ, ◌<◌, List, [], ◌∷◌, Bool, true, false, if◌then◌else◌, ◌==◌, not, arith, Option, Some, None, zero, suc, length, refl, sym, subst, IsUtf8, eqb-true}
use Rattle.std.specs.List.{prefix_len, take_while}
use Rattle.std.specs.Option.{option_map}
use Rattle.std.specs.Str.{chars}
use Rattle.std.proofs.lemmas.Str.{IsUtf8-nil, IsUtf8-drop}
use Rattle.css_text.specs.AsciiBytes.{hyphen, slash}
use Rattle.css_text.specs.Reading.{Fault, Ends, Reading, and_then, before, each, fails, follow, got, left_after, no_comment, no_name, up_to, wrong_byte}
use Rattle.css_text.specs.Bytes.{byte, closed_or, past, past_byte, past_one, starts}
use Rattle.css_text.specs.Characters.{Edition, is_name_char, is_space}
use Rattle.css_text.specs.Comments.{after_close, after_comment, blank, blank_part, gap, has_space, opens_comment, past_blank}
use Rattle.css_text.specs.Names.{begins_name, name, past_name_chars}
use Rattle.css_text.proofs.reading.EndsLemmas.{EndsFound, ends-drop, ends-by, ends-ends, ends-nil, ends-past, ends-past_byte, ends-same, ends-tail}
use Rattle.css_text.proofs.bytes.Utf8Lemmas.{until-boundary, utf8-after, utf8-past, utf8-past_byte_if}
use Rattle.css_text.proofs.bytes.CutLemmas.{is_space-ascii}
use Rattle.css_text.proofs.reading.GotLemmas.{IfAfter, after_close-after, starts-cons}

-- an end of the text, and UTF-8 if the text is
abbrev pub EndsWell : List ℕ → List ℕ → Type 0
EndsWell text rest = Ends text rest × (IsUtf8 text → IsUtf8 rest)

pub well-same : (text : List ℕ) → EndsWell text text
well-same text = (ends-same text, λ u. u)

pub well-nil : (text : List ℕ) → EndsWell text []
well-nil text = (ends-nil text, λ u. IsUtf8-nil)

pub well-then : (text middle rest : List ℕ) → EndsWell text middle → EndsWell middle rest
    → EndsWell text rest
well-then text middle rest h k = (ends-ends text middle rest h.0 k.0, λ u. k.1 (h.1 u))

-- ---- bytes

pub well-after : (c : ℕ) (text rest : List ℕ) → c < 128 → Ends text (c ∷ rest) → EndsWell text rest
well-after c text rest low h =
    (ends-ends text (c ∷ rest) rest h (ends-tail c rest), λ u. utf8-after text rest c low u h)

-- the byte that begins a text
pub well-tail : (c : ℕ) (text : List ℕ) → c < 128 → EndsWell (c ∷ text) text
well-tail c text low = well-after c (c ∷ text) text low (ends-same (c ∷ text))

pub well-sign : (c : ℕ) (text : List ℕ) → c < 128 → starts c text ≡ true
    → EndsWell text (past_one text)
well-sign c text low e =
    well-after c text (past_one text) low
    (ends-by text [] (c ∷ past_one text) (sym (starts-cons c text e)))

pub well-past_byte : (c : ℕ) (text : List ℕ) → c < 128 → EndsWell text (past_byte c text)
well-past_byte c text low = (ends-past_byte c text, utf8-past_byte_if c text low)

pub well-byte : (c : ℕ) (text : List ℕ) → c < 128 → EndsWell text (left_after (byte c text))
well-byte c [] low = well-same []
well-byte c (b ∷ text) low = by (b == c) refl
  where
    by : (k : Bool) → (b == c) ≡ k
        → EndsWell (b ∷ text)
        (left_after (if k then got (tt {0}) text else fails (wrong_byte c (b ∷ text)) (b ∷ text)))
    by true e = well-tail b text (omega (arith, eqb-true b c e))
    by false e = well-same (b ∷ text)

-- a run of ASCII bytes
pub well-past : (test : ℕ → Bool) → ((b : ℕ) → test b ≡ true → b < 128) → (text : List ℕ)
    → EndsWell text (past test text)
well-past test low text = (ends-past test text, utf8-past test text low)

-- all up to an ASCII byte
pub well-until : (c : ℕ) → c < 128 → (text : List ℕ) → EndsWell text (past (λ b. not (b == c)) text)
well-until c low text = (
  ends-past (λ b. not (b == c)) text,
  λ u. IsUtf8-drop text (prefix_len (λ b. not (b == c)) text)
      u (until-boundary text c low u),
)

-- what is closed by an ASCII byte
pub well-closed : (c : ℕ) (text : List ℕ) (fault : Fault) (o : Option (List ℕ)) → c < 128
    → IfAfter c text o → EndsWell text (left_after (closed_or fault o))
well-closed c text fault None low h = well-nil text
well-closed c text fault (Some rest) low h =
    well-after c text rest low (ends-by text h.0 (c ∷ rest) (sym h.1))

-- ---- what repeats

-- what is left after something that was found
abbrev pub WellFound : {A : Type 0} → List ℕ → Option (A × List ℕ) → Type 0
WellFound text None = Unit {0}
WellFound text (Some x) = EndsWell text x.1

pub found-ends : {A : Type 0} (text : List ℕ) (o : Option (A × List ℕ)) → WellFound text o
    → EndsFound text o
found-ends text None h = tt
found-ends text (Some x) h = h.0

pub found-text : {A : Type 0} (read : List ℕ → Option (A × List ℕ))
    → ((text : List ℕ) → WellFound text (read text)) → (text rest : List ℕ) (x : A) → IsUtf8 text
    → read text ≡ Some (x, rest) → IsUtf8 rest
found-text read well text rest x u e = (subst (WellFound text) e (well text)).1 u

up_to-well : {A : Type 0} (read : List ℕ → Option (A × List ℕ))
    → ((text : List ℕ) → WellFound text (read text)) → (n : ℕ) (text : List ℕ)
    → EndsWell text (up_to n read text).1
up_to-well read well zero text = well-same text
up_to-well {A = A} read well (suc n) text =
    by (λ t. up_to-well read well n t) (read text) (well text)
  where
    by : ((t : List ℕ) → EndsWell t (up_to n read t).1) → (o : Option (A × List ℕ))
        → WellFound text o → EndsWell text (and_then text o (up_to n read)).1
    by more None h = well-same text
    by more (Some x) h = well-then text x.1 (up_to n read x.1).1 h (more x.1)

pub each-well : {A : Type 0} (read : List ℕ → Option (A × List ℕ))
    → ((text : List ℕ) → WellFound text (read text)) → (text : List ℕ)
    → EndsWell text (each read text).1
unfolding each
each-well read well text = up_to-well read well (length text) text

-- ---- blanks, names, strings

blank_part-well : (text : List ℕ) → WellFound text (blank_part text)
blank_part-well [] = tt
blank_part-well (b ∷ text) = by (is_space b) (opens_comment (b ∷ text)) refl
  where
    closed : (c : ℕ) (text : List ℕ) (o : Option (List ℕ)) → IfAfter slash text o
        → WellFound (b ∷ c ∷ text) (option_map (λ rest. (false, rest)) o)
    closed c text None h = tt
    closed c text (Some rest) h =
        well-after slash (b ∷ c ∷ text) rest (omega arith)
        (ends-by (b ∷ c ∷ text) (b ∷ c ∷ h.0) (slash ∷ rest) (sym (ap (λ l. b ∷ c ∷ l) h.1)))

    comment : (text : List ℕ)
        → WellFound (b ∷ text) (option_map (λ rest. (false, rest)) (after_comment (b ∷ text)))
    comment [] = tt
    comment (c ∷ text) = closed c text (after_close text) (after_close-after text)

    by : (s o : Bool) → is_space b ≡ s
        → WellFound (b ∷ text)
        (if s then Some (true, text) else
        (if o then option_map (λ rest. (false, rest)) (after_comment (b ∷ text)) else None))
    by true o e = well-tail b text (is_space-ascii b e)
    by false true e = comment text
    by false false e = tt

pub well-past_blank : (text : List ℕ) → EndsWell text (past_blank text)
well-past_blank text = each-well blank_part blank_part-well text

pub well-blank : (text : List ℕ) → EndsWell text (left_after (blank text))
unfolding blank
well-blank text = by (opens_comment (past_blank text))
  where
    by : (k : Bool)
        → EndsWell text
        (left_after
        (if k then fails (no_comment (past_blank text)) [] else got (tt {0}) (past_blank text)))
    by true = well-nil text
    by false = well-past_blank text

pub well-gap : (text : List ℕ) → EndsWell text (left_after (gap text))
unfolding gap
well-gap text = by (blank text) (well-blank text)
  where
    by : (r : Reading (Unit {0})) → EndsWell text (left_after r)
        → EndsWell text (left_after (follow r (λ x. got (has_space text))))
    by (got x rest) h = h
    by (fails fault rest) h = h

pub ends-past_name_chars : (edition : Edition) (text : List ℕ)
    → Ends text (past_name_chars edition text)
unfolding past_name_chars
ends-past_name_chars edition text =
    ends-drop (length (encode_utf8_all (take_while (is_name_char edition) (chars text)))) text

pub ends-name : (edition : Edition) (text : List ℕ) → Ends text (left_after (name edition text))
unfolding name
ends-name edition text = by (begins_name edition (chars text))
  where
    by : (k : Bool)
        → Ends text
        (left_after
        (if k then got (before text (past_name_chars edition text)) (past_name_chars edition text)
        else fails (no_name text) (past_byte hyphen text)))
    by true = ends-past_name_chars edition text
    by false = ends-past_byte hyphen text
