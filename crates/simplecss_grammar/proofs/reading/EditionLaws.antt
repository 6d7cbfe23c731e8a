-- Of ASCII bytes without a slash, both editions read the same names.
-- Serves `StyleSheet::parse` and `laws::edition_law` (both editions on ASCII texts without a
-- slash).
use Rattle.std.proofs.Common.{Bool, List, None, Option, Some, [], ap, arith, drop, encode_utf8_all, false, if◌then◌else◌, length, nat_le, refl, subst, suc, sym, take, true, zero, ℕ, ◌++◌, ◌<◌, ◌==◌, ◌||◌, ◌∙◌, ◌∷◌, ◌≡◌, ◌≤◌}
use Rattle.std.proofs.lemmas.Bool.Decides.{nat_tests}
use Rattle.std.proofs.lemmas.Str.{chars-IsAscii}
use Rattle.std.specs.List.{prefix_len}
use Rattle.std.specs.Str.{IsAscii, chars}
use Rattle.css_text.specs.AsciiBytes.{hyphen, slash}
use Rattle.css_text.specs.Reading.{Ends, and_then, before, each, followed_by, up_to}
use Rattle.css_text.specs.Bytes.{is_digit}
use Rattle.css_text.specs.Characters.{Edition, first_edition, is_name_char, is_name_start, second_edition}
use Rattle.css_text.specs.Names.{begins_name, name, past_name_chars}
use Rattle.simplecss_grammar.specs.Editions.{IsCommon}
use Rattle.css_text.proofs.reading.EndsLemmas.{EndsFound}

-- ASCII bytes, and no slash among them
abbrev pub Shared : List ℕ → Type 0
Shared [] = Unit {0}
Shared (b ∷ text) = ((b < 128) × ((b == slash) ≡ false)) × Shared text

pub shared-from : (text : List ℕ) → IsCommon text → Shared text
shared-from [] h = tt
shared-from (b ∷ text) h =
    (h 0 0 (omega arith), shared-from text (λ k d l. h (suc k) d (omega arith)))

shared-back : (front rest : List ℕ) → Shared (front ++ rest) → Shared rest
shared-back [] rest h = h
shared-back (b ∷ front) rest h = shared-back front rest h.1

pub shared-ends : (text rest : List ℕ) → Ends text rest → Shared text → Shared rest
shared-ends text rest e h = shared-back (before text rest) rest (subst Shared (sym e) h)

shared-ascii : (text : List ℕ) → Shared text → IsAscii text
shared-ascii [] h i = omega arith
shared-ascii (b ∷ text) h zero = h.0.0
shared-ascii (b ∷ text) h (suc i) = shared-ascii text h.1 i

-- ---- general forms

-- what holds in each edition
pub in_either : (P : Edition → Type 0) → P first_edition → P second_edition
    → (edition : Edition) → P edition
in_either P first second first_edition = first
in_either P first second second_edition = second

pub if-editions : {A : Type 0} (k : Bool) (x y p q : A) → x ≡ y → p ≡ q
    → (if k then x else p) ≡ (if k then y else q)
if-editions true x y p q e f = e
if-editions false x y p q e f = f

up_to-editions : {A : Type 0} (read other : List ℕ → Option (A × List ℕ))
    → ((text : List ℕ) → Shared text → read text ≡ other text)
    → ((text : List ℕ) → EndsFound text (read text)) → (n : ℕ) (text : List ℕ) → Shared text
    → up_to n read text ≡ up_to n other text
up_to-editions read other same ends zero text h = refl
up_to-editions {A = A} read other same ends (suc n) text h =
    by (λ t k. up_to-editions read other same ends n t k) (read text) (ends text) (same text h)
  where
    by : ((t : List ℕ) → Shared t → up_to n read t ≡ up_to n other t) → (o : Option (A × List ℕ))
        → EndsFound text o → o ≡ other text
        → and_then text o (up_to n read) ≡ and_then text (other text) (up_to n other)
    by more None k e = ap (λ p. and_then text p (up_to n other)) e
    by more (Some x) k e = ap (followed_by x.0) (more x.1 (shared-ends text x.1 k h))
        ∙ ap (λ p. and_then text p (up_to n other)) e

pub each-editions : {A : Type 0} (read other : List ℕ → Option (A × List ℕ))
    → ((text : List ℕ) → Shared text → read text ≡ other text)
    → ((text : List ℕ) → EndsFound text (read text)) → (text : List ℕ) → Shared text
    → each read text ≡ each other text
unfolding each
each-editions read other same ends text h = up_to-editions read other same ends (length text) text h

-- ---- names

not_wide : (n c : ℕ) → c < 128 → 128 ≤ n → nat_le n c ≡ false
not_wide n c l m = grind (arith, nat_tests)

name_start-editions : (c : ℕ) → c < 128
    → is_name_start first_edition c ≡ is_name_start second_edition c
name_start-editions c l =
    let a : nat_le 238 c ≡ false = not_wide 238 c l (omega arith) in
    let b : nat_le 160 c ≡ false = not_wide 160 c l (omega arith) in
    rw (a, b) refl

name_char-editions : (c : ℕ) → c < 128
    → is_name_char first_edition c ≡ is_name_char second_edition c
name_char-editions c l = ap (λ (k : Bool). k || is_digit c || c == hyphen) (name_start-editions c l)

prefix_len-editions : (cs : List ℕ) → Shared cs
    → prefix_len (is_name_char first_edition) cs ≡ prefix_len (is_name_char second_edition) cs
prefix_len-editions [] h = refl
prefix_len-editions (c ∷ cs) h = rw (name_char-editions c h.0.0, prefix_len-editions cs h.1) refl

begins-editions : (cs : List ℕ) → Shared cs
    → begins_name first_edition cs ≡ begins_name second_edition cs
begins-editions [] h = refl
begins-editions (c ∷ []) h = ap (λ (k : Bool). k || c == hyphen) (name_start-editions c h.0.0)
begins-editions (c ∷ d ∷ cs) h =
    rw (name_start-editions c h.0.0, name_start-editions d h.1.0.0) refl

past_name_chars-editions : (text : List ℕ) → Shared text
    → past_name_chars first_edition text ≡ past_name_chars second_edition text
unfolding past_name_chars
past_name_chars-editions text h =
    let same : chars text ≡ text = chars-IsAscii text (shared-ascii text h) in
    let run : prefix_len (is_name_char first_edition) (chars text)
    ≡ prefix_len (is_name_char second_edition) (chars text) =
    prefix_len-editions (chars text) (subst Shared (sym same) h) in
    ap (λ (n : ℕ). drop (length (encode_utf8_all (take n (chars text)))) text) run

pub name-editions : (text : List ℕ) → Shared text
    → name first_edition text ≡ name second_edition text
unfolding name
name-editions text h =
    let same : chars text ≡ text = chars-IsAscii text (shared-ascii text h) in
    let begins : begins_name first_edition (chars text) ≡ begins_name second_edition (chars text) =
    begins-editions (chars text) (subst Shared (sym same) h) in
    rw (begins, past_name_chars-editions text h) refl
