-- What consumes bytes, and leaves no more than there was: one thing after another, blanks, names,
-- strings.
-- Serves every loop that reads: the tokenizers, `read_value`, `consume_declarations` and
-- `read_rules` (each turn consumes a byte).
use Rattle.std.proofs.Common.{◌≡◌, ℕ, zero, suc, ◌+◌, ◌<◌, ◌≤◌, List, [], ◌∷◌, Bool, true, false, if◌then◌else◌, ◌||◌, ◌&&◌, ◌==◌, length, take, drop, Option, Some, None, arith, refl, length-append, length-drop, encode_utf8, encode_utf8_all}
use Rattle.std.specs.Str.{chars}
use Rattle.std.specs.Option.{option_map}
use Rattle.std.specs.List.{prefix_len, take_while}
use Rattle.std.proofs.lemmas.Str.{length-encode, len_utf8_bounds, chars-nil}
use Rattle.css_text.specs.AsciiBytes.{asterisk, hyphen, slash}
use Rattle.css_text.specs.Reading.{no_name, Reading, got, fails, Reader, follow, found, and_then, up_to, each, before, left_after}
use Rattle.css_text.specs.Bytes.{past, past_one, past_byte, is_digit, starts_two}
use Rattle.css_text.specs.Characters.{Edition, is_name_start, is_name_char, is_space}
use Rattle.css_text.specs.Comments.{opens_comment, after_close, after_comment, blank_part, past_blank}
use Rattle.css_text.specs.Names.{begins_name, past_name_chars, name}
use Rattle.css_text.proofs.reading.EachLemmas.{Shrinks, Takes}

-- what is left after a reading is no more than the text
abbrev pub Keeps : {A : Type 0} → List ℕ → Reading A → Type 0
Keeps text r = length (left_after r) ≤ length text

-- and where a value was read, it is less
abbrev pub Cuts : {A : Type 0} → List ℕ → Reading A → Type 0
Cuts text (got x rest) = length rest < length text
Cuts text (fails fault rest) = length rest ≤ length text

pub cuts-keeps : {A : Type 0} (text : List ℕ) (r : Reading A) → Cuts text r → Keeps text r
cuts-keeps text (got x rest) h = omega arith
cuts-keeps text (fails fault rest) h = h

pub keeps-cuts : {A : Type 0} (text longer : List ℕ) (r : Reading A) → length text < length longer
    → Keeps text r → Cuts longer r
keeps-cuts text longer (got x rest) l h = omega arith
keeps-cuts text longer (fails fault rest) l h = omega arith

cuts-longer : {A : Type 0} (text longer : List ℕ) (r : Reading A) → length text ≤ length longer
    → Cuts text r → Cuts longer r
cuts-longer text longer (got x rest) l h = omega arith
cuts-longer text longer (fails fault rest) l h = omega arith

-- one thing after another
pub cuts-follow : {A B : Type 0} (text : List ℕ) (r : Reading A) (next : A → Reader B) → Cuts text r
    → ((x : A) (rest : List ℕ) → Keeps rest (next x rest)) → Cuts text (follow r next)
cuts-follow text (got x rest) next h n = keeps-cuts rest text (next x rest) h (n x rest)
cuts-follow text (fails fault rest) next h n = h

pub follow-cuts : {A B : Type 0} (text : List ℕ) (r : Reading A) (next : A → Reader B)
    → Keeps text r → ((x : A) (rest : List ℕ) → Cuts rest (next x rest)) → Cuts text (follow r next)
follow-cuts text (got x rest) next h n = cuts-longer rest text (next x rest) h (n x rest)
follow-cuts text (fails fault rest) next h n = h

pub cuts-if : {A : Type 0} (text : List ℕ) (t : Bool) (x y : Reading A) → Cuts text x → Cuts text y
    → Cuts text (if t then x else y)
cuts-if text true x y a b = a
cuts-if text false x y a b = b

-- on both sides of a test, and what is known where it holds
pub cuts-so : {A : Type 0} (text : List ℕ) (t : Bool) (x y : Reading A) → (t ≡ true → Cuts text x)
    → Cuts text y → Cuts text (if t then x else y)
cuts-so text true x y a b = a refl
cuts-so text false x y a b = b

pub length-past_one : (text : List ℕ) → length (past_one text) ≤ length text
length-past_one [] = omega arith
length-past_one (b ∷ text) = omega arith

pub length-past_byte : (c : ℕ) (text : List ℕ) → length (past_byte c text) ≤ length text
length-past_byte c [] = omega arith
length-past_byte c (b ∷ text) = by (b == c)
  where
    by : (t : Bool) → length (if t then text else b ∷ text) ≤ length (b ∷ text)
    by true = omega arith
    by false = omega arith

pub length-past : (test : ℕ → Bool) (text : List ℕ) → length (past test text) ≤ length text
length-past test text = omega (arith, length-drop (prefix_len test text) text)

-- what is left, if anything is reported to be, is less than the text
abbrev pub Leaves : List ℕ → Option (List ℕ) → Type 0
Leaves text None = Unit {0}
Leaves text (Some rest) = length rest ≤ length text

leaves-if : (text : List ℕ) (t : Bool) (x y : Option (List ℕ)) → Leaves text x → Leaves text y
    → Leaves text (if t then x else y)
leaves-if text true x y a b = a
leaves-if text false x y a b = b

leaves-longer : (text longer : List ℕ) (o : Option (List ℕ)) → length text ≤ length longer
    → Leaves text o → Leaves longer o
leaves-longer text longer None l h = tt
leaves-longer text longer (Some rest) l h = omega arith

pub after_close-leaves : (text : List ℕ) → Leaves text (after_close text)
after_close-leaves [] = tt
after_close-leaves (b ∷ text) =
    leaves-if (b ∷ text) (starts_two asterisk slash (b ∷ text)) (Some (past_one text))
    (after_close text)
    (omega (arith, length-past_one text))
    (leaves-longer text (b ∷ text) (after_close text) (omega arith) (after_close-leaves text))

pub after_comment-leaves : (b : ℕ) (text : List ℕ) → Leaves text (after_comment (b ∷ text))
after_comment-leaves b text =
    leaves-longer (drop 2 (b ∷ text)) text (after_comment (b ∷ text))
    (omega (arith, length-drop 2 (b ∷ text))) (after_close-leaves (drop 2 (b ∷ text)))

pub blank_part-takes : Takes blank_part
blank_part-takes [] = tt
blank_part-takes (b ∷ text) =
    by (is_space b) (opens_comment (b ∷ text)) (after_comment (b ∷ text))
    (after_comment-leaves b text)
  where
    by : (s o : Bool) (c : Option (List ℕ)) → Leaves text c
        → Shrinks (b ∷ text)
        (if s then Some (true, text) else
        (if o then option_map (λ rest. (false, rest)) c else None))
    by true o c h = omega arith
    by false true None h = tt
    by false true (Some rest) h = omega arith
    by false false c h = tt

up_to-within : {A : Type 0} (read : List ℕ → Option (A × List ℕ)) → Takes read
    → (n : ℕ) (text : List ℕ) → length (up_to n read text).1 ≤ length text
up_to-within read takes zero text = omega arith
up_to-within {A = A} read takes (suc n) text =
    by (λ t. up_to-within read takes n t) (read text) (takes text)
  where
    by : ((t : List ℕ) → length (up_to n read t).1 ≤ length t) → (o : Option (A × List ℕ))
        → Shrinks text o → length (and_then text o (up_to n read)).1 ≤ length text
    by more None h = omega arith
    by more (Some x) h = omega (arith, more x.1)

pub each-within : {A : Type 0} (read : List ℕ → Option (A × List ℕ)) → Takes read → (text : List ℕ)
    → length (each read text).1 ≤ length text
unfolding each
each-within read takes text = up_to-within read takes (length text) text

pub length-past_blank : (text : List ℕ) → length (past_blank text) ≤ length text
length-past_blank text = each-within blank_part blank_part-takes text

either_way : (s d h : Bool) → (s || h) ≡ true → ((s || d) || h) ≡ true
either_way true d h e = refl
either_way false true h e = refl
either_way false false h e = e

either_way_and : (s d h x : Bool) → (s || (h && x)) ≡ true → ((s || d) || h) ≡ true
either_way_and true d h x e = refl
either_way_and false true h x e = refl
either_way_and false false true x e = refl
either_way_and false false false x e = e

-- a name's first character is one of a name
pub first_of_name : (edition : Edition) (c : ℕ) (cs : List ℕ) → begins_name edition (c ∷ cs) ≡ true
    → is_name_char edition c ≡ true
first_of_name edition c [] h = either_way (is_name_start edition c) (is_digit c) (c == hyphen) h
first_of_name edition c (d ∷ cs) h =
    either_way_and (is_name_start edition c) (is_digit c) (c == hyphen) (is_name_start edition d) h

name_bytes : (edition : Edition) (cs : List ℕ) → begins_name edition cs ≡ true
    → 0 < length (encode_utf8_all (take_while (is_name_char edition) cs))
name_bytes edition [] h = absurd (cc)
name_bytes edition (c ∷ cs) h =
    let more : 1 + prefix_len (is_name_char edition) cs
    ≡ suc (prefix_len (is_name_char edition) cs) = omega arith in
    let first : is_name_char edition c ≡ true = first_of_name edition c cs h in
    rw (first, more)
    (omega (
      arith,
      length-append (encode_utf8 c)
          (encode_utf8_all (take (prefix_len (is_name_char edition) cs) cs)),
      length-encode c,
      len_utf8_bounds c,
    ))

some_text : (edition : Edition) (text : List ℕ) → begins_name edition (chars text) ≡ true
    → 0 < length text
some_text edition [] h =
    let none : begins_name edition (chars []) ≡ false = rw chars-nil refl in absurd (cc)
some_text edition (b ∷ text) h = omega arith

pub name-cuts : (edition : Edition) (text : List ℕ) → Cuts text (name edition text)
unfolding name past_name_chars
name-cuts edition text = by (begins_name edition (chars text)) refl
  where
    by : (t : Bool) → begins_name edition (chars text) ≡ t
        → Cuts text
        (if t then got (before text (past_name_chars edition text)) (past_name_chars edition text)
        else fails (no_name text) (past_byte hyphen text))
    by true e =
        omega (
          arith,
          name_bytes edition (chars text) e,
          some_text edition text e,
          length-drop
              (length (encode_utf8_all (take_while (is_name_char edition) (chars text)))) text,
        )
    by false e = length-past_byte hyphen text

-- a reading that reports no fault consumes what the reading consumes
pub found-shrinks : {A : Type 0} (text : List ℕ) (r : Reading A) → Cuts text r
    → Shrinks text (found r)
found-shrinks text (got x rest) h = h
found-shrinks text (fails fault rest) h = tt
