-- Character references, step by step.
use Rattle.std.proofs.Common.{◌≡◌, ◌∙◌, ◌+◌, ◌*◌, ◌-◌, ◌<◌, ◌≤◌, ◌||◌, ◌==◌, ℕ, Bool, true, false, nat_lt, if◌then◌else◌, List, [], ◌∷◌, ◌++◌, length, drop, codes, encode_utf8, slice_index, Option, Some, None, arith, refl, sym, ap, length-drop}
use Rattle.std.proofs.Math.Utf8.{encode}
use Rattle.std.proofs.lemmas.Bool.Decides.{nat_tests}
use Rattle.css_text.specs.Reading.{each}
use Rattle.css_text.specs.Bytes.{past, is_within}
use Rattle.css_text.proofs.reading.EachLemmas.{Shrinks, Takes, each-none, each-some}
use Rattle.css_text.proofs.reading.TakesLemmas.{length-past, length-past_byte, each-within}
use Rattle.css_html.specs.ReferenceNames.{names, rows_in}
use Rattle.css_html.specs.References.{replacement, windows_characters, character_of, base_of, digit_in, before_text, next_digit, digits_of, number_of, past_digits, semicolon, begins_number, digits_from, number_from, numbered, NamedRow, is_no_space, next_row, longer_of, longest_of, is_no_reference, row_reference, named_row, name_from, reference}

-- ---- numbers

bigger : (hexadecimal : Bool) (n digit : ℕ) → 1114111 < n
    → 1114111 < base_of hexadecimal * n + digit
bigger true n digit h = omega arith
bigger false n digit h = omega arith

number-past : (hexadecimal : Bool) (n : ℕ) (digits : List ℕ) → 1114111 < n
    → 1114111 < number_of hexadecimal n digits
unfolding number_of
number-past hexadecimal n [] h = h
number-past hexadecimal n (digit ∷ digits) h =
    number-past hexadecimal (base_of hexadecimal * n + digit) digits (bigger hexadecimal n digit h)

character-past : (n : ℕ) → 1114111 < n → character_of n ≡ replacement
character-past n h =
    let more : nat_lt 1114111 n ≡ true = grind (arith, h) in
    by (n == 0) (is_within 55296 57343 n) (nat_lt 1114111 n) more
  where
    other : ℕ
    other = if is_within 128 159 n then slice_index windows_characters (n - 128) else n

    by : (z s m : Bool) → m ≡ true → (if z || s || m then replacement else other) ≡ replacement
    by true s m e = refl
    by false true m e = refl
    by false false true e = refl
    by false false false e = absurd (cc e)

-- past the last character further digits change nothing
number-stays : (hexadecimal : Bool) (n digit : ℕ) (digits : List ℕ)
    → character_of (number_of hexadecimal
    (if nat_lt 1114111 n then n else base_of hexadecimal * n + digit) digits)
    ≡ character_of (number_of hexadecimal n (digit ∷ digits))
unfolding number_of
number-stays hexadecimal n digit digits = by (nat_lt 1114111 n) refl
  where
    next : ℕ
    next = base_of hexadecimal * n + digit

    by : (k : Bool) → nat_lt 1114111 n ≡ k
        → character_of (number_of hexadecimal (if k then n else next) digits)
        ≡ character_of (number_of hexadecimal next digits)
    by true e =
        let h : 1114111 < n = grind (arith, nat_tests, e) in
        character-past (number_of hexadecimal n digits) (number-past hexadecimal n digits h)
        ∙ sym (character-past (number_of hexadecimal next digits)
        (number-past hexadecimal next digits (bigger hexadecimal n digit h)))
    by false e = refl

pub next_digit-takes : (hexadecimal : Bool) → Takes (next_digit hexadecimal)
next_digit-takes hexadecimal [] = tt
next_digit-takes hexadecimal (b ∷ text) = by (digit_in hexadecimal b)
  where
    by : (o : Option ℕ) → Shrinks (b ∷ text) (before_text text o)
    by None = tt
    by (Some digit) = omega arith

-- a further digit: the number so far stays as it is past the last character
pub number-step : (hexadecimal : Bool) (n m digit : ℕ) (text rest : List ℕ)
    → m ≡ (if nat_lt 1114111 n then n else base_of hexadecimal * n + digit)
    → next_digit hexadecimal text ≡ Some (digit, rest)
    → character_of (number_of hexadecimal m (digits_of hexadecimal rest))
    ≡ character_of (number_of hexadecimal n (digits_of hexadecimal text))
number-step hexadecimal n m digit text rest f e =
    ap (λ (k : ℕ). character_of (number_of hexadecimal k (digits_of hexadecimal rest))) f
    ∙ number-stays hexadecimal n digit (digits_of hexadecimal rest)
    ∙ sym (ap (λ (r : List ℕ × List ℕ). character_of (number_of hexadecimal n r.0))
    (each-some (next_digit hexadecimal) (next_digit-takes hexadecimal) text rest digit e))

pub number-stop : (hexadecimal : Bool) (n : ℕ) (text : List ℕ) → next_digit hexadecimal text ≡ None
    → character_of (number_of hexadecimal n (digits_of hexadecimal text)) ≡ character_of n
unfolding number_of
number-stop hexadecimal n text e =
    ap (λ (r : List ℕ × List ℕ). character_of (number_of hexadecimal n r.0))
    (each-none (next_digit hexadecimal) text e)

pub digits-step : (hexadecimal : Bool) (digit : ℕ) (text rest : List ℕ)
    → next_digit hexadecimal text ≡ Some (digit, rest)
    → past_digits hexadecimal rest ≡ past_digits hexadecimal text
unfolding past_digits
digits-step hexadecimal digit text rest e =
    sym (ap (λ (r : List ℕ × List ℕ). r.1)
    (each-some (next_digit hexadecimal) (next_digit-takes hexadecimal) text rest digit e))

pub digits-stop : (hexadecimal : Bool) (text : List ℕ) → next_digit hexadecimal text ≡ None
    → past_digits hexadecimal text ≡ text
unfolding past_digits
digits-stop hexadecimal text e =
    ap (λ (r : List ℕ × List ℕ). r.1) (each-none (next_digit hexadecimal) text e)

past_digits-within : (hexadecimal : Bool) (text : List ℕ)
    → length (past_digits hexadecimal text) ≤ length text
unfolding past_digits
past_digits-within hexadecimal text =
    each-within (next_digit hexadecimal) (next_digit-takes hexadecimal) text

-- ---- names

pub next_row-takes : Takes next_row
unfolding next_row
next_row-takes [] = tt
next_row-takes (b ∷ rows) =
    let name_end : List ℕ = past is_no_space (b ∷ rows) in
    let characters : List ℕ = drop 1 name_end in
    let end : List ℕ = past is_no_space characters in
    let one : length name_end ≤ length (b ∷ rows) = length-past is_no_space (b ∷ rows) in
    let two : length end ≤ length characters = length-past is_no_space characters in
    omega (arith, one, two, length-drop 1 name_end, length-drop 1 end)

pub longest-step : (text rows rest : List ℕ) (best : Option NamedRow) (row : NamedRow)
    → next_row rows ≡ Some (row, rest)
    → longest_of text (longer_of text best row) (each next_row rest).0
    ≡ longest_of text best (each next_row rows).0
unfolding longest_of
longest-step text rows rest best row e =
    sym (ap (λ (r : List NamedRow × List ℕ). longest_of text best r.0)
    (each-some next_row next_row-takes rows rest row e))

pub longest-stop : (text rows : List ℕ) (best : Option NamedRow) → next_row rows ≡ None
    → longest_of text best (each next_row rows).0 ≡ best
unfolding longest_of
longest-stop text rows best e =
    ap (λ (r : List NamedRow × List ℕ). longest_of text best r.0) (each-none next_row rows e)

pub amp-read : (rest : List ℕ) (in_value : Bool)
    → name_from in_value (codes "amp;" ++ rest) ≡ Some (encode_utf8 38, rest)
unfolding name_from names rows_in each next_row longest_of number_of past_digits numbered encode
amp-read rest true = refl
amp-read rest false = refl

pub quot-read : (rest : List ℕ) (in_value : Bool)
    → name_from in_value (codes "quot;" ++ rest) ≡ Some (encode_utf8 34, rest)
unfolding name_from names rows_in each next_row longest_of number_of past_digits numbered encode
quot-read rest true = refl
quot-read rest false = refl

-- ---- what is left

-- no more is left after a reference than was there
abbrev pub LeavesNoMore : List ℕ → Option (List ℕ × List ℕ) → Type 0
LeavesNoMore text None = Unit {0}
LeavesNoMore text (Some x) = length x.1 ≤ length text

if-leaves : (text : List ℕ) (k : Bool) (one other : Option (List ℕ × List ℕ))
    → LeavesNoMore text one → LeavesNoMore text other → LeavesNoMore text (if k then one else other)
if-leaves text true one other x y = x
if-leaves text false one other x y = y

digits-leave : (hexadecimal : Bool) (text : List ℕ) → LeavesNoMore text (digits_from hexadecimal text)
digits-leave hexadecimal text =
    if-leaves text (begins_number hexadecimal text) _ _ (omega (
      arith,
      past_digits-within hexadecimal text,
      length-past_byte semicolon (past_digits hexadecimal text),
    )) tt

leaves-more : (b : ℕ) (text : List ℕ) (o : Option (List ℕ × List ℕ)) → LeavesNoMore text o
    → LeavesNoMore (b ∷ text) o
leaves-more b text None h = tt
leaves-more b text (Some x) h = omega (arith, h)

number-leaves : (text : List ℕ) → LeavesNoMore text (number_from text)
number-leaves [] = tt
number-leaves (b ∷ text) =
    if-leaves (b ∷ text) (b == 120 || b == 88) _ _
    (leaves-more b text (digits_from true text) (digits-leave true text))
    (digits-leave false (b ∷ text))

row-leaves : (in_value : Bool) (text : List ℕ) (o : Option NamedRow)
    → LeavesNoMore text (row_reference in_value text o)
row-leaves in_value text None = tt
row-leaves in_value text (Some row) =
    if-leaves text (is_no_reference in_value row.name (drop (length row.name) text)) _ _ tt
    (omega (arith, length-drop (length row.name) text))

name-leaves : (in_value : Bool) (text : List ℕ) → LeavesNoMore text (name_from in_value text)
unfolding name_from
name-leaves in_value [] = tt
name-leaves in_value (b ∷ text) =
    leaves-more b text (row_reference in_value text (named_row b text))
    (row-leaves in_value text (named_row b text))

pub reference-leaves : (in_value : Bool) (text : List ℕ) → LeavesNoMore text (reference in_value text)
reference-leaves in_value [] = tt
reference-leaves in_value (b ∷ text) =
    if-leaves (b ∷ text) (b == 35) _ _ (leaves-more b text (number_from text) (number-leaves text))
    (name-leaves in_value (b ∷ text))
