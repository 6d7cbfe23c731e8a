-- What a text stands for, part by part.
use Rattle.std.proofs.Common.{◌≡◌, ◌∙◌, ◌≤◌, ◌&&◌, ◌==◌, ℕ, Bool, true, false, nat_eq, if◌then◌else◌, List, [], ◌∷◌, ◌++◌, length, drop, codes, Option, Some, None, arith, refl, sym, ap, append_assoc, append-nil, length-drop}
use Rattle.std.specs.List.{starts_with}
use Rattle.css_text.specs.AsciiBytes.{newline, carriage_return, space, number_sign, semicolon}
use Rattle.css_text.specs.Reading.{each}
use Rattle.css_text.specs.Bytes.{past_byte, starts}
use Rattle.css_text.proofs.reading.EachLemmas.{Takes, each-none, each-some}
use Rattle.css_text.proofs.reading.TakesLemmas.{length-past_byte}
use Rattle.css_html.specs.References.{digit_in}
use Rattle.css_html.specs.Decoding.{ampersand, has_references, is_value, joined}
use Rattle.css_html.specs.declared.decoding.TextKind.{TextKind}
use Rattle.css_xml.specs.Characters.{is_blank, is_character}
use Rattle.css_xml.specs.References.{number_with, after_digit, numbered, if_character, number_from, named, reference, said_by, blank_of, part_at, next_part, decoded}

-- nothing is left that was not there
abbrev LeavesNoMore : List ℕ → Option (ℕ × List ℕ) → Type 0
LeavesNoMore text None = Unit {0}
LeavesNoMore text (Some x) = length x.1 ≤ length text

longer : (text more : List ℕ) (o : Option (ℕ × List ℕ)) → length text ≤ length more
    → LeavesNoMore text o → LeavesNoMore more o
longer text more None e h = tt
longer text more (Some x) e h = omega (arith, e, h)

numbered-leaves : (hexadecimal : Bool) (n : ℕ) (text : List ℕ) → LeavesNoMore text (numbered hexadecimal n text)
unfolding numbered
numbered-leaves hexadecimal n [] = tt
numbered-leaves hexadecimal n (b ∷ text) =
    by (λ m. numbered-leaves hexadecimal m text) (b == semicolon) (digit_in hexadecimal b)
  where
    less : length text ≤ length (b ∷ text)
    less = omega arith

    by : ((m : ℕ) → LeavesNoMore text (numbered hexadecimal m text)) → (k : Bool) (o : Option ℕ)
        → LeavesNoMore (b ∷ text)
        (if k then Some (n, text)
        else after_digit o (λ digit. numbered hexadecimal (number_with hexadecimal n digit) text))
    by more true o = less
    by more false None = tt
    by more false (Some digit) =
        let m : ℕ = number_with hexadecimal n digit in
        longer text (b ∷ text) (numbered hexadecimal m text) less (more m)

character-leaves : (text : List ℕ) (o : Option (ℕ × List ℕ)) → LeavesNoMore text o
    → LeavesNoMore text (if_character o)
character-leaves text None h = tt
character-leaves text (Some x) h = by (is_character x.0)
  where
    by : (k : Bool) → LeavesNoMore text (if k then Some (x.0, x.1) else None)
    by true = h
    by false = tt

dropped : (n : ℕ) (text : List ℕ) → length (drop n text) ≤ length text
dropped n text = omega (arith, length-drop n text)

number-leaves : (text : List ℕ) → LeavesNoMore text (number_from text)
number-leaves text = by (starts 120 text)
  where
    by : (k : Bool) → LeavesNoMore text
        (if k then if_character (numbered true 0 (drop 1 text)) else if_character (numbered false 0 text))
    by true =
        character-leaves text (numbered true 0 (drop 1 text))
        (longer (drop 1 text) text (numbered true 0 (drop 1 text)) (dropped 1 text)
        (numbered-leaves true 0 (drop 1 text)))
    by false = character-leaves text (numbered false 0 text) (numbered-leaves false 0 text)

named-leaves : (text : List ℕ) → LeavesNoMore text (named text)
named-leaves text =
    by (starts_with nat_eq text (codes "lt;")) (starts_with nat_eq text (codes "gt;"))
    (starts_with nat_eq text (codes "amp;")) (starts_with nat_eq text (codes "apos;"))
    (starts_with nat_eq text (codes "quot;"))
  where
    by : (l g a p q : Bool) → LeavesNoMore text
        (if l then Some (60, drop 3 text) else (if g then Some (62, drop 3 text)
        else (if a then Some (38, drop 4 text) else (if p then Some (39, drop 5 text)
        else (if q then Some (34, drop 5 text) else None)))))
    by true g a p q = dropped 3 text
    by false true a p q = dropped 3 text
    by false false true p q = dropped 4 text
    by false false false true q = dropped 5 text
    by false false false false true = dropped 5 text
    by false false false false false = tt

reference-leaves : (text : List ℕ) → LeavesNoMore text (reference text)
reference-leaves text = by (starts number_sign text)
  where
    by : (k : Bool) → LeavesNoMore text (if k then number_from (drop 1 text) else named text)
    by true =
        longer (drop 1 text) text (number_from (drop 1 text)) (dropped 1 text) (number-leaves (drop 1 text))
    by false = named-leaves text

said-within : (text : List ℕ) (o : Option (ℕ × List ℕ)) → LeavesNoMore text o
    → length (said_by text o).1 ≤ length text
said-within text None h = omega arith
said-within text (Some x) h = h

pub part-within : (kind : TextKind) (b : ℕ) (text : List ℕ) → length (part_at kind b text).1 ≤ length text
unfolding part_at
part-within kind b text =
    by (b == carriage_return) (b == ampersand && has_references kind) (is_blank b && is_value kind)
  where
    found : List ℕ × List ℕ
    found = said_by text (reference text)

    by : (c k v : Bool)
        → length (if c then (blank_of kind, past_byte newline text)
        else (if k then found else (if v then (space ∷ [], text) else (b ∷ [], text)))).1 ≤ length text
    by true k v = length-past_byte newline text
    by false true v = said-within text (reference text) (reference-leaves text)
    by false false true = omega arith
    by false false false = omega arith

next_part-takes : (kind : TextKind) → Takes (next_part kind)
next_part-takes kind [] = tt
next_part-takes kind (b ∷ text) = omega (arith, part-within kind b text)

decoded-end : (kind : TextKind) → decoded kind [] ≡ []
unfolding decoded
decoded-end kind =
    ap (λ (r : List (List ℕ) × List ℕ). joined r.0) (each-none (next_part kind) [] refl)

-- one part, and the rest
decoded-step : (kind : TextKind) (b : ℕ) (text : List ℕ)
    → decoded kind (b ∷ text) ≡ (part_at kind b text).0 ++ decoded kind (part_at kind b text).1
unfolding decoded
decoded-step kind b text =
    ap (λ (r : List (List ℕ) × List ℕ). joined r.0)
    (each-some (next_part kind) (next_part-takes kind) (b ∷ text) (part_at kind b text).1
    (part_at kind b text).0 refl)

-- the loop: what was appended, and what the rest stands for
pub pushed-step : (kind : TextKind) (b : ℕ) (text rest here old new : List ℕ) → here ≡ b ∷ text
    → new ≡ old ++ (part_at kind b text).0 → rest ≡ (part_at kind b text).1
    → new ++ decoded kind rest ≡ old ++ decoded kind here
pushed-step kind b text rest here old new e f g =
    let part : List ℕ × List ℕ = part_at kind b text in
    ap (λ (x : List ℕ). x ++ decoded kind rest) f
    ∙ ap (λ (x : List ℕ). (old ++ part.0) ++ decoded kind x) g
    ∙ append_assoc old part.0 (decoded kind part.1)
    ∙ ap (λ (x : List ℕ). old ++ x) (sym (decoded-step kind b text))
    ∙ ap (λ (x : List ℕ). old ++ decoded kind x) (sym e)

pub pushed-end : (kind : TextKind) (rest out all : List ℕ) → rest ≡ [] → out ++ decoded kind rest ≡ all
    → out ≡ all
pushed-end kind rest out all e h =
    sym (append-nil out) ∙ ap (λ (x : List ℕ). out ++ x) (sym (decoded-end kind))
    ∙ ap (λ (x : List ℕ). out ++ decoded kind x) (sym e) ∙ h
