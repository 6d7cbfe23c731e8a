-- What a text stands for, part by part.
use Rattle.std.proofs.Common.{◌≡◌, ◌∙◌, ◌≤◌, ◌&&◌, ◌==◌, ℕ, Bool, true, false, not, if◌then◌else◌, List, [], ◌∷◌, ◌++◌, length, codes, Option, Some, None, arith, refl, sym, ap, append_assoc, append-nil}
use Rattle.std.specs.List.{list_all}
use Rattle.std.proofs.Math.Utf8.{encode}
use Rattle.std.proofs.lemmas.Bool.{and_parts}
use Rattle.css_text.specs.AsciiBytes.{double_quote, newline, carriage_return}
use Rattle.css_text.specs.Reading.{each}
use Rattle.css_text.specs.Bytes.{past_byte}
use Rattle.css_text.proofs.reading.EachLemmas.{Takes, each-none, each-some}
use Rattle.css_text.proofs.reading.TakesLemmas.{length-past_byte}
use Rattle.css_html.specs.References.{reference, number_of, past_digits, numbered}
use Rattle.css_html.specs.Decoding.{ampersand, nul_of, has_references, is_value, or_ampersand, part_at, next_part, joined, decoded}
use Rattle.css_html.specs.Written.{escaped_byte, escaped_value, is_no_nul}
use Rattle.css_html.specs.declared.decoding.TextKind.{TextKind}
use Rattle.css_html.specs.declared.decoding.TextKind.TheVariants.{Value}
use Rattle.css_html.proofs.ReferenceLemmas.{LeavesNoMore, reference-leaves, amp-read, quot-read}

or_ampersand-within : (text : List ℕ) (o : Option (List ℕ × List ℕ)) → LeavesNoMore text o
    → length (or_ampersand text o).1 ≤ length text
or_ampersand-within text None h = omega arith
or_ampersand-within text (Some x) h = h

pub part-within : (kind : TextKind) (b : ℕ) (text : List ℕ) → length (part_at kind b text).1 ≤ length text
unfolding part_at
part-within kind b text =
    by (b == carriage_return) (b == 0) (b == ampersand && has_references kind)
  where
    found : List ℕ × List ℕ
    found = or_ampersand text (reference (is_value kind) text)

    by : (c z k : Bool)
        → length (if c then (newline ∷ [], past_byte newline text)
        else (if z then (nul_of kind, text) else (if k then found else (b ∷ [], text)))).1 ≤ length text
    by true z k = length-past_byte newline text
    by false true k = omega arith
    by false false true =
        or_ampersand-within text (reference (is_value kind) text) (reference-leaves (is_value kind) text)
    by false false false = omega arith

next_part-takes : (kind : TextKind) → Takes (next_part kind)
next_part-takes kind [] = tt
next_part-takes kind (b ∷ text) = omega (arith, part-within kind b text)

pub decoded-end : (kind : TextKind) → decoded kind [] ≡ []
unfolding decoded
decoded-end kind =
    ap (λ (r : List (List ℕ) × List ℕ). joined r.0) (each-none (next_part kind) [] refl)

-- one part, and the rest
pub decoded-step : (kind : TextKind) (b : ℕ) (text : List ℕ)
    → decoded kind (b ∷ text) ≡ (part_at kind b text).0 ++ decoded kind (part_at kind b text).1
unfolding decoded
decoded-step kind b text =
    ap (λ (r : List (List ℕ) × List ℕ). joined r.0)
    (each-some (next_part kind) (next_part-takes kind) (b ∷ text) (part_at kind b text).1
    (part_at kind b text).0 refl)

-- the loop: what was appended, and what the rest stands for
pub pushed-step : (kind : TextKind) (b : ℕ) (text rest here old new : List ℕ) → here ≡ b ∷ text
    → new ≡ old ++ (part_at kind b text).0 → rest ≡ (part_at kind b text).1
    → new ++ decoded kind rest ≡ old ++ decoded kind here
pushed-step kind b text rest here old new e f g =
    let part : List ℕ × List ℕ = part_at kind b text in
    ap (λ (x : List ℕ). x ++ decoded kind rest) f
    ∙ ap (λ (x : List ℕ). (old ++ part.0) ++ decoded kind x) g
    ∙ append_assoc old part.0 (decoded kind part.1)
    ∙ ap (λ (x : List ℕ). old ++ x) (sym (decoded-step kind b text))
    ∙ ap (λ (x : List ℕ). old ++ decoded kind x) (sym e)

pub pushed-end : (kind : TextKind) (rest out all : List ℕ) → rest ≡ [] → out ++ decoded kind rest ≡ all
    → out ≡ all
pushed-end kind rest out all e h =
    sym (append-nil out) ∙ ap (λ (x : List ℕ). out ++ x) (sym (decoded-end kind))
    ∙ ap (λ (x : List ℕ). out ++ decoded kind x) (sym e) ∙ h

-- ---- what is written

part-escaped : (b : ℕ) (more : List ℕ) → (b == 0) ≡ false
    → next_part Value (escaped_byte b ++ more) ≡ Some (b ∷ [], more)
unfolding part_at number_of past_digits numbered each encode
part-escaped b more plain =
    by (b == ampersand) (b == double_quote) (b == carriage_return) refl refl refl
  where
    by : (k q c : Bool) → (b == ampersand) ≡ k → (b == double_quote) ≡ q → (b == carriage_return) ≡ c
        → next_part Value
        ((if k then codes "&amp;" else (if q then codes "&quot;"
        else (if c then codes "&#13;" else b ∷ []))) ++ more) ≡ Some (b ∷ [], more)
    by true q c e f g =
        let same : b ≡ ampersand = grind (arith, e) in
        ap (λ (o : Option (List ℕ × List ℕ)). Some (or_ampersand (codes "amp;" ++ more) o))
        (amp-read more true) ∙ rw same refl
    by false true c e f g =
        let same : b ≡ double_quote = grind (arith, f) in
        ap (λ (o : Option (List ℕ × List ℕ)). Some (or_ampersand (codes "quot;" ++ more) o))
        (quot-read more true) ∙ rw same refl
    by false false true e f g =
        let same : b ≡ carriage_return = grind (arith, g) in rw same refl
    by false false false e f g = rw (g, plain, e) refl

-- a value that is written stands for itself
pub decoded-escaped : (value : List ℕ) → list_all is_no_nul value ≡ true
    → decoded Value (escaped_value value) ≡ value
unfolding decoded
decoded-escaped [] h =
    ap (λ (r : List (List ℕ) × List ℕ). joined r.0) (each-none (next_part Value) [] refl)
decoded-escaped (b ∷ value) h =
    let k = and_parts (is_no_nul b) (list_all is_no_nul value) h in
    ap (λ (r : List (List ℕ) × List ℕ). joined r.0)
    (each-some (next_part Value) (next_part-takes Value) (escaped_byte b ++ escaped_value value)
    (escaped_value value) (b ∷ []) (part-escaped b (escaped_value value) (not_nul b k.0)))
    ∙ ap (λ (r : List ℕ). b ∷ r) (decoded-escaped value k.1)
  where
    not_nul : (b : ℕ) → is_no_nul b ≡ true → (b == 0) ≡ false
    not_nul b h = by (b == 0) h
      where
        by : (k : Bool) → not k ≡ true → k ≡ false
        by true e = absurd (cc e)
        by false e = refl
