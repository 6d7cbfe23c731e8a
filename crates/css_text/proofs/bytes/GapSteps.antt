-- A gap, a part at a time.
-- Serves `scan::{closed_part, long_gap, find_gap}` (a gap consumed part by part).
use Rattle.std.proofs.Common.{◌≡◌, ℕ, ◌+◌, Bool, true, false, ◌||◌, nat_lt, List, drop, Some, None, refl, sym, ap, ◌∙◌, subst, [], ◌∷◌, arith}
use Rattle.std.proofs.lemmas.Bool.{lt-ltb, or_parts}
use Rattle.std.specs.List.{prefix_len}
use Rattle.std.specs.Str.{IsUtf8, IsCharBoundary}
use Rattle.std.proofs.Math.Bool.{or_assoc}
use Rattle.std.proofs.lemmas.List.{drop-drop}
use Rattle.std.proofs.lemmas.Str.{IsCharBoundary-start, IsCharBoundary-from_rest}
use Rattle.css_text.specs.Reading.{each, followed_by}
use Rattle.css_text.specs.Comments.{blank_part, past_blank, has_space, opens_comment}
use Rattle.css_text.proofs.bytes.CutLemmas.{IsCharBoundary-prefix_len, is_space-ascii}
use Rattle.css_text.proofs.bytes.RunLemmas.{starts_by-past, past-yes, past-no}
use Rattle.css_text.proofs.reading.EachLemmas.{each-none, each-some}
use Rattle.css_text.proofs.reading.TakesLemmas.{blank_part-takes}
use Rattle.css_text.specs.Characters.{is_space}
use Rattle.css_text.specs.Bytes.{starts_by, past}

-- The first bytes of the text are parts of its gap, and this reports whether a space byte is among
-- them.
pub record Passed (text : List ℕ) (len : ℕ) (spaced : Bool) : Type 0 where
  pub boundary : IsCharBoundary text len
  pub rest : past_blank text ≡ past_blank (drop len text)
  pub space : has_space text ≡ (spaced || has_space (drop len text))

pub passed-start : (text : List ℕ) → IsUtf8 text → Passed text 0 false
passed-start text u = record { boundary = IsCharBoundary-start text u; rest = refl; space = refl }

pub passed-step : (text : List ℕ) (len n : ℕ) (spaced space : Bool) → Passed text len spaced
    → blank_part (drop len text) ≡ Some (space, drop n (drop len text))
    → IsCharBoundary (drop len text) n → Passed text (len + n) (spaced || space)
passed-step text len n spaced space p e b =
    let rest : drop n (drop len text) ≡ drop (len + n) text = drop-drop n len text in
    let step : each blank_part (drop len text) ≡ followed_by space
    (each blank_part (drop (len + n) text))
    = each-some blank_part blank_part-takes (drop len text) (drop (len + n) text) space
    (e ∙ ap (λ r. Some (space, r)) rest) in
    let spaces : has_space (drop len text) ≡ (space || has_space (drop (len + n) text)) =
    rw step refl in
    record {
      boundary = IsCharBoundary-from_rest text len n p.boundary.0 b;
      rest = p.rest ∙ ap (λ r. r.1) step;
      space =
          p.space ∙ ap (λ s. spaced || s) spaces
          ∙ sym (or_assoc spaced space (has_space (drop (len + n) text)));
    }

-- where there is no further part
pub passed-rest : (text : List ℕ) (len : ℕ) (spaced : Bool) → Passed text len spaced
    → blank_part (drop len text) ≡ None → past_blank text ≡ drop len text
passed-rest text len spaced p e = p.rest ∙ ap (λ r. r.1) (each-none blank_part (drop len text) e)

pub passed-space : (text : List ℕ) (len : ℕ) (spaced : Bool) → Passed text len spaced
    → blank_part (drop len text) ≡ None → spaced ≡ has_space text
passed-space text len spaced p e =
    let none : has_space (drop len text) ≡ false =
    rw (each-none blank_part (drop len text) e) refl in
    sym (p.space ∙ ap (λ s. spaced || s) none ∙ or_false spaced)
  where
    or_false : (b : Bool) → (b || false) ≡ b
    or_false true = refl
    or_false false = refl

-- a text at whose front no part of a gap begins
pub blank_part-none : (text : List ℕ) → (starts_by is_space text || opens_comment text) ≡ false
    → blank_part text ≡ None
blank_part-none [] e = refl
blank_part-none (b ∷ text) e =
    let parts = or_parts (is_space b) (opens_comment (b ∷ text)) e in
    rw (parts.0, parts.1) refl

-- a space byte at the front is a part of the gap
each-space : (b : ℕ) (text : List ℕ) → is_space b ≡ true
    → each blank_part (b ∷ text) ≡ followed_by true (each blank_part text)
each-space b text e = each-some blank_part blank_part-takes (b ∷ text) text true (rw e refl)

-- the blank at the front continues after the space bytes that it begins with
past_blank-past_spaces : (text : List ℕ) → past_blank text ≡ past_blank (past is_space text)
past_blank-past_spaces [] = refl
past_blank-past_spaces (b ∷ text) = by (is_space b) refl (past_blank-past_spaces text)
  where
    by : (t : Bool) → is_space b ≡ t → past_blank text ≡ past_blank (past is_space text)
        → past_blank (b ∷ text) ≡ past_blank (past is_space (b ∷ text))
    by true e more =
        ap (λ r. r.1) (each-space b text e) ∙ more
        ∙ ap past_blank (sym (past-yes is_space b text e))
    by false e more = ap past_blank (sym (past-no is_space b text e))

has_space-past_spaces : (text : List ℕ)
    → has_space text ≡ (nat_lt 0 (prefix_len is_space text) || has_space (past is_space text))
has_space-past_spaces [] = refl
has_space-past_spaces (b ∷ text) = by (is_space b) refl
  where
    by : (t : Bool) → is_space b ≡ t
        → has_space (b ∷ text)
        ≡ (nat_lt 0 (prefix_len is_space (b ∷ text)) || has_space (past is_space (b ∷ text)))
    by true e =
        let here : has_space (b ∷ text) ≡ true = rw (each-space b text e) refl in
        let more : prefix_len is_space (b ∷ text) ≡ 1 + prefix_len is_space text = rw e refl in
        let some : nat_lt 0 (prefix_len is_space (b ∷ text)) ≡ true =
        lt-ltb 0 (prefix_len is_space (b ∷ text)) (omega arith) in
        here ∙ sym (ap (λ t. t || has_space (past is_space (b ∷ text))) some)
    by false e = rw e refl

-- the space bytes at the front
pub passed-spaces : (text : List ℕ) (len : ℕ) → IsUtf8 text → len ≡ prefix_len is_space text
    → Passed text len (nat_lt 0 len)
passed-spaces text len u e = subst (λ (n : ℕ). Passed text n (nat_lt 0 n)) (sym e) (record {
  boundary = IsCharBoundary-prefix_len is_space is_space-ascii text u;
  rest = past_blank-past_spaces text;
  space = has_space-past_spaces text;
})

-- where no comment opens after the space bytes at the front, no part of the gap is there
pub no_part-after_spaces : (text : List ℕ) (len : ℕ) → len ≡ prefix_len is_space text
    → opens_comment (drop len text) ≡ false → blank_part (drop len text) ≡ None
no_part-after_spaces text len e closed =
    let solid : starts_by is_space (drop len text) ≡ false = rw e (starts_by-past is_space text) in
    blank_part-none (drop len text) (rw (solid, closed) refl)
