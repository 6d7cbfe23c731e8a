-- A depth's digits and what `parse` reads.
-- Serves `tree::{is_depth, spelled_depth}` (which field is a depth, and of what value).
use Rattle.std.proofs.Common.{◌≡◌, ℕ, ◌<◌, ◌^◌, Bool, true, false, cond, List, [], ◌∷◌, length, refl, sym, ap, ◌∙◌, subst, arith, get_or, Result, Err, None}
use Rattle.std.specs.Prelude.{◌&&◌, ◌==◌}
use Rattle.std.specs.List.{list_all}
use Rattle.std.specs.Char.{is_ascii_digit}
use Rattle.std.specs.Str.{all_ascii_digits}
use Rattle.std.specs.Str.Parse.{digits_value, ParsesUnsigned}
use Rattle.std.specs.Result.{OkIff}
use Rattle.std.proofs.lemmas.Str.Parse.{IsNumeralModel, numerals_by_value, tells_all_ascii_digits, parse_digits}
use Rattle.css_text.specs.AsciiBytes.{digit_zero}
use Rattle.cssq_tree.specs.TreeText.{is_depth, spelled_depth}

all_digits : (bs : List ℕ) → list_all is_ascii_digit bs ≡ all_ascii_digits bs
all_digits [] = refl
all_digits (c ∷ cs) = ap (λ b. is_ascii_digit c && b) (all_digits cs)

digits_from : (c : ℕ) (cs : List ℕ) → (first : Bool) → (c == digit_zero) ≡ first
    → cond first (length cs == 0) (list_all is_ascii_digit (c ∷ cs)) ≡ true
    → all_ascii_digits (c ∷ cs) ≡ true
digits_from c [] true zero ok = grind arith
digits_from c (d ∷ cs) true zero ok = grind arith
digits_from c cs false other ok = sym (all_digits (c ∷ cs)) ∙ ok

pub digits : (bs : List ℕ) → is_depth bs ≡ true → (all_ascii_digits bs ≡ true) × (0 < length bs)
digits [] ok = absurd (cc)
digits (c ∷ cs) ok = (digits_from c cs (c == digit_zero) refl ok, omega arith)

own : IsNumeralModel (λ ds. all_ascii_digits ds ≡ true) (digits_value 10)
own = numerals_by_value _ tells_all_ascii_digits

reads : {E : Type 0} (bs : List ℕ) (r : Result ℕ E) → ParsesUnsigned 64 10 bs r → is_depth bs ≡ true
    → OkIff r ((0 < length bs) × (digits_value 10 bs < 2 ^ 64)) (digits_value 10 bs)
reads bs r parsed ok = parse_digits own 64 bs r parsed (digits bs ok).0

pub depth_other : (limit : ℕ) (bs : List ℕ) → is_depth bs ≡ false → None ≡ spelled_depth limit bs
depth_other limit bs other = grind arith

pub depth_unparsed : {E : Type 0} (limit : ℕ) (bs : List ℕ) (r : Result ℕ E) (e : E)
    → ParsesUnsigned 64 10 bs r → is_depth bs ≡ true → r ≡ Err e → limit < 2 ^ 64
    → None ≡ spelled_depth limit bs
depth_unparsed {E} limit bs r e parsed ok was fits =
    let refused =
    subst (λ r. OkIff r ((0 < length bs) × (digits_value 10 bs < 2 ^ 64)) (digits_value 10 bs)) was
    (reads bs r parsed ok) in
    grind arith

pub depth_digits : (bs : List ℕ) → 0 < length bs → (get_or bs 0 0 ≡ digit_zero → ⊥)
    → list_all is_ascii_digit bs ≡ is_depth bs
depth_digits [] some other = absurd (omega arith)
depth_digits (c ∷ cs) some other = grind arith
