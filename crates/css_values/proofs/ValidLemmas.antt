-- Valid pieces, step by step.
use Rattle.std.proofs.Common.{◌≡◌, ◌∙◌, ℕ, zero, suc, ◌<◌, ◌-◌, ◌&&◌, Bool, true, false, List, Some, None, arith, refl, ap}
use Rattle.css_text.proofs.reading.EachLemmas.{each-none, each-some}
use Rattle.css_values.specs.Pieces.{Piece, piece, pieces}
use Rattle.css_values.specs.Validity.{piece_valid, all_valid, is_valid}
use Rattle.css_values.proofs.PieceLemmas.{piece-takes}

abbrev pub valid_from : ℕ → List ℕ → Bool
valid_from n rest = all_valid (piece_valid (is_valid n)) (pieces rest)

pub valid_from-none : (n : ℕ) (rest : List ℕ) → piece rest ≡ None → valid_from n rest ≡ true
valid_from-none n rest e =
    ap (λ (r : List Piece × List ℕ). all_valid (piece_valid (is_valid n)) r.0)
    (each-none piece rest e)

pub valid_from-some : (n : ℕ) (rest left : List ℕ) (p : Piece) (b : Bool)
    → piece rest ≡ Some (p, left) → piece_valid (is_valid n) p ≡ b
    → valid_from n rest ≡ (b && valid_from n left)
valid_from-some n rest left p b e h =
    ap (λ (r : List Piece × List ℕ). all_valid (piece_valid (is_valid n)) r.0)
    (each-some piece piece-takes rest left p e)
    ∙ ap (λ (x : Bool). x && valid_from n left) h

one_less : (n : ℕ) → suc n - 1 ≡ n
one_less n = omega arith

pub valid-begins : (n : ℕ) (text : List ℕ) → 0 < n → valid_from (n - 1) text ≡ is_valid n text
unfolding is_valid
valid-begins zero text h = absurd (omega arith)
valid-begins (suc n) text h = ap (λ (k : ℕ). valid_from k text) (one_less n)

pub valid-zero : (n : ℕ) (text : List ℕ) → n ≡ 0 → is_valid n text ≡ false
unfolding is_valid
valid-zero zero text h = refl
valid-zero (suc n) text h = absurd (omega arith)
