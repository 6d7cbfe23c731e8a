-- Putting pieces together, step by step.
use Rattle.std.proofs.Common.{◌≡◌, ℕ, zero, suc, ◌<◌, ◌-◌, List, [], ◌∷◌, Some, None, arith, refl, ap, if◌then◌else◌, Bool, true, false}
use Rattle.css_text.proofs.reading.EachLemmas.{each-none, each-some}
use Rattle.css_values.specs.Pieces.{Piece, piece}
use Rattle.css_values.specs.Substitution.{Outcome, invalid, is, waits, nothing, Target, then_value, piece_value, put_together, substituted}
use Rattle.css_values.specs.Resolution.{IsDone}
use Rattle.css_values.specs.Views.{draft_of, value_of}
use Rattle.css_values.specs.declared.drafts.Draft.{Draft}
use Rattle.css_values.specs.internal.Readings.{to_come}
use Rattle.css_values.proofs.PieceLemmas.{piece-takes}

-- what waits still waits
pub waits-stay : (value : Piece → Outcome) (limit n : ℕ) (more : List Piece)
    → put_together value limit (waits n) more ≡ waits n
waits-stay value limit n [] = refl
waits-stay value limit n (p ∷ more) = waits-stay value limit n more

pub to_come-none : (n limit : ℕ) (names : List ℕ → Target) (so_far : Outcome) (rest : List ℕ)
    → piece rest ≡ None → to_come n limit names so_far rest ≡ so_far
to_come-none n limit names so_far rest e =
    ap (λ (r : List Piece × List ℕ). put_together (piece_value (substituted n limit names) names) limit so_far r.0)
    (each-none piece rest e)

pub to_come-some : (n limit : ℕ) (names : List ℕ → Target) (so_far : Outcome) (rest left : List ℕ)
    (p : Piece) → piece rest ≡ Some (p, left)
    → to_come n limit names so_far rest
    ≡ to_come n limit names (then_value limit so_far (piece_value (substituted n limit names) names p)) left
to_come-some n limit names so_far rest left p e =
    ap (λ (r : List Piece × List ℕ). put_together (piece_value (substituted n limit names) names) limit so_far r.0)
    (each-some piece piece-takes rest left p e)

one_less : (n : ℕ) → suc n - 1 ≡ n
one_less n = omega arith

pub substituted-begins : (n limit : ℕ) (names : List ℕ → Target) (text : List ℕ) → 0 < n
    → to_come (n - 1) limit names (is nothing) text ≡ substituted n limit names text
unfolding substituted
substituted-begins zero limit names text h = absurd (omega arith)
substituted-begins (suc n) limit names text h =
    ap (λ (k : ℕ). to_come k limit names (is nothing) text) (one_less n)

pub substituted-none : (n limit : ℕ) (names : List ℕ → Target) (text : List ℕ) → n ≡ 0
    → substituted n limit names text ≡ invalid
unfolding substituted
substituted-none zero limit names text h = refl
substituted-none (suc n) limit names text h = absurd (omega arith)

pub draft-done : (d : Draft) → IsDone (draft_of d)
draft-done d = by d.valid
  where
    by : (t : Bool) → IsDone (if t then is (value_of d.value) else invalid)
    by true = tt
    by false = tt

pub then-waits : (limit n : ℕ) (so_far : Outcome) → IsDone so_far
    → then_value limit so_far (waits n) ≡ waits n
then-waits limit n invalid h = refl
then-waits limit n (is value) h = refl
then-waits limit n (waits m) h = absurd h

pub then-invalid : (limit : ℕ) (so_far : Outcome) → IsDone so_far
    → then_value limit so_far invalid ≡ invalid
then-invalid limit invalid h = refl
then-invalid limit (is value) h = refl
then-invalid limit (waits m) h = absurd h
